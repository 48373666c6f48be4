-- The scope of a selection is the open one at the place that stands beside its third cell, and its constraint is the one whose ID begins the records of its number.
-- Assumes nothing.
use Prim.Native.Nat.{ℕ, ◌*◌, ◌%◌, ◌≤◌, ◌<◌}
use native.Mathlib.Omega.{arith}
use lib.ListN.{length, get_or, get_elem?}
use lib.Seq.{take_all}
use mathlib.Core.Path.{◌≡◌, refl, ap, sym, ◌∙◌, subst}
use mathlib.Core.Bool.{Bool, true, false}
use mathlib.Core.Option.{Option, none, some}
use Rattle.std.specs.declared.option.Option as code
use Rattle.std.specs.declared.option.Option.TheVariants.{Some, None}
use Rattle.std.specs.Option.{is_some}
use Rattle.lists.specs.Lists.{part}
use Rattle.lists.proofs.Places.{get_elem-some, All-get_elem, alike_at}
use Rattle.tree.specs.Events as tree
use Rattle.tree.specs.Events.{Constraint}
use Rattle.tree.specs.Judge.{present}
use Rattle.machine.specs.Machine.{OpenScope, Selection}
use Rattle.records.specs.Readers.{Bytes}
use Rattle.record_places.specs.declared.Place.{Place}
use Rattle.session_spec.specs.Definitions.{Definition, kind_of, constraint_at}
use Rattle.session_spec.specs.Layout.{ScopeRecord, put_scope, place_of}
use Rattle.session_laws.proofs.Areas.{selection-width}
use Rattle.session_laws.proofs.Constraints.{ConstraintFit}
use Rattle.bindings.specs.Bindings.{frames_in}
use Rattle.bindings.specs.Own.{own_frames}
use Rattle.cells.specs.Cells.{scope_at}
use Rattle.cells.proofs.Selections.{scope-here}
use Rattle.constraints.specs.declared.Parts.{Parts}
use Rattle.constraints.specs.Constraints.{joined, id_at, refer_of, PartsOf}
use Rattle.constraints.proofs.Replays.{ids-few}
use Rattle.constraints.proofs.Stored.{constraint-is, kind_at, refer-at, fields_at}
use Rattle.tuple_search.specs.declared.Made.{Made}
use Rattle.tuple_search.specs.Search.{keys_in, MadeOf}
use Rattle.open_scopes.specs.declared.Scope.{Scope}
use Rattle.open_scopes.specs.declared.Scopes.{Scopes}
use Rattle.open_scopes.specs.OpenScopes.{blank_scope, record_of, open_of, records_of}
use Rattle.settlements.specs.Finished.{Told, kind_in}
use Rattle.settlements.specs.declared.ConstraintKind.{ConstraintKind}
use Rattle.settlements.specs.Ending.{Ended, ScopesIn, StandsAt, HomeOf, KeptSize, report_or}

-- ---- the scope

whole : (l : Bytes) → length l ≡ 512 → part l 0 512 ≡ l
whole l e = take_all 512 l (omega arith)

module _ (k : Ended) (cells : Bytes) (j : ℕ) (x : Selection) (stands : StandsAt k cells j x) where
  abbrev own-bytes : Bytes
  own-bytes = part cells (512 * j) 512

  place_is : scope_at own-bytes 0 ≡ place_of x.scope.number k.scopes
  place_is =
      let w : length own-bytes ≡ 512 = ap length stands.bytes ∙ selection-width k.scopes x stands.fit in
      scope-here k.scopes x own-bytes 0 stands.fit.keys (whole own-bytes w ∙ stands.bytes)

  module _ (scopes : Scopes) (defs : Bytes) (there : ScopesIn k scopes defs) where
    scope-is : record_of (get_or (open_of scopes) (scope_at own-bytes 0) blank_scope) ≡ put_scope stands.fit.home
    unfolding records_of
    scope-is =
        alike_at record_of put_scope (open_of scopes) k.scopes (scope_at own-bytes 0) blank_scope stands.fit.home there.same
        (ap (get_elem? k.scopes) place_is ∙ stands.fit.found)

    -- its constraint is defined
    pub known_at : ConstraintFit k.defs x.scope.constraint
    known_at =
        subst (λ (s : tree.Scope). ConstraintFit k.defs s.constraint) stands.fit.scope
        (All-get_elem (λ (o : OpenScope). ConstraintFit k.defs o.scope.constraint) k.scopes (place_of x.scope.number k.scopes) stands.fit.home there.known stands.fit.found)

    module _ (place : ℕ) (p : place ≡ scope_at own-bytes 0) (sc : Scope) (e : sc ≡ get_or (open_of scopes) place blank_scope) where
      record_is : record_of sc ≡ put_scope stands.fit.home
      record_is = ap record_of (e ∙ ap (λ (i : ℕ). get_or (open_of scopes) i blank_scope) p) ∙ scope-is

      pub number_is : sc.number ≡ x.scope.number
      unfolding put_scope
      number_is = ap (λ (r : ScopeRecord). r.number) record_is ∙ ap (λ (s : tree.Scope). s.number) stands.fit.scope

      pub constraint-number : sc.constraint ≡ x.scope.constraint.number
      unfolding put_scope
      constraint-number = ap (λ (r : ScopeRecord). r.constraint) record_is ∙ ap (λ (s : tree.Scope). s.constraint.number) stands.fit.scope

-- ---- the constraint

present-is : (own : Bytes) (o : code.Option Place) → is_some o ≡ present (refer_of own o)
unfolding present
present-is own None = refl
present-is own (Some p) = refl

pub home-is : (k : Ended) (x : Selection) (cells : Bytes) (j : ℕ) (scopes : Scopes) (defs : Bytes) (sc : Scope) (own : Bytes) (p : Parts) (number : ℕ) (kind : ConstraintKind) (referred : Bool)
    → sc ≡ get_or (open_of scopes) (scope_at (part cells (512 * j) 512) 0) blank_scope → own ≡ joined (own_frames sc.constraint (frames_in defs)) → PartsOf own p
    → number ≡ sc.constraint % 256 → kind_in kind ≡ kind_of p.kind → referred ≡ is_some p.refer → ScopesIn k scopes defs → StandsAt k cells j x
    → HomeOf x (record { constraint = number; number = sc.number; kind = kind; referred = referred; fields = p.count })
home-is k x cells j scopes defs sc own p number kind referred e₀ e₁ says e₂ e e₃ there stands =
    let c : Constraint = x.scope.constraint in
    let place : ℕ = scope_at (part cells (512 * j) 512) 0 in
    let fit : ConstraintFit k.defs c = known_at k cells j x stands scopes defs there in
    let same : sc.constraint ≡ c.number = constraint-number k cells j x stands scopes defs there place refl sc e₀ in
    let few : length k.defs.ids ≤ 32 = ids-few defs k.defs there.defined in
    let low : c.number < length k.defs.ids = fit.defined in
    let g = get_elem-some k.defs.ids c.number fit.defined in
    let d : Definition = g.0 in
    let own_is : own ≡ joined (own_frames c.number (frames_in defs)) = e₁ ∙ ap (λ (n : ℕ). joined (own_frames n (frames_in defs))) same in
    let are = says.says d.id (ap id_at own_is ∙ constraint-is defs k.defs c.number d there.defined g.1) in
    let known : constraint_at k.defs c.number ≡ c = fit.known in
    record {
      constraint = e₂ ∙ ap (λ (n : ℕ). n % 256) same ∙ omega arith;
      number = number_is k cells j x stands scopes defs there place refl sc e₀;
      kind = e ∙ ap kind_of are.kind ∙ sym (kind_at k.defs c.number d g.1) ∙ ap (λ (q : Constraint). q.kind) known;
      referred = e₃ ∙ present-is own p.refer ∙ ap present (are.refer ∙ sym (refer-at k.defs c.number d g.1) ∙ ap (λ (q : Constraint). q.refer) known);
      fields =
          are.count
          ∙ sym (fields_at k.defs c.number d g.1)
          ∙ ap (λ (q : Constraint). length q.fields) known
          ∙ sym stands.fit.many;
    }

-- ---- sizes and counts

pub none_kept : (keeps : Bool) (fields : ℕ) (cells : Bytes) → keeps ≡ false → KeptSize keeps fields cells 0
none_kept keeps fields cells h = record { same = rw h; short = omega arith }

pub one_kept : (keeps : Bool) (fields : ℕ) (cells : Bytes) (m : Made) → keeps ≡ true → MadeOf 0 0 (keys_in fields cells) m → KeptSize keeps fields cells m.size
one_kept keeps fields cells m h made = record { same = rw h made.sized; short = made.short }

pub one_at_most : (o : Option Told) (r : ℕ) → r ≡ report_or o → r ≤ 1
one_at_most none r e = omega arith
one_at_most (some t) r e = omega arith
