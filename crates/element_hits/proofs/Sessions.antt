-- Scope by scope: the numbers of the selections whose scope is done are their hits, and the others are 0. Each selection's scope is one of the open ones.
-- Assumes nothing.
use Prim.Native.Nat.{ℕ, zero, suc, ◌+◌, ◌*◌, ◌≤◌, ◌<◌}
use native.Mathlib.Omega.{arith}
use borrow.Author.Tests.{ltb-true, ltb-false}
use lib.Dec.{ltb}
use lib.ListN.{length, drop, get_or, get_elem?, replicate, length-replicate, get_or-replicate}
use mathlib.Core.Path.{◌≡◌, refl, ap, sym, ◌∙◌}
use mathlib.Core.Bool.{Bool, true, false, cond}
use mathlib.Core.List.{List, [], ◌∷◌, map}
use mathlib.Core.Option.{none, some, some-injective}
use Rattle.lists.proofs.Places.{get_elem-some, All-get_elem, found-within}
use Rattle.paths.specs.Names.{Name}
use Rattle.paths.specs.Reading.{every}
use Rattle.tree.specs.Events.{Constraint}
use Rattle.tree.specs.Cells.{reach}
use Rattle.machine.specs.Machine.{OpenScope, Selection}
use Rattle.records.specs.Readers.{Bytes}
use Rattle.session_spec.specs.Definitions.{Definitions, constraint_at}
use Rattle.session_spec.specs.Layout.{ScopeRecord, parts, place_of, put_scope, selection_in}
use Rattle.session_laws.proofs.Areas.{SelectionFit}
use Rattle.session_laws.proofs.Constraints.{ConstraintFit}
use Rattle.cells.specs.Cells.{depth_at, scope_at}
use Rattle.open_scopes.specs.OpenScopes.{record_of, blank_scope, open_of, records_of}
use Rattle.open_scopes.specs.declared.Scope.{Scope}
use Rattle.open_scopes.specs.declared.Scopes.{Scopes}
use Rattle.open_scopes.proofs.Places.{as_many}
use Rattle.path_area.specs.Scratch.{Scratched}
use Rattle.path_area.proofs.Scratch.{scratch-same, scratch-then}
use Rattle.reaching.specs.Rows.{picked}
use Rattle.reaching.proofs.Selected.{depth_is, scope-is}
use Rattle.element_hits.specs.ElementHits.{hits_of, hits_at, Described, HitsOf}
use Rattle.element_hits.specs.Rows.{Blank, ScopeOf}
use Rattle.element_hits.proofs.Belongs.{was-picked, unpicked}

-- ---- members by their places

past : {A : Type 0} (l : List A) (i : ℕ) → length l ≤ i → get_elem? l i ≡ none
past [] i h = refl
past (x ∷ l) zero h = absurd (omega arith)
past (x ∷ l) (suc i) h = past l i (omega arith)

-- the record at a place
record-at : (l : List Scope) (os : List OpenScope) (k : ℕ) (o : OpenScope) → map record_of l ≡ map put_scope os → get_elem? os k ≡ some o
    → (get_or l k blank_scope).constraint ≡ o.scope.constraint.number
unfolding put_scope
record-at l [] k o e h = let z : ◌≡◌ {A = ℕ} 0 1 = cc in absurd (omega arith)
record-at [] (x ∷ os) k o e h = let z : ◌≡◌ {A = ℕ} 0 1 = ap length e ∙ absurd (omega (arith, ap length e)) in absurd (omega arith)
record-at (s ∷ l) (x ∷ os) zero o e h =
    let a : record_of s ≡ put_scope x = cc in
    let b : x ≡ o = some-injective x o h in
    ap (λ (r : ScopeRecord). r.constraint) a ∙ ap (λ (y : OpenScope). y.scope.constraint.number) b
record-at (s ∷ l) (x ∷ os) (suc k) o e h =
    let a : map record_of l ≡ map put_scope os = cc in
    record-at l os k o a h

-- ---- one selection

module _ (cells : Bytes) (n : ℕ) (scopes : Scopes) (names : Bytes) (depth : ℕ) (defs before : Bytes) where
  module _ (d : Definitions) (nm : List Name) (os : List OpenScope) (ss : List Selection) (g : Described cells n scopes names depth defs before d nm os ss) where
    selected : every (selection_in os) (parts 512 (length ss) cells) ≡ some ss
    selected = ap (λ (m : ℕ). every (selection_in os) (parts 512 m cells)) (sym g.many) ∙ g.selected

    no-hits : (f j : ℕ) → n ≤ j → hits_at nm ss f j ≡ 0
    unfolding hits_at hits_of
    no-hits f j h = ap (hits_of nm f) (past ss j (omega (arith, g.many)))

    module _ (j : ℕ) (s : Selection) (at : get_elem? ss j ≡ some s) where
      fits : SelectionFit os s
      fits = All-get_elem (SelectionFit os) ss j s g.fit at

      place_is : scope_at cells (512 * j) ≡ place_of s.scope.number os
      place_is = scope-is os ss cells selected g.fit j s at

      -- its scope is open
      is-open : scope_at cells (512 * j) < length (open_of scopes)
      is-open =
          let many = as_many scopes os g.opened in
          omega (arith, place_is, many, found-within os (place_of s.scope.number os) fits.home fits.found)

      -- A ROW'S NUMBER, of the constraint at the selection's place, is the selection's hits
      hits-are : (f : ℕ) (one : ℕ) → one ≡ (get_or (open_of scopes) (scope_at cells (512 * j)) blank_scope).constraint
          → reach (get_or (constraint_at d one).fields f []) (drop (depth_at cells (512 * j)) nm) none ≡ hits_at nm ss f j
      unfolding hits_at hits_of records_of
      hits-are f one e =
          let home : OpenScope = fits.home in
          let found : get_elem? os (scope_at cells (512 * j)) ≡ some home = ap (get_elem? os) place_is ∙ fits.found in
          let k : one ≡ home.scope.constraint.number = e ∙ record-at (open_of scopes) os (scope_at cells (512 * j)) home g.opened found in
          let c : ConstraintFit d home.scope.constraint = All-get_elem (λ (o : OpenScope). ConstraintFit d o.scope.constraint) os (scope_at cells (512 * j)) home g.known found in
          let q : constraint_at d one ≡ s.scope.constraint = ap (constraint_at d) k ∙ c.known ∙ ap (λ (x : Rattle.tree.specs.Events.Scope). x.constraint) fits.scope in
          ap (λ (x : Constraint). reach (get_or x.fields f []) (drop (depth_at cells (512 * j)) nm) none) q
          ∙ ap (λ (b : ℕ). reach (get_or s.scope.constraint.fields f []) (drop b nm) none) (depth_is os ss cells selected g.fit j s at)
          ∙ ap (hits_of nm f) (sym at)

    -- the number of an open scope's constraint is defined
    is-defined : (k : ℕ) → k < length (open_of scopes) → (get_or (open_of scopes) k blank_scope).constraint < length d.ids
    unfolding records_of
    is-defined k h =
        let p = get_elem-some os k (omega (arith, as_many scopes os g.opened)) in
        let c : ConstraintFit d p.0.scope.constraint = All-get_elem (λ (o : OpenScope). ConstraintFit d o.scope.constraint) os k p.0 g.known p.1 in
        let e = record-at (open_of scopes) os k p.0 g.opened p.1 in
        rw e c.defined

  -- ---- scope by scope

  -- k scopes are done
  pub record Scoped (k : ℕ) (area counts : Bytes) : Type 0 where
    pub size : length counts ≡ 128
    pub scratched : Scratched before area
    pub done : (d : Definitions) (nm : List Name) (os : List OpenScope) (ss : List Selection) → Described cells n scopes names depth defs before d nm os ss
        → (f j : ℕ) → f < 4 → j < 32 → scope_at cells (512 * j) < k → get_or counts (32 * f + j) 0 ≡ hits_at nm ss f j
    pub left : (d : Definitions) (nm : List Name) (os : List OpenScope) (ss : List Selection) → Described cells n scopes names depth defs before d nm os ss
        → (f j : ℕ) → f < 4 → j < 32 → k ≤ scope_at cells (512 * j) → get_or counts (32 * f + j) 0 ≡ 0

  pub scoped-none : Scoped 0 before (replicate 128 0)
  scoped-none =
      record {
        size = length-replicate {A = ℕ} 128 0;
        scratched = scratch-same before;
        done = λ d nm os ss g f j h l m. absurd (omega arith);
        left = λ d nm os ss g f j h l m. get_or-replicate 128 (32 * f + j) 0 0 (omega arith);
      }

  module _ (k : ℕ) (area counts : Bytes) (q : Scoped k area counts) (low : k < length (open_of scopes)) (one : Scope) (oe : one ≡ get_or (open_of scopes) k blank_scope)
      (mid counts' : Bytes) (so : ScopeOf cells n k one.constraint names depth defs area counts mid counts') where
    module _ (d : Definitions) (nm : List Name) (os : List OpenScope) (ss : List Selection) (g : Described cells n scopes names depth defs before d nm os ss) where
      number_is : one.constraint ≡ (get_or (open_of scopes) k blank_scope).constraint
      number_is = ap (λ (x : Scope). x.constraint) oe

      blank : Blank cells n k counts
      blank f j h l e = let w = was-picked k n cells j e in q.left d nm os ss g f j h l (omega (arith, w.here))

      turned : (f j : ℕ) → f < 4 → j < 32
          → get_or counts' (32 * f + j) 0 ≡ cond (picked k n cells j) (reach (get_or (constraint_at d one.constraint).fields f []) (drop (depth_at cells (512 * j)) nm) none) (get_or counts (32 * f + j) 0)
      turned f j h l = so.says d nm g.defined g.named (omega (arith, q.scratched.size, g.room)) (rw number_is (is-defined d nm os ss g k low)) blank f j h l

      -- of this scope
      here : (f j : ℕ) → f < 4 → j < 32 → picked k n cells j ≡ true → get_or counts' (32 * f + j) 0 ≡ hits_at nm ss f j
      here f j h l e =
          let w = was-picked k n cells j e in
          let m : j < length ss = omega (arith, w.one, g.many) in
          let p = get_elem-some ss j m in
          turned f j h l
          ∙ ap (λ (b : Bool). cond b (reach (get_or (constraint_at d one.constraint).fields f []) (drop (depth_at cells (512 * j)) nm) none) (get_or counts (32 * f + j) 0)) e
          ∙ hits-are d nm os ss g j p.0 p.1 f one.constraint (number_is ∙ ap (λ (i : ℕ). (get_or (open_of scopes) i blank_scope).constraint) (sym w.here))

      -- of another, or none
      stays : (f j : ℕ) → f < 4 → j < 32 → picked k n cells j ≡ false → get_or counts' (32 * f + j) 0 ≡ get_or counts (32 * f + j) 0
      stays f j h l e =
          turned f j h l
          ∙ ap (λ (b : Bool). cond b (reach (get_or (constraint_at d one.constraint).fields f []) (drop (depth_at cells (512 * j)) nm) none) (get_or counts (32 * f + j) 0)) e

      all_done : (f j : ℕ) → f < 4 → j < 32 → scope_at cells (512 * j) < k + 1 → get_or counts' (32 * f + j) 0 ≡ hits_at nm ss f j
      all_done f j h l m = by (picked k n cells j) refl
        where
          old : picked k n cells j ≡ false → (b : Bool) → ltb (scope_at cells (512 * j)) k ≡ b → get_or counts (32 * f + j) 0 ≡ hits_at nm ss f j
          old e true z = q.done d nm os ss g f j h l (ltb-true (scope_at cells (512 * j)) k z)
          old e false z =
              let y = ltb-false (scope_at cells (512 * j)) k z in
              let x : n ≤ j = behind (ltb j n) refl in
              q.left d nm os ss g f j h l y ∙ sym (no-hits d nm os ss g f j x)
            where
              behind : (b : Bool) → ltb j n ≡ b → n ≤ j
              behind true t =
                  let v = ltb-true j n t in
                  let y = ltb-false (scope_at cells (512 * j)) k z in
                  absurd (unpicked k n cells j e (omega arith) (omega arith))
              behind false t = ltb-false j n t

          by : (b : Bool) → picked k n cells j ≡ b → get_or counts' (32 * f + j) 0 ≡ hits_at nm ss f j
          by true e = here f j h l e
          by false e = stays f j h l e ∙ old e (ltb (scope_at cells (512 * j)) k) refl

      all_left : (f j : ℕ) → f < 4 → j < 32 → k + 1 ≤ scope_at cells (512 * j) → get_or counts' (32 * f + j) 0 ≡ 0
      all_left f j h l m = by (picked k n cells j) refl
        where
          by : (b : Bool) → picked k n cells j ≡ b → get_or counts' (32 * f + j) 0 ≡ 0
          by true e = let w = was-picked k n cells j e in absurd (omega (arith, w.here))
          by false e = stays f j h l e ∙ q.left d nm os ss g f j h l (omega arith)

    pub scoped-one : Scoped (k + 1) mid counts'
    scoped-one =
        record {
          size = so.same ∙ q.size;
          scratched = scratch-then before area mid q.scratched so.scratched;
          done = λ d nm os ss g. all_done d nm os ss g;
          left = λ d nm os ss g. all_left d nm os ss g;
        }

  pub scoped-all : (k : ℕ) (area counts : Bytes) → Scoped k area counts → length (open_of scopes) ≤ k → HitsOf cells n scopes names depth defs before counts area
  scoped-all k area counts q h = record { says = says; sized = q.size; scratched = q.scratched }
    where
      says : (d : Definitions) (nm : List Name) (os : List OpenScope) (ss : List Selection) → Described cells n scopes names depth defs before d nm os ss
          → (f j : ℕ) → f < 4 → j < 32 → get_or counts (32 * f + j) 0 ≡ hits_at nm ss f j
      says d nm os ss g f j r l = by (ltb (scope_at cells (512 * j)) k) refl
        where
          behind : k ≤ scope_at cells (512 * j) → (b : Bool) → ltb j n ≡ b → n ≤ j
          behind y true t =
              let v = ltb-true j n t in
              let p = get_elem-some ss j (omega (arith, g.many)) in
              absurd (omega (arith, is-open d nm os ss g j p.0 p.1))
          behind y false t = ltb-false j n t

          by : (b : Bool) → ltb (scope_at cells (512 * j)) k ≡ b → get_or counts (32 * f + j) 0 ≡ hits_at nm ss f j
          by true z = q.done d nm os ss g f j r l (ltb-true (scope_at cells (512 * j)) k z)
          by false z =
              let y = ltb-false (scope_at cells (512 * j)) k z in
              q.left d nm os ss g f j r l y ∙ sym (no-hits d nm os ss g f j (behind y (ltb j n) refl))
