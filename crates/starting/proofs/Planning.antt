-- What the sets of places that were found say of the session: its new scopes, its new selections, and its reports of kind 6; and what the name's bytes say.
-- Assumes nothing.
use Prim.Native.Nat.{ℕ, suc, ◌+◌, ◌*◌, ◌≤◌, ◌<◌}
use native.Mathlib.Omega.{arith}
use lib.ListN.{length, take, drop, length-map, length-append}
use borrow.Author.Tests.{le-leb}
use mathlib.Core.Path.{◌≡◌, refl, ap, ap₂, sym, ◌∙◌}
use mathlib.Core.List.{List, [], ◌∷◌, ◌++◌, map, flat_map, map-append, append-nil}
use mathlib.Core.Option.{some}
use Rattle.std.proofs.lemmas.List.{take-map, drop-map}
use Rattle.lists.specs.Lists.{part, over, put, foldl, All}
use Rattle.lists.proofs.Folds.{All-append, All-weaken, length-snoc}
use Rattle.lists.proofs.Places.{All-mapped}
use Rattle.lists.proofs.Writes.{put-fits}
use Rattle.texts.specs.Texts.{Text}
use Rattle.paths.specs.Names.{Name}
use Rattle.paths.specs.Reading.{every}
use Rattle.tree.specs.Events.{Scope, openings, opened, scopes_of}
use Rattle.tree.specs.Judge.{kind_six}
use Rattle.machine.specs.Machine.{OpenScope, State, at}
use Rattle.records.specs.Readers.{Bytes}
use Rattle.records.specs.Records.{EsRecord}
use Rattle.record_places.specs.declared.Es.{Es}
use Rattle.session_spec.specs.Definitions.{Definitions, constraint_at, defined_at}
use Rattle.session_spec.specs.Layout.{ScopeRecord, parts, put_name, name_in, put_scope}
use Rattle.session_spec.specs.Session.{Session, start_of}
use Rattle.session_laws.proofs.Constraints.{ConstraintFit, number_at}
use Rattle.session_laws.proofs.Outs.{ScopeFit}
use Rattle.session_laws.proofs.Areas.{name-width, names-back}
use Rattle.session_laws.proofs.Parts.{further}
use Rattle.session_laws.proofs.OpenScopes.{OpenFit, openings-fit}
use Rattle.open_names.specs.OpenNames.{short, with_name}
use Rattle.open_scopes.specs.declared.Scope as code
use Rattle.open_scopes.specs.declared.Scopes.{Scopes}
use Rattle.open_scopes.specs.declared.Numbers.{Numbers}
use Rattle.open_scopes.specs.OpenScopes.{record_of, records_of, pushed}
use Rattle.plans.specs.Plans.{listed, names_then, new_scopes, scopes_then, picked, selections_then, six_from, sixes}
use Rattle.start_places.specs.StartPass.{marked, Listed, Reading, Tells, numbered, Selecting}
use Rattle.std.specs.Prelude.{count_ones}
use Rattle.start_pass.proofs.Opened.{ScopesAre, opened-scopes, picked-are}
use Rattle.start_pass.proofs.Marks.{All-marked}
use Rattle.start_writes.specs.Writes as writes
use Rattle.start_writes.proofs.Pushes.{Pushes, pushed_open, length-new_scopes}
use Rattle.event_answers.specs.declared.Spot.{Spot}
use Rattle.event_answers.specs.StartSteps.{record_in, Begun}
use Rattle.starting.proofs.Places.{over-back}

-- ---- scopes as they are written

records-new : (d : Definitions) (n depth : ℕ) (cs : List ℕ) → All (λ (i : ℕ). i < length d.ids) cs
    → map record_of (writes.new_scopes n depth cs) ≡ map put_scope (map (at depth) (numbered n (map (constraint_at d) cs)))
unfolding writes.new_scopes numbered at put_scope
records-new d n depth [] a = refl
records-new d n depth (c ∷ cs) a =
    ap₂ {C = List ScopeRecord} (λ (k : ℕ) (l : List ScopeRecord). record { constraint = k; number = suc n; depth = depth } ∷ l) (sym (number_at d c a.0)) (records-new d (suc n) depth cs a.1)

over-mapped : (l : List code.Scope) (at : ℕ) (vs : List code.Scope) → map record_of (over l at vs) ≡ over (map record_of l) at (map record_of vs)
over-mapped l at vs =
    map-append record_of (take at l) (vs ++ drop (at + length vs) l)
    ∙ ap₂ {C = List ScopeRecord} ◌++◌ (sym (take-map record_of at l))
    (map-append record_of vs (drop (at + length vs) l)
    ∙ ap (λ (z : List ScopeRecord). map record_of vs ++ z) (sym (drop-map record_of (at + length vs) l) ∙ ap (λ (k : ℕ). drop (at + k) (map record_of l)) (sym (length-map vs record_of))))

module _ (n : Numbers) (spot : Spot) (scopes : Scopes) (es : Es) (rec defs reports names cells : Bytes) (s : Session)
    (b : Begun n spot scopes es rec defs reports names cells s) where
  abbrev r : EsRecord
  r = record_in rec es

  abbrev st : State
  st = s.state

  pub numbers-listed : Listed s.defs r.numbers
  unfolding start_of
  numbers-listed = record { known = b.fit.numbers; few = omega (arith, b.fit.eight) }

  pub longer : length (names_then s r) ≡ suc (length st.names)
  unfolding names_then
  longer = length-snoc st.names (start_of r).name

  pub depth_is : spot.depth ≡ length (names_then s r)
  depth_is = b.depth ∙ sym longer

  -- ---- the name

  abbrev at_name : ℕ
  at_name = 514 * length st.names

  name-wide : length (put_name (start_of r).name) ≡ 514
  name-wide = name-width (start_of r).name b.fit.name

  name-room : at_name + 514 ≤ length names
  name-room = omega (arith, b.deep, b.names_long)

  pub name-written : with_name names spot.above (start_of r).name ≡ over names at_name (put_name (start_of r).name)
  unfolding with_name short
  name-written =
      ap (λ (k : ℕ). with_name names k (start_of r).name) b.above
      ∙ rw (le-leb (length (start_of r).name.space) 255 b.fit.name.space, le-leb (length (start_of r).name.local) 255 b.fit.name.local)
      (put-fits names at_name (put_name (start_of r).name) (omega (arith, name-wide, name-room)))

  pub name-read : every name_in (parts 514 spot.depth (over names at_name (put_name (start_of r).name))) ≡ some (names_then s r)
  unfolding names_then flat_map
  name-read =
      let one : List Name = (start_of r).name ∷ [] in
      let e : flat_map put_name one ≡ put_name (start_of r).name = append-nil (put_name (start_of r).name) in
      ap₂ (λ (k : ℕ) (v : Bytes). every name_in (parts 514 k (over names at_name v))) depth_is (sym e)
      ∙ further 514 name_in names st.names one (flat_map put_name one) (omega (arith, name-room)) b.named (λ rest. names-back one rest (b.fit.name, tt))

  pub name_back : put (over names at_name (put_name (start_of r).name)) (514 * spot.above) (part names (514 * spot.above) 514) ≡ names
  name_back =
      rw b.above (over-back names at_name 514 (put_name (start_of r).name) name-wide name-room)

  -- ---- the scopes

  pub scopes-fit : All (λ (o : OpenScope). ConstraintFit s.defs o.scope.constraint) (scopes_then s r)
  unfolding scopes_then new_scopes listed at start_of
  scopes-fit =
      All-append (λ (o : OpenScope). ConstraintFit s.defs o.scope.constraint) st.scopes (new_scopes s r)
      (All-weaken (OpenFit s.defs st.count (length st.names)) (λ (o : OpenScope). ConstraintFit s.defs o.scope.constraint) (λ o f. f.scope.constraint)
      st.scopes b.fine.scopes)
      (All-mapped (λ (o : OpenScope). ConstraintFit s.defs o.scope.constraint) (ScopeFit s.defs (opened (defined_at s.defs) st.count r.numbers))
      (at (length (names_then s r))) (λ x f. f.constraint) (scopes_of (openings (defined_at s.defs) st.count r.numbers))
      (openings-fit s.defs st.count (opened (defined_at s.defs) st.count r.numbers) r.numbers b.fit.numbers (omega arith)))

  module _ (mask : ℕ) (rd : Reading s.defs r.numbers mask) where
    abbrev marks : List ℕ
    marks = marked mask 0 r.numbers

    are : ScopesAre s.defs st.count r.numbers marks
    are = opened-scopes s.defs mask r.numbers rd st.count

    pub opens-are : opened (defined_at s.defs) st.count r.numbers ≡ st.count + length marks
    opens-are = are.after

    new-are : new_scopes s r ≡ map (at spot.depth) (numbered st.count (map (constraint_at s.defs) marks))
    unfolding new_scopes listed
    new-are = ap₂ {C = List OpenScope} (λ (k : ℕ) (l : List Scope). map (at k) l) (sym depth_is) are.scopes

    pub new-many : length (new_scopes s r) ≡ length marks
    unfolding new_scopes listed
    new-many = length-map (scopes_of (openings (defined_at s.defs) st.count r.numbers)) (at (length (names_then s r))) ∙ are.many

    pub scopes-many : length (scopes_then s r) ≡ scopes.n + length marks
    unfolding scopes_then
    scopes-many = length-append st.scopes (new_scopes s r) ∙ ap₂ (λ (x y : ℕ). x + y) (sym b.held) new-many

    -- the new ones as they are pushed
    abbrev fresh : List code.Scope
    fresh = writes.new_scopes spot.opened spot.depth marks

    fresh-are : map record_of fresh ≡ map put_scope (new_scopes s r)
    fresh-are =
        ap (λ (k : ℕ). map record_of (writes.new_scopes k spot.depth marks)) b.opened
        ∙ records-new s.defs st.count spot.depth marks (All-marked (λ (i : ℕ). i < length s.defs.ids) mask 0 r.numbers numbers-listed.known)
        ∙ ap (map put_scope) (sym new-are)

    module _ (few : length (scopes_then s r) ≤ 16) (after : Scopes) (p : writes.PushedBy scopes r.numbers mask spot.opened spot.depth after) where
      after_is : after ≡ foldl pushed scopes fresh
      after_is = p (omega (arith, b.opened, b.fine.opened, b.early)) numbers-listed.few

      pushes : Pushes scopes fresh (foldl pushed scopes fresh)
      pushes = pushed_open scopes fresh (omega (arith, scopes-many, length-new_scopes spot.opened spot.depth marks)) b.sixteen

      pub scoped-then : records_of after ≡ map put_scope (scopes_then s r)
      unfolding scopes_then
      scoped-then =
          ap records_of after_is
          ∙ pushes.records
          ∙ ap₂ {C = List ScopeRecord} ◌++◌ b.scoped fresh-are
          ∙ sym (map-append put_scope st.scopes (new_scopes s r))

      pub listed_then : map record_of after.list ≡ over (map record_of scopes.list) (length st.scopes) (map put_scope (new_scopes s r))
      listed_then =
          ap (λ (z : Scopes). map record_of z.list) after_is
          ∙ ap (map record_of) pushes.lists
          ∙ over-mapped scopes.list scopes.n fresh
          ∙ ap₂ {C = List ScopeRecord} (λ (k : ℕ) (l : List ScopeRecord). over (map record_of scopes.list) k l) b.held fresh-are

    -- ---- kind 6

    pub sixes-are : (failing : ℕ) (used : Bytes) → used ≡ take n.reports reports → Tells defs r.numbers mask used failing
        → sixes s r ≡ map (λ i. kind_six (suc st.events) i) (marked failing 0 r.numbers)
    unfolding sixes listed
    sixes-are failing used e t =
        ap (λ (told : List Text). six_from (suc st.events) told (openings (defined_at s.defs) st.count r.numbers)) (sym b.fine.out.told)
        ∙ t.says s.defs b.definitions numbers-listed rd st.out.reports (rw e b.reported) (suc st.events) st.count

    pub sixes-many : (failing : ℕ) (used : Bytes) → used ≡ take n.reports reports → Tells defs r.numbers mask used failing → length (sixes s r) ≡ count_ones failing
    sixes-many failing used e t =
        ap length (sixes-are failing used e t)
        ∙ length-map (marked failing 0 r.numbers) (λ i. kind_six (suc st.events) i)
        ∙ sym t.places.counted

  -- ---- the selections

  pub selections-many : (mask : ℕ) → Selecting (names_then s r) (scopes_then s r) mask
      → length (selections_then s r) ≡ spot.selections + length (marked mask 0 (scopes_then s r))
  unfolding selections_then picked
  selections-many mask sel =
      length-append st.selections (picked s r) ∙ ap₂ (λ (x y : ℕ). x + y) (sym b.selections) (picked-are (names_then s r) mask (scopes_then s r) sel).many
