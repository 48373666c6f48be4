-- What the writers append: the TU of a selection that is kept, the report on one that has a report, and both of all that finish, one behind the other.
-- Assumes nothing.
use Prim.Native.Nat.{ℕ, ◌*◌, ◌%◌, ◌≤◌, ◌<◌}
use native.Mathlib.Omega.{arith}
use lib.ListN.{length, get_or, get_or-eq_default}
use mathlib.Core.Path.{◌≡◌, refl, ap, sym, ◌∙◌, subst}
use mathlib.Core.Bool.{Bool, true, false}
use mathlib.Core.List.{List, [], ◌∷◌, flat_map, append-nil}
use mathlib.Core.Option.{Option, none, some}
use Rattle.lists.specs.Lists.{only_if, part}
use Rattle.texts.specs.Texts.{Text}
use Rattle.tree.specs.Events as events
use Rattle.tree.specs.Events.{Kind, unique, key, keyref, Constraint}
use Rattle.tree.specs.Cells.{Cell}
use Rattle.tree.specs.Judge.{Tuple, Report, Outcome, several_nodes, no_simple_value, missing, on_nillable, complete, outcome, keys_of, against, tuple_of}
use Rattle.machine.specs.Machine.{Selection, feed}
use Rattle.records.specs.Readers.{Bytes}
use Rattle.session_spec.specs.Layout.{put_tu, put_rp}
use Rattle.session_laws.proofs.Constraints.{ConstraintFit}
use Rattle.cells.specs.Cells.{hit_of, scope_at}
use Rattle.output_stores.specs.Stores.{Appended}
use Rattle.output_stores.proofs.Appends.{nothing-appended}
use Rattle.tuple_search.specs.declared.Made.{Made}
use Rattle.tuple_search.specs.Search.{keys_in, tu_bytes, MadeOf}
use Rattle.tuple_search.proofs.Added.{tu-bytes}
use Rattle.tuple_search.proofs.Keys.{tuple_in, tuple-keys}
use Rattle.constraints.proofs.Replays.{ids-few}
use Rattle.runs.proofs.TwoPass.{Added, misses, adds}
use Rattle.outcomes.specs.Outcomes.{cells_in}
use Rattle.open_scopes.specs.declared.Scope.{Scope}
use Rattle.open_scopes.specs.declared.Scopes.{Scopes}
use Rattle.open_scopes.specs.OpenScopes.{blank_scope, open_of}
use Rattle.settlements.specs.declared.Settled.TheVariants.{Nothing}
use Rattle.settlements.specs.declared.Home.{Home}
use Rattle.settlements.specs.declared.Settling.{Settling}
use Rattle.settlements.specs.Finished.{Told, Settlement, nothing, settlement_of, reports_of, added_of, fed_bytes}
use Rattle.settlements.specs.Ending.{Ended, fed_by, ScopesIn, StandsAt, HomeOf, adds_of, settled_at, WritesTuple, WritesReport}
use Rattle.settling.proofs.Answers.{keys-in}
use Rattle.settling.proofs.Homes.{known_at, number_is, constraint-number}
use Rattle.settling.proofs.One.{cells_are, fed-fit, home-fed, fed-here, end_short}

-- ---- the TU

module _ (k : Ended) (e : ℕ) (y : Selection) (s : Settlement) (says : added_of s e y.scope (keys_of y.cells) ≡ adds_of k e y) where
  tuples-are : only_if s.keeps (tuple_of y.scope (keys_of y.cells) ∷ []) ≡ (adds_of k e y).tuples
  unfolding added_of
  tuples-are = ap (λ (a : Added). a.tuples) says

  no-tuple : s.keeps ≡ false → (adds_of k e y).tuples ≡ []
  no-tuple h = sym tuples-are ∙ ap (λ (b : Bool). only_if b (tuple_of y.scope (keys_of y.cells) ∷ [])) h ∙ unfold only_if in refl

  one-tuple : s.keeps ≡ true → (adds_of k e y).tuples ≡ tuple_of y.scope (keys_of y.cells) ∷ []
  one-tuple h = sym tuples-are ∙ ap (λ (b : Bool). only_if b (tuple_of y.scope (keys_of y.cells) ∷ [])) h ∙ unfold only_if in refl

  reports-are : reports_of s.report e y.scope ≡ (adds_of k e y).reports
  unfolding added_of
  reports-are = ap (λ (a : Added). a.reports) says

  no-report : s.report ≡ none → (adds_of k e y).reports ≡ []
  no-report h = sym reports-are ∙ ap (λ (o : Option Told). reports_of o e y.scope) h ∙ unfold reports_of in refl

  one-report : (t : Told) → s.report ≡ some t → (adds_of k e y).reports ≡ against e y.scope t.kind t.field t.tuple ∷ []
  one-report t h = sym reports-are ∙ ap (λ (o : Option Told). reports_of o e y.scope) h ∙ unfold reports_of in refl

-- who adds a tuple has every field Set
missed-none : (k : Kind) (e : ℕ) (s : events.Scope) (i : ℕ) → (misses k e s i).tuples ≡ []
unfolding misses
missed-none unique e s i = refl
missed-none key e s i = refl
missed-none keyref e s i = refl

adds-set : (ts : List Tuple) (e : ℕ) (s : events.Scope) (o : Outcome) (t : Tuple) → (adds ts e s o).tuples ≡ t ∷ [] → (ks : List Text) × (tuple_in o ≡ some ks)
unfolding adds tuple_in
adds-set ts e s several_nodes t h = let z : ◌≡◌ {A = ℕ} 0 1 = cc in absurd (omega arith)
adds-set ts e s no_simple_value t h = let z : ◌≡◌ {A = ℕ} 0 1 = cc in absurd (omega arith)
adds-set ts e s (missing i) t h = let m = missed-none s.constraint.kind e s i in let z : ◌≡◌ {A = ℕ} 0 1 = cc in absurd (omega arith)
adds-set ts e s (on_nillable i ks) t h = (ks, refl)
adds-set ts e s (complete ks) t h = (ks, refl)

tu-of : (s : events.Scope) (ks : List Text) → put_tu (tuple_of s ks) ≡ tu_bytes s.constraint.number s.number ks
unfolding tuple_of
tu-of s ks = tu-bytes (tuple_of s ks)

module _ (s : Settlement) (cells : Bytes) (j : ℕ) (counts : Bytes) (byte : ℕ) (text : Text) (scopes : Scopes) (defs before : Bytes) (used : ℕ) where
  pub tuple-none : s.keeps ≡ false → WritesTuple s cells j counts byte text scopes defs before used used before
  unfolding flat_map
  tuple-none h k x e there stands end counted says =
      subst (λ (ts : List Tuple). Appended before used (flat_map put_tu ts) used before) (sym (no-tuple k e (fed_by k x) s says h)) (nothing-appended before used)

  pub tuple-one : (home : Home) (bytes : Bytes) (m : Made) (tu : Bytes) (next : ℕ) (after : Bytes) → s.keeps ≡ true
      → ((k : Ended) (x : Selection) → ScopesIn k scopes defs → StandsAt k cells j x → HomeOf x home) → bytes ≡ fed_bytes (hit_of byte text) counts j cells
      → MadeOf home.constraint home.number (keys_in home.fields bytes) m → tu ≡ part m.bytes 0 m.size → Appended before used tu next after
      → WritesTuple s cells j counts byte text scopes defs before used next after
  unfolding flat_map
  tuple-one home bytes m tu next after h homes fed made cut app k x e there stands end counted says =
      let y : Selection = fed_by k x in
      let short = end_short k byte text end in
      let at : HomeOf y home = home-fed k x short stands.fit home (homes k x there stands) in
      let cs : cells_in home.fields bytes ≡ y.cells =
      cells_are k.scopes y bytes home.fields (fed-fit k x short stands.fit) (fed-here k x cells j counts byte text bytes fed stands end counted) at.fields in
      let one : (adds_of k e y).tuples ≡ tuple_of y.scope (keys_of y.cells) ∷ [] = one-tuple k e y s says h in
      let c = adds-set k.tuples e y.scope (outcome y.cells) (tuple_of y.scope (keys_of y.cells)) one in
      let own : tuple_in (outcome (cells_in home.fields bytes)) ≡ some (keys_of (cells_in home.fields bytes)) =
      subst (λ (l : List Cell). tuple_in (outcome l) ≡ some (keys_of l)) (sym cs) (c.1 ∙ ap some (sym (tuple-keys y.cells c.0 c.1).1)) in
      let ks : keys_in home.fields bytes ≡ keys_of y.cells = keys-in home.fields bytes own ∙ ap keys_of cs in
      let b : tu ≡ flat_map put_tu (adds_of k e y).tuples =
      cut
      ∙ made.holds
      ∙ ap (λ (n : ℕ). tu_bytes n home.number (keys_in home.fields bytes)) at.constraint
      ∙ ap (λ (n : ℕ). tu_bytes y.scope.constraint.number n (keys_in home.fields bytes)) at.number
      ∙ ap (tu_bytes y.scope.constraint.number y.scope.number) ks
      ∙ sym (tu-of y.scope (keys_of y.cells))
      ∙ sym (append-nil (put_tu (tuple_of y.scope (keys_of y.cells))))
      ∙ ap (flat_map put_tu) (sym one) in
      subst (λ (l : Bytes). Appended before used l next after) b app

-- ---- the report

report-is : (sc : events.Scope) (e k f t c n : ℕ) → c ≡ sc.constraint.number → n ≡ sc.number
    → record { kind = k; constraint = c; field = f; scope = n; event = e; tuple = t } ≡ against e sc k f t
unfolding against
report-is sc e k f t c n p q = λ i. record { kind = k; constraint = p i; field = f; scope = q i; event = e; tuple = t }

module _ (s : Settlement) (cells : Bytes) (j : ℕ) (scopes : Scopes) (event : ℕ) (before : Bytes) (used : ℕ) where
  pub report-none : s.report ≡ none → WritesReport s cells j scopes event before used used before
  unfolding flat_map
  report-none h k x defs there stands says =
      subst (λ (rs : List Report). Appended before used (flat_map put_rp rs) used before) (sym (no-report k event (fed_by k x) s says h)) (nothing-appended before used)

  pub report-one : (t : Told) (sc : Scope) (constraint next : ℕ) (after : Bytes) → s.report ≡ some t → sc ≡ get_or (open_of scopes) (scope_at (part cells (512 * j) 512) 0) blank_scope
      → constraint ≡ sc.constraint % 256
      → Appended before used (put_rp (record { kind = t.kind; constraint = constraint; field = t.field; scope = sc.number; event = event; tuple = t.tuple })) next after
      → WritesReport s cells j scopes event before used next after
  unfolding flat_map feed
  report-one t sc constraint next after h e n app k x defs there stands says =
      let y : Selection = fed_by k x in
      let c : Constraint = x.scope.constraint in
      let fit : ConstraintFit k.defs c = known_at k cells j x stands scopes defs there in
      let number : sc.number ≡ x.scope.number = number_is k cells j x stands scopes defs there (scope_at (part cells (512 * j) 512) 0) refl sc e in
      let own : sc.constraint ≡ c.number = constraint-number k cells j x stands scopes defs there (scope_at (part cells (512 * j) 512) 0) refl sc e in
      let few : length k.defs.ids ≤ 32 = ids-few defs k.defs there.defined in
      let low : c.number < length k.defs.ids = fit.defined in
      let cn : constraint ≡ c.number = n ∙ ap (λ (i : ℕ). i % 256) own ∙ omega arith in
      let one : (adds_of k event y).reports ≡ against event y.scope t.kind t.field t.tuple ∷ [] = one-report k event y s says t h in
      let b : put_rp (record { kind = t.kind; constraint = constraint; field = t.field; scope = sc.number; event = event; tuple = t.tuple }) ≡ flat_map put_rp (adds_of k event y).reports =
      ap put_rp (report-is y.scope event t.kind t.field t.tuple constraint sc.number cn number)
      ∙ sym (append-nil (put_rp (against event y.scope t.kind t.field t.tuple)))
      ∙ ap (flat_map put_rp) (sym one) in
      subst (λ (l : Bytes). Appended before used l next after) b app
