-- What holds between a world and the session that it decodes to; and that it then decodes to that session, piece by piece.
-- Assumes nothing.
use Prim.Native.Nat.{ℕ, suc, ◌+◌, ◌*◌, ◌≤◌, ◌<◌}
use native.Mathlib.Omega.{arith}
use borrow.Author.Tests.{leb-true, le-leb, lt-ltb, ne_eqb}
use lib.Dec.{eqb, leb, ltb}
use lib.ListN.{length, length-map, take}
use mathlib.Core.Path.{◌≡◌, refl, ap, sym, ◌∙◌, subst}
use mathlib.Core.Bool.{true, false, cond, ◌&&◌, ◌||◌, not}
use mathlib.Core.List.{List, [], ◌∷◌, map}
use mathlib.Core.Option.{some}
use Rattle.std.proofs.lemmas.Bool.{and_parts, and_from}
use Rattle.lists.specs.Lists.{all, foldl, All}
use Rattle.lists.proofs.Places.{all_true}
use Rattle.paths.specs.Reading.{on_some, every}
use Rattle.machine.specs.Machine.{OpenScope, State, initial}
use Rattle.records.specs.Readers.{Bytes, reads}
use Rattle.session_spec.specs.Definitions.{Definitions, no_definitions, frame, replay, read_definitions, is_definition}
use Rattle.session_spec.specs.Layout.{TuRecord, read_tu, as_tuple, read_rp, parts, name_in, put_scope, scope_in, selection_in, pack, unpack}
use Rattle.session_spec.specs.Session.{World, Stage, before, during, done, Session, stage_of, depth_of, stage_number, areas_fit, begun_fit, counts_fit, scope_fits, scopes_in, on_open, fitting, selections_in, tu_fits, tuples_in, rp_fits, reports_in, decode_with, decode_if, decode, counts_of, misplaced}
use Rattle.session_laws.proofs.Stores.{Used}
use Rattle.session_laws.proofs.Areas.{unpacked}
use Rattle.session_laws.proofs.Constraints.{DefsFit}
use Rattle.session_laws.proofs.Outs.{ReportFit}
use Rattle.session_laws.proofs.OpenScopes.{OpenFit}
use Rattle.session_laws.proofs.OpenSelections.{OpenSelection}
use Rattle.session_laws.proofs.States.{Fine}
use Rattle.records.specs.Records.{Rec}

-- long enough
pub record Areas (w : World) : Type 0 where
  pub paths : 1024 ≤ w.path_area
  pub scopes : 16 ≤ length w.scopes
  pub names : 32896 ≤ length w.names
  pub cells : 16384 ≤ length w.cells

pub areas-are : (w : World) → areas_fit w ≡ true → Areas w
unfolding areas_fit
areas-are w h =
    let p = and_parts (leb 1024 w.path_area) (leb 16 (length w.scopes) && (leb 32896 (length w.names) && leb 16384 (length w.cells))) h in
    let q = and_parts (leb 16 (length w.scopes)) (leb 32896 (length w.names) && leb 16384 (length w.cells)) p.1 in
    let r = and_parts (leb 32896 (length w.names)) (leb 16384 (length w.cells)) q.1 in
    record {
      paths = leb-true 1024 w.path_area p.0;
      scopes = leb-true 16 (length w.scopes) q.0;
      names = leb-true 32896 (length w.names) r.0;
      cells = leb-true 16384 (length w.cells) r.1;
    }

-- before the first ES nothing is there; no element is open after FI
abbrev pub StageFit : Stage → State → Type 0
StageFit before st = st ≡ initial st.events
StageFit during st = Unit {0}
StageFit done st = st.names ≡ []

abbrev pub NothingYet : Stage → World → Type 0
NothingYet before w = (w.tuples ≡ 0) × (w.reports ≡ 0)
NothingYet during w = Unit {0}
NothingYet done w = Unit {0}

pub record TuFit (d : Definitions) (n : ℕ) (t : TuRecord) : Type 0 where
  pub defined : t.constraint < length d.ids
  pub given : t.scope ≤ n

pub record Holds (w : World) (s : Session) : Type 0 where
  pub areas : Areas w
  pub raws : List Bytes
  pub definitions : Used frame w.definitions w.definition_store raws
  pub made : foldl replay (some no_definitions) raws ≡ some s.defs
  pub defs_fit : DefsFit s.defs
  pub fine : Fine s.defs s.state
  pub early : s.state.events ≤ 1000000
  pub stage : StageFit s.stage s.state
  pub unbegun : NothingYet s.stage w
  pub events : w.events ≡ s.state.events
  pub packed : w.running ≡ pack (counts_of s)
  pub tus : List TuRecord
  pub tuples : Used read_tu w.tuples w.tuple_store tus
  pub tus_are : map (as_tuple s.defs) tus ≡ s.state.out.tuples
  pub tus_fit : All (TuFit s.defs s.state.count) tus
  pub reports : Used read_rp w.reports w.report_store s.state.out.reports
  pub names : every name_in (parts 514 (length s.state.names) w.names) ≡ some s.state.names
  pub scopes : take (length s.state.scopes) w.scopes ≡ map put_scope s.state.scopes
  pub cells : every (selection_in s.state.scopes) (parts 512 (length s.state.selections) w.cells) ≡ some s.state.selections

-- ---- the pieces

open-depth : (st : State) → st ≡ initial st.events → length st.names ≡ 0
open-depth st h = ap (λ (x : State). length x.names) h

stage-back : (g : Stage) (st : State) → StageFit g st → length st.names ≤ 64 → stage_of (stage_number g (length st.names)) ≡ g
unfolding stage_of stage_number
stage-back before st f h = refl
stage-back during st f h = by (length st.names) h
  where
    no_zero : (n : ℕ) → eqb (suc n) 0 ≡ false
    no_zero n = ne_eqb (suc n) 0 (λ e. omega arith)

    no_end : (n : ℕ) → n ≤ 64 → eqb (suc n) 66 ≡ false
    no_end n h = ne_eqb (suc n) 66 (λ e. omega arith)

    by : (n : ℕ) → n ≤ 64 → cond (eqb (suc n) 0) before (cond (eqb (suc n) 66) done during) ≡ during
    by n h = rw (no_zero n, no_end n h)
stage-back done st f h = refl

depth-back : (g : Stage) (st : State) → StageFit g st → depth_of g (stage_number g (length st.names)) ≡ length st.names
unfolding depth_of stage_number
depth-back before st f = sym (open-depth st f)
depth-back during st f = omega arith
depth-back done st f = sym (ap length f)

-- so the stage number alone says how many elements are open
pub stage-depth : (g : Stage) (st : State) → StageFit g st → length st.names ≤ 64
    → depth_of (stage_of (stage_number g (length st.names))) (stage_number g (length st.names)) ≡ length st.names
stage-depth g st f h =
    ap (λ (k : Stage). depth_of k (stage_number g (length st.names))) (stage-back g st f h) ∙ depth-back g st f

-- 11, but of a definition: what comes after an FI
pub stage-done : (g : Stage) (r : Rec) (n : ℕ) → is_definition r ≡ false → n ≤ 64 → misplaced g r ≡ eqb (stage_number g n) 66
unfolding misplaced stage_number
stage-done before r n d h = refl
stage-done during r n d h = d ∙ sym (ne_eqb (suc n) 66 (λ e. omega arith))
stage-done done r n d h = refl

stage-small : (g : Stage) (n : ℕ) → n ≤ 64 → stage_number g n ≤ 66
unfolding stage_number
stage-small before n h = omega arith
stage-small during n h = omega arith
stage-small done n h = omega arith

scope-back : (d : Definitions) (n c : ℕ) (o : OpenScope) → OpenFit d n c o → scope_in d (put_scope o) ≡ o
unfolding scope_in put_scope
scope-back d n c o f = rw f.scope.constraint.known

scopes-back : (d : Definitions) (n c : ℕ) (os : List OpenScope) → All (OpenFit d n c) os → map (scope_in d) (map put_scope os) ≡ os
scopes-back d n c [] a = refl
scopes-back d n c (o ∷ os) a = rw (scope-back d n c o a.0, scopes-back d n c os a.1)

scope-fits : (d : Definitions) (n c : ℕ) (o : OpenScope) → OpenFit d n c o → scope_fits d c n (put_scope o) ≡ true
unfolding scope_fits put_scope
scope-fits d n c o f =
    and_from (ltb o.scope.constraint.number (length d.ids)) (leb o.depth c && leb o.scope.number n)
    (lt-ltb o.scope.constraint.number (length d.ids) f.scope.constraint.defined)
    (and_from (leb o.depth c) (leb o.scope.number n) (le-leb o.depth c f.high) (le-leb o.scope.number n f.scope.given))

scopes-fit : (d : Definitions) (n c : ℕ) (os : List OpenScope) → All (OpenFit d n c) os → all (scope_fits d c n) (map put_scope os) ≡ true
scopes-fit d n c [] a = refl
scopes-fit d n c (o ∷ os) a = and_from (scope_fits d c n (put_scope o)) (all (scope_fits d c n) (map put_scope os)) (scope-fits d n c o a.0) (scopes-fit d n c os a.1)

pub tu-fits : (d : Definitions) (n : ℕ) (t : TuRecord) → TuFit d n t → tu_fits d n t ≡ true
unfolding tu_fits
tu-fits d n t f =
    and_from (ltb t.constraint (length d.ids)) (leb t.scope n) (lt-ltb t.constraint (length d.ids) f.defined) (le-leb t.scope n f.given)

-- before the first ES
empty-counts : (g : Stage) (st : State) → g ≡ before → StageFit g st
    → stage_number g (length st.names) + 128 * (length st.scopes + 32 * (length st.selections + 64 * st.count)) ≡ 0
unfolding stage_number
empty-counts before st e f = ap (λ (x : State). 0 + 128 * (length x.scopes + 32 * (length x.selections + 64 * x.count))) f
empty-counts during st e f = let z : ◌≡◌ {A = ℕ} 0 1 = cc in absurd (omega arith)
empty-counts done st e f = let z : ◌≡◌ {A = ℕ} 0 1 = cc in absurd (omega arith)

begun-true : (g : Stage) (n : ℕ) (p t r : ℕ) → (g ≡ before → (p ≡ 0) × (t ≡ 0) × (r ≡ 0))
    → (not (eqb (stage_number g n) 0) || (eqb p 0 && (eqb t 0 && eqb r 0))) ≡ true
unfolding stage_number
begun-true before n p t r h = let q = h refl in rw (q.0, q.1, q.2)
begun-true during n p t r h = rw (ne_eqb (suc n) 0 (λ e. omega arith))
begun-true done n p t r h = refl

module _ (w : World) (s : Session) (h : Holds w s) where
  abbrev st : State
  st = s.state

  pub counts-back : unpack w.running ≡ counts_of s
  unfolding counts_of
  counts-back =
      ap unpack h.packed
      ∙ unpacked (counts_of s) (omega (arith, stage-small s.stage (length st.names) h.fine.deep))
      (omega (arith, h.fine.scopes_few)) (omega (arith, h.fine.selections_few))

  nothing_yet : s.stage ≡ before → (w.running ≡ 0) × (w.tuples ≡ 0) × (w.reports ≡ 0)
  unfolding pack counts_of
  nothing_yet e =
      let u : NothingYet before w = subst (λ (g : Stage). NothingYet g w) e h.unbegun in
      (h.packed ∙ empty-counts s.stage st e h.stage, u.0, u.1)

  counts-true : counts_fit w (counts_of s) ≡ true
  unfolding counts_fit areas_fit begun_fit counts_of
  counts-true =
      rw (
        begun-true s.stage (length st.names) w.running w.tuples w.reports nothing_yet,
        le-leb 1024 w.path_area h.areas.paths,
        le-leb 16 (length w.scopes) h.areas.scopes,
        le-leb 32896 (length w.names) h.areas.names,
        le-leb 16384 (length w.cells) h.areas.cells,
        h.events,
        le-leb st.events 1000000 h.early,
        le-leb (stage_number s.stage (length st.names)) 66 (stage-small s.stage (length st.names) h.fine.deep),
        le-leb (length st.scopes) 16 h.fine.scopes_few,
        le-leb (length st.selections) 32 h.fine.selections_few,
        le-leb st.count (8 * st.events) h.fine.opened,
        le-leb w.definitions (length w.definition_store) h.definitions.room,
        le-leb w.tuples (length w.tuple_store) h.tuples.room,
        le-leb w.reports (length w.report_store) h.reports.room,
      )

  -- the used part of the definition store reads as the session's definitions
  pub defs-read : read_definitions (take w.definitions w.definition_store) ≡ some s.defs
  unfolding read_definitions on_some
  defs-read = rw h.definitions.read h.made

  scopes-read : scopes_in s.defs (length st.names) st.count (take (length st.scopes) w.scopes) ≡ some st.scopes
  unfolding scopes_in
  scopes-read =
      rw (
        h.scopes,
        scopes-fit s.defs st.count (length st.names) st.scopes h.fine.scopes,
        h.fine.rise,
        scopes-back s.defs st.count (length st.names) st.scopes h.fine.scopes,
      )

  fitting-true : fitting (length st.names) st.selections ≡ some st.selections
  unfolding fitting
  fitting-true =
      rw (
        all_true (on_open (length st.names)) (OpenSelection st.scopes (length st.names))
            (λ x f. unfold on_open in le-leb x.depth (length st.names) f.high) st.selections h.fine.selections,
        h.fine.climb,
      )

  selections-read : selections_in st.scopes (length st.names) (parts 512 (length st.selections) w.cells) ≡ some st.selections
  unfolding selections_in on_some
  selections-read = rw h.cells fitting-true

  tus-few : length h.tus ≡ length st.out.tuples
  tus-few = sym (length-map h.tus (as_tuple s.defs)) ∙ ap length h.tus_are

  tuples-read : tuples_in s.defs st.count (32 * w.events) h.tus ≡ some st.out.tuples
  unfolding tuples_in
  tuples-read =
      rw (
        all_true (tu_fits s.defs st.count) (TuFit s.defs st.count) (tu-fits s.defs st.count) h.tus h.tus_fit,
        tus-few,
        h.events,
        le-leb (length st.out.tuples) (32 * st.events) h.fine.few,
        h.tus_are,
      )

  pub reports-read : reads read_rp (take w.reports w.report_store) ≡ some st.out.reports
  reports-read = h.reports.read

  rps-read : reports_in s.defs st.out.reports ≡ some st.out.reports
  unfolding reports_in
  rps-read =
      rw (all_true (rp_fits s.defs) (ReportFit s.defs) (λ r f. unfold rp_fits in lt-ltb r.constraint (length s.defs.ids) f) st.out.reports h.fine.out.reports)

  with-counts : decode_with w (counts_of s) ≡ some s
  unfolding decode_with counts_of on_some
  with-counts =
      rw (
        stage-back s.stage st h.stage h.fine.deep,
        depth-back s.stage st h.stage,
        defs-read,
        h.names,
        scopes-read,
        selections-read,
        h.tuples.read,
        tuples-read,
        reports-read,
        rps-read,
        h.fine.out.told,
        h.events,
      )

  -- The bytes decode to the session: no refusal 10.
  pub decoded : decode w ≡ some s
  unfolding decode decode_if
  decoded = rw (counts-back, counts-true) with-counts
