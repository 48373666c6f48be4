-- `step` on an EE. Without an open element refusal 13 comes before anything that the element would do. With one, the selections that finish are the last ones,
-- each of another scope (`two-passes`), the scopes that close are the last ones too, and so the places of those that stay open do not change.
-- Assumes nothing.
use Prim.Native.Nat.{ℕ, zero, suc, ◌+◌, ◌-◌, ◌*◌, ◌≤◌, ◌<◌}
use native.Mathlib.Nat.{add-zero}
use native.Mathlib.Omega.{arith}
use borrow.Author.Tests.{le-ltb, eqb-false}
use lib.Dec.{eqb, leb, ltb}
use lib.ListN.{length, take, drop, get_elem?, length-take}
use lib.Seq.{drop-length, drop-append_seam}
use mathlib.Core.Path.{◌≡◌, refl, ap, sym, ◌∙◌, subst}
use mathlib.Core.Bool.{Bool, true, false, cond, ◌&&◌, ◌||◌, not, false≢true}
use mathlib.Core.List.{List, [], ◌∷◌, ◌++◌, map, flat_map}
use mathlib.Core.Option.{Option, none, some}
use Rattle.lists.specs.Lists.{only_if, over, passing, All}
use Rattle.lists.proofs.Folds.{All-weaken}
use Rattle.lists.proofs.Places.{over_nothing, All-get_elem, All-mapped, length-passing}
use Rattle.paths.specs.Names.{Name}
use Rattle.tree.specs.Judge.{Tuple, Report, Out, judge_all}
use Rattle.machine.specs.Machine.{OpenScope, Selection, State, end_gives, feed, finished_item, end_open, end_if, end_a}
use Rattle.records.specs.Readers.{Bytes}
use Rattle.records.specs.Refusals.{Refusal, first_of, out_of_place, too_many_events, undefined, unbalanced, bound_twice, definitions_full, too_deep, too_many_scopes, too_many_selections, tuples_full, reports_full}
use Rattle.records.specs.Records.{EE, EeRecord, parsed, parse}
use Rattle.session_spec.specs.Definitions.{Definitions, is_definition, is_undefined, is_bound, too_many_defined}
use Rattle.session_spec.specs.Layout.{pack, put_name, put_tu, put_rp, ScopeRecord, put_scope, place_of, put_selection}
use Rattle.session_spec.specs.Session.{World, Stage, before, during, done, Session, stage_number, rising, end_of, misplaced, is_unbalanced, next, new_tuples, new_reports, tuple_bytes, report_bytes, rows, counts_of, behind_old, one_scope, patch, settled}
use Rattle.session_laws.proofs.Tests.{first-none}
use Rattle.session_laws.proofs.Areas.{SelectionFit}
use Rattle.session_laws.proofs.OpenScopes.{rising-uncons}
use Rattle.session_laws.proofs.OpenSelections.{OpenSelection, feed-fit, element-hits, climb-feed}
use Rattle.session_laws.proofs.States.{Fine, gone, parted, end-fine}
use Rattle.session_laws.proofs.Holds.{Holds, StageFit}
use Rattle.runs.proofs.TwoPass.{Added, Rising, adds_all, plus, two-passes, finish-last}
use Rattle.plans.specs.Plans.{answered, fed, staying, ending, end_adds, end_rows, scopes_left, end_counts, ended_by}
use Rattle.plans.proofs.Rows.{skip, under, row_is}
use Rattle.plans.proofs.Unchanged.{none-behind}
use Rattle.session_laws.proofs.Stores.{reports-size}
use Rattle.session_laws.proofs.Limits.{read_short}

-- ---- scopes that are given up leave the places of the others

pub place_same : (n : ℕ) (xs ys : List OpenScope) (o : OpenScope) → get_elem? xs (place_of n xs) ≡ some o → place_of n (xs ++ ys) ≡ place_of n xs
unfolding place_of
place_same n [] ys o h = let z : ◌≡◌ {A = ℕ} 0 1 = cc in absurd (omega arith)
place_same n (x ∷ xs) ys o h = by (eqb x.scope.number n) h (place_same n xs ys o)
  where
    by : (b : Bool) → get_elem? (x ∷ xs) (cond b 0 (suc (place_of n xs))) ≡ some o → (get_elem? xs (place_of n xs) ≡ some o → place_of n (xs ++ ys) ≡ place_of n xs)
        → cond b 0 (suc (place_of n (xs ++ ys))) ≡ cond b 0 (suc (place_of n xs))
    by true h ih = refl
    by false h ih = ap suc (ih h)

pub bytes_same : (xs ys : List OpenScope) (ss : List Selection) → All (SelectionFit xs) ss → flat_map (put_selection xs) ss ≡ flat_map (put_selection (xs ++ ys)) ss
unfolding flat_map put_selection
bytes_same xs ys [] a = refl
bytes_same xs ys (s ∷ ss) a =
    rw (place_same s.scope.number xs ys a.0.home a.0.found, bytes_same xs ys ss a.1)

-- numbers of open scopes are given ones
numbers-above : (n c : ℕ) (os : List OpenScope) → rising n c (map put_scope os) ≡ true → All (λ (o : OpenScope). n < o.scope.number) os
unfolding put_scope
numbers-above n c [] r = tt
numbers-above n c (o ∷ os) r =
    let u = rising-uncons n c (put_scope o) (map put_scope os) r in
    (u.number, All-weaken (λ (p : OpenScope). o.scope.number < p.scope.number) (λ (p : OpenScope). n < p.scope.number) (λ p q. omega (arith, u.number)) os (numbers-above o.scope.number o.depth os u.rest))

module _ (w : World) (s : Session) (r : EeRecord) (bs : Bytes) (h : Holds w s) (says : parse bs ≡ parsed (EE r)) where
  abbrev st : State
  st = s.state

  abbrev depth : ℕ
  depth = length st.names

  -- the session after the end of an open element
  abbrev t : Session
  t = record { defs = s.defs; stage = s.stage; state = end_open st (end_of r) }

  fine : Fine s.defs (end_open st (end_of r))
  fine = (end-fine s.defs st h.fine (end_of r) (read_short r bs says)).0

  -- ---- what it puts out

  fed-fit : All (OpenSelection st.scopes depth) (fed s r)
  unfolding fed
  fed-fit =
      All-mapped (OpenSelection st.scopes depth) (OpenSelection st.scopes depth) (feed st.names (end_gives (end_of r)))
      (feed-fit st.scopes depth st.names (end_gives (end_of r)) (element-hits (end_of r) (read_short r bs says)))
      st.selections h.fine.selections

  given : (x : Selection) → OpenSelection st.scopes depth x → (x.depth ≤ depth) × (0 < x.scope.number)
  given x f =
      let a = All-get_elem (λ (o : OpenScope). 0 < o.scope.number) st.scopes (place_of x.scope.number st.scopes) f.fit.home
      (numbers-above 0 1 st.scopes h.fine.rise) f.fit.found in
      (f.high, subst (λ (n : ℕ). 0 < n) (ap (λ sc. sc.number) f.fit.scope) a)

  pub parts : (fed s r ≡ staying s r ++ ending s r) × Rising 0 (ending s r)
  unfolding staying ending
  parts =
      finish-last depth 0 0 (fed s r) (unfold fed in climb-feed st.names (end_gives (end_of r)) 0 0 st.selections h.fine.climb)
      (All-weaken (OpenSelection st.scopes depth) (λ (x : Selection). (x.depth ≤ depth) × (0 < x.scope.number)) given (fed s r) fed-fit)

  out-is : t.state.out ≡ plus st.out (end_adds s r)
  unfolding end_open end_adds ending fed
  out-is = two-passes (suc st.events) 0 (ending s r) st.out parts.1

  tuples-out : tuple_bytes s t ≡ flat_map put_tu (end_adds s r).tuples
  unfolding tuple_bytes new_tuples
  tuples-out =
      ap (λ (o : Out). flat_map put_tu (drop (length st.out.tuples) o.tuples)) out-is
      ∙ unfold plus in ap (flat_map put_tu) (drop-append_seam st.out.tuples (end_adds s r).tuples)

  reports-out : report_bytes s t ≡ flat_map put_rp (end_adds s r).reports
  unfolding report_bytes new_reports
  reports-out =
      ap (λ (o : Out). flat_map put_rp (drop (length st.out.reports) o.reports)) out-is
      ∙ unfold plus in ap (flat_map put_rp) (drop-append_seam st.out.reports (end_adds s r).reports)

  reports-count : length (report_bytes s t) ≡ 18 * length (end_adds s r).reports
  reports-count = ap length reports-out ∙ reports-size (end_adds s r).reports

  -- ---- refusals

  abbrev room : List (Bool × Refusal)
  room =
      (ltb (length w.tuple_store) (w.tuples + length (flat_map put_tu (end_adds s r).tuples)), tuples_full)
      ∷ (ltb (length w.report_store) (w.reports + 18 * length (end_adds s r).reports), reports_full)
      ∷ []

  room-rows : first_of
      ((ltb 64 (length t.state.names), too_deep)
      ∷ (ltb 16 (length t.state.scopes), too_many_scopes)
      ∷ (ltb 32 (length t.state.selections), too_many_selections)
      ∷ (ltb (length w.tuple_store) (w.tuples + length (tuple_bytes s t)), tuples_full)
      ∷ (ltb (length w.report_store) (w.reports + length (report_bytes s t)), reports_full)
      ∷ []) ≡ first_of room
  room-rows =
      skip (ltb 64 (length t.state.names)) too_deep _ (le-ltb 64 (length t.state.names) fine.deep)
      ∙ skip (ltb 16 (length t.state.scopes)) too_many_scopes _ (le-ltb 16 (length t.state.scopes) fine.scopes_few)
      ∙ skip (ltb 32 (length t.state.selections)) too_many_selections _ (le-ltb 32 (length t.state.selections) fine.selections_few)
      ∙ row_is (ltb (length w.tuple_store) (w.tuples + length (tuple_bytes s t))) (ltb (length w.tuple_store) (w.tuples + length (flat_map put_tu (end_adds s r).tuples))) tuples_full _
      (ap (λ (l : Bytes). ltb (length w.tuple_store) (w.tuples + length l)) tuples-out)
      ∙ under (ltb (length w.tuple_store) (w.tuples + length (flat_map put_tu (end_adds s r).tuples))) tuples_full _ _
      (row_is (ltb (length w.report_store) (w.reports + length (report_bytes s t))) (ltb (length w.report_store) (w.reports + 18 * length (end_adds s r).reports)) reports_full []
      (ap (λ (n : ℕ). ltb (length w.report_store) (w.reports + n)) reports-count))

  -- up to 13 the rows do not ask what the element would do
  first_rows : (u : Session) (qs : List (Bool × Refusal))
      → (eqb depth 0 ≡ false → first_of
      ((ltb 64 (length u.state.names), too_deep)
      ∷ (ltb 16 (length u.state.scopes), too_many_scopes)
      ∷ (ltb 32 (length u.state.selections), too_many_selections)
      ∷ (ltb (length w.tuple_store) (w.tuples + length (tuple_bytes s u)), tuples_full)
      ∷ (ltb (length w.report_store) (w.reports + length (report_bytes s u)), reports_full)
      ∷ []) ≡ first_of qs)
      → first_of (rows w s (EE r) u bs)
      ≡ first_of ((misplaced s.stage (EE r), out_of_place) ∷ (leb 1000000 w.events, too_many_events) ∷ (eqb depth 0, unbalanced) ∷ qs)
  unfolding rows is_undefined is_unbalanced is_bound too_many_defined is_definition
  first_rows u qs k =
      under (misplaced s.stage (EE r)) out_of_place _ _
      (row_is (leb 1000000 st.events) (leb 1000000 w.events) too_many_events _ (ap (leb 1000000) (sym h.events))
      ∙ under (leb 1000000 w.events) too_many_events _ _ (skip false undefined _ refl ∙ by (eqb depth 0) k))
    where
      by : (b : Bool)
          → (b ≡ false → first_of
          ((ltb 64 (length u.state.names), too_deep)
          ∷ (ltb 16 (length u.state.scopes), too_many_scopes)
          ∷ (ltb 32 (length u.state.selections), too_many_selections)
          ∷ (ltb (length w.tuple_store) (w.tuples + length (tuple_bytes s u)), tuples_full)
          ∷ (ltb (length w.report_store) (w.reports + length (report_bytes s u)), reports_full)
          ∷ []) ≡ first_of qs)
          → first_of
          ((b, unbalanced)
          ∷ (false, bound_twice)
          ∷ (false, definitions_full)
          ∷ (ltb 64 (length u.state.names), too_deep)
          ∷ (ltb 16 (length u.state.scopes), too_many_scopes)
          ∷ (ltb 32 (length u.state.selections), too_many_selections)
          ∷ (ltb (length w.tuple_store) (w.tuples + length (tuple_bytes s u)), tuples_full)
          ∷ (ltb (length w.report_store) (w.reports + length (report_bytes s u)), reports_full)
          ∷ []) ≡ first_of ((b, unbalanced) ∷ qs)
      by true k = unfold first_of in refl
      by false k = skip false unbalanced _ refl ∙ skip false bound_twice _ refl ∙ skip false definitions_full _ refl ∙ k refl ∙ sym (skip false unbalanced qs refl)

  -- ---- what it leaves

  stays-during : eqb depth 0 ≡ false → misplaced s.stage (EE r) ≡ false → s.stage ≡ during
  stays-during e m = by s.stage h.stage m
    where
      by : (g : Stage) → StageFit g st → misplaced g (EE r) ≡ false → g ≡ during
      by before f m = absurd (false≢true (sym e ∙ ap (λ (x : State). eqb (length x.names) 0) f))
      by during f m = refl
      by done f m = absurd (false≢true (unfold misplaced in sym m))

  cells_are : flat_map (put_selection t.state.scopes) t.state.selections ≡ flat_map (put_selection st.scopes) (staying s r)
  unfolding end_open staying fed
  cells_are =
      bytes_same t.state.scopes (gone s.defs st h.fine (end_of r) (read_short r bs says)) t.state.selections
      (All-weaken (OpenSelection t.state.scopes (length t.state.names)) (SelectionFit t.state.scopes) (λ x f. f.fit) t.state.selections fine.selections)
      ∙ ap (λ (os : List OpenScope). flat_map (put_selection os) (staying s r))
      (sym (parted s.defs st h.fine (end_of r) (read_short r bs says)))

  stage_is : eqb depth 0 ≡ false → s.stage ≡ during → stage_number s.stage (length t.state.names) ≡ depth
  unfolding end_open stage_number
  stage_is e g =
      let n = eqb-false depth 0 e in
      ap (λ (x : Stage). stage_number x (length (take (depth - 1) st.names))) g
      ∙ ap suc (length-take (depth - 1) st.names) ∙ omega arith

  left : eqb depth 0 ≡ false → s.stage ≡ during → patch w s (EE r) t bs ≡ ended_by w s r
  unfolding patch ended_by is_definition only_if counts_of end_counts end_open scopes_left staying fed
  left e g = λ j.
      record {
        events = ap suc (sym h.events) j;
        running = pack (record { stage = stage_is e g j; scopes = length (scopes_left s); selections = length (staying s r); opened = st.count });
        definitions = add-zero w.definitions j;
        tuples = ap (λ (l : Bytes). w.tuples + length l) tuples-out j;
        reports = ap (λ (n : ℕ). w.reports + n) reports-count j;
        definition_store = over_nothing w.definition_store w.definitions j;
        tuple_store = ap (over w.tuple_store w.tuples) tuples-out j;
        report_store = ap (over w.report_store w.reports) reports-out j;
        names = none-behind 514 put_name st.names t.state.names w.names (omega (arith, length-take (depth - 1) st.names)) j;
        scopes = none-behind 1 one_scope st.scopes t.state.scopes w.scopes
            (length-passing (λ (o : OpenScope). not (eqb o.depth depth)) st.scopes) j;
        cells = ap (over w.cells 0) cells_are j;
        path_area = w.path_area;
      }

  -- ---- both together

  next-is : eqb depth 0 ≡ false → next s (EE r) ≡ t
  unfolding next end_a
  next-is e = λ j. record { defs = s.defs; stage = s.stage; state = by st.names e j }
    where
      by : (l : List Name) → eqb (length l) 0 ≡ false → end_if l st (end_of r) ≡ end_open st (end_of r)
      by [] k = absurd (false≢true (sym k))
      by (n ∷ l) k = unfold end_if in refl

  refuses : (u : Session) (v : World) (o : Option Refusal) → (o ≡ none → ⊥) → settled w s (EE r) u bs o ≡ answered w v o
  unfolding settled answered
  refuses u v none k = absurd (k refl)
  refuses u v (some c) k = refl

  -- with no element open some row holds
  unbalanced-row : (a b : Bool) (qs : List (Bool × Refusal)) → first_of ((a, out_of_place) ∷ (b, too_many_events) ∷ (true, unbalanced) ∷ qs) ≡ none → ⊥
  unfolding first_of
  unbalanced-row true b qs e = let z : ◌≡◌ {A = ℕ} 0 1 = cc in omega arith
  unbalanced-row false true qs e = let z : ◌≡◌ {A = ℕ} 0 1 = cc in omega arith
  unbalanced-row false false qs e = let z : ◌≡◌ {A = ℕ} 0 1 = cc in omega arith

  ends : eqb depth 0 ≡ false → (o : Option Refusal) → first_of (end_rows w s r) ≡ o → settled w s (EE r) t bs o ≡ answered w (ended_by w s r) o
  unfolding settled answered end_rows
  ends e none k =
      let a = first-none (misplaced s.stage (EE r)) out_of_place _ k in
      rw (left e (stays-during e a.0))
  ends e (some c) k = refl

  abbrev o : Option Refusal
  o = first_of (end_rows w s r)

  pub settles : settled w s (EE r) (next s (EE r)) bs (first_of (rows w s (EE r) (next s (EE r)) bs)) ≡ answered w (ended_by w s r) o
  unfolding end_rows
  settles = by (eqb depth 0) refl
    where
      by : (b : Bool) → eqb depth 0 ≡ b → settled w s (EE r) (next s (EE r)) bs (first_of (rows w s (EE r) (next s (EE r)) bs)) ≡ answered w (ended_by w s r) o
      by true e =
          ap (settled w s (EE r) (next s (EE r)) bs) (first_rows (next s (EE r)) room (λ f. absurd (false≢true (sym f ∙ e))))
          ∙ refuses (next s (EE r)) (ended_by w s r) o
          (λ k. unbalanced-row (misplaced s.stage (EE r)) (leb 1000000 w.events) room (subst (λ (b : Bool). first_of ((misplaced s.stage (EE r), out_of_place) ∷ (leb 1000000 w.events, too_many_events) ∷ (b, unbalanced) ∷ room) ≡ none) e k))
      by false e =
          ap (λ (u : Session). settled w s (EE r) u bs (first_of (rows w s (EE r) u bs))) (next-is e)
          ∙ ap (settled w s (EE r) t bs) (first_rows t room (λ f. room-rows))
          ∙ ends e o refl

-- EE
pub ee-settled : (w : World) (s : Session) (r : EeRecord) (bs : Bytes) → Holds w s → parse bs ≡ parsed (EE r)
    → settled w s (EE r) (next s (EE r)) bs (first_of (rows w s (EE r) (next s (EE r)) bs)) ≡ answered w (ended_by w s r) (first_of (end_rows w s r))
ee-settled w s r bs h says = settles w s r bs h says
