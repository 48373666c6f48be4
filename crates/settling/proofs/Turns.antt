-- The walk of `settle_all`: of the selections from the first one on, as many as were passed, it has what each adds, the bytes of their TUs and the number of their
-- reports; a turn adds one selection.
-- Assumes nothing.
use Prim.Native.Nat.{ℕ, suc, ◌+◌, ◌-◌, ◌*◌, ◌≤◌, ◌<◌, min}
use native.Mathlib.Nat.{add-zero}
use native.Mathlib.Omega.{arith}
use lib.ListN.{length, take, drop, get_or, get_elem?, set, length-append, length-map, length-take, length-drop, length-set}
use lib.Seq.{take_all, take-suc, get_or-drop, get_or-set_same, get_or-set_other}
use mathlib.Core.Path.{◌≡◌, refl, ap, sym, ◌∙◌, subst}
use mathlib.Core.List.{List, [], ◌∷◌, ◌++◌, map, flat_map, map-append, append-nil, append_assoc}
use mathlib.Core.Option.{Option, none, some}
use Rattle.lists.specs.Lists.{part}
use Rattle.lists.proofs.Lists.{flat_map-append}
use Rattle.lists.proofs.Places.{get_elem-some, All-get_elem, map_found}
use Rattle.texts.specs.Texts.{Text}
use Rattle.tree.specs.Judge.{Tuple, Report, keys_of, outcome}
use Rattle.machine.specs.Machine.{Selection}
use Rattle.records.specs.Readers.{Bytes}
use Rattle.session_spec.specs.Layout.{put_tu}
use Rattle.session_laws.proofs.Areas.{SelectionFit, selection-at}
use Rattle.runs.proofs.TwoPass.{Added, adds, adds_all}
use Rattle.open_scopes.specs.declared.Scopes.{Scopes}
use Rattle.settlements.specs.declared.Settled.{Settled}
use Rattle.settlements.specs.declared.Settled.TheVariants.{Nothing}
use Rattle.settlements.specs.declared.Sized.{Sized}
use Rattle.settlements.specs.declared.Settling.{Settling}
use Rattle.settlements.specs.Finished.{Told, Settlement, settlement_of, reports_of, added_of}
use Rattle.settlements.specs.Ending.{Ended, fed_by, finished, StandsAt, TuplesIn, Finishing, adds_of, Comes, SettlesOne, report_or, settled_at, remembered_from, SettledAll}
use Rattle.settling.proofs.Homes.{one_at_most}

-- ---- selection j of the area

-- where all of it is known, selection j is
pub stands-at : (k : Ended) (cells : Bytes) (first n : ℕ) (counts : Bytes) (byte : ℕ) (text : Text) (scopes : Scopes) (defs : Bytes)
    → Finishing k cells first n counts byte text scopes defs → (j : ℕ) (x : Selection) → get_elem? k.selections j ≡ some x → StandsAt k cells j x
stands-at k cells first n counts byte text scopes defs fin j x g =
    record {
      bytes = selection-at k.scopes n k.selections cells fin.read j x g;
      fit = All-get_elem (SelectionFit k.scopes) k.selections j x fin.fit g;
    }

-- ---- one more

-- the fed selections from `first` on, before j
abbrev pub passed : Ended → (first j : ℕ) → List Selection
passed k first j = part (map (fed_by k) k.selections) first (j - first)

module _ (k : Ended) (first j : ℕ) (h : first ≤ j) where
  pub passed-one : (x : Selection) → j < length k.selections → get_elem? k.selections j ≡ some x → passed k first (j + 1) ≡ passed k first j ++ (fed_by k x ∷ [])
  passed-one x l g =
      let ys : List Selection = map (fed_by k) k.selections in
      let m : length ys ≡ length k.selections = length-map k.selections (fed_by k) in
      let d : length (drop first ys) ≡ length ys - first = length-drop first ys in
      let n : j + 1 - first ≡ suc (j - first) = omega arith in
      let b : first + (j - first) ≡ j = omega arith in
      let at : get_or (drop first ys) (j - first) (fed_by k x) ≡ fed_by k x =
      get_or-drop first ys (j - first) (fed_by k x) ∙ ap (λ (i : ℕ). get_or ys i (fed_by k x)) b ∙ map_found (fed_by k) k.selections j x (fed_by k x) g in
      ap (λ (i : ℕ). take i (drop first ys)) n
      ∙ take-suc (drop first ys) (j - first) (fed_by k x) (omega arith)
      ∙ ap (λ (y : Selection). take (j - first) (drop first ys) ++ (y ∷ [])) at

  pub passed_length : j ≤ length k.selections → length (passed k first j) ≡ j - first
  passed_length l =
      let ys : List Selection = map (fed_by k) k.selections in
      length-take (j - first) (drop first ys) ∙ (let m = length-map k.selections (fed_by k) in let d = length-drop first ys in omega arith)

  pub passed-all : length k.selections ≤ j → passed k first j ≡ finished k first
  unfolding finished
  passed-all l =
      let ys : List Selection = map (fed_by k) k.selections in
      take_all (j - first) (drop first ys) (let m = length-map k.selections (fed_by k) in let d = length-drop first ys in omega arith)

pub none_passed : (k : Ended) (first : ℕ) → passed k first first ≡ []
none_passed k first = let e : first - first ≡ 0 = omega arith in ap (λ (i : ℕ). take i (drop first (map (fed_by k) k.selections))) e

-- ---- what all add, and what is remembered, one more

module _ (ts : List Tuple) (e : ℕ) where
  abbrev one-adds : Selection → Added
  one-adds x = adds ts e x.scope (outcome x.cells)

  pub tuples-append : (xs ys : List Selection) → (adds_all ts e (xs ++ ys)).tuples ≡ (adds_all ts e xs).tuples ++ (adds_all ts e ys).tuples
  unfolding adds_all
  tuples-append [] ys = refl
  tuples-append (x ∷ xs) ys =
      ap (λ (l : List Tuple). (one-adds x).tuples ++ l) (tuples-append xs ys) ∙ sym (append_assoc (one-adds x).tuples (adds_all ts e xs).tuples (adds_all ts e ys).tuples)

  pub reports-append : (xs ys : List Selection) → (adds_all ts e (xs ++ ys)).reports ≡ (adds_all ts e xs).reports ++ (adds_all ts e ys).reports
  unfolding adds_all
  reports-append [] ys = refl
  reports-append (x ∷ xs) ys =
      ap (λ (l : List Report). (one-adds x).reports ++ l) (reports-append xs ys) ∙ sym (append_assoc (one-adds x).reports (adds_all ts e xs).reports (adds_all ts e ys).reports)

  pub tuples-one : (x : Selection) → (adds_all ts e (x ∷ [])).tuples ≡ (one-adds x).tuples
  unfolding adds_all
  tuples-one x = append-nil (one-adds x).tuples

  pub reports-one : (x : Selection) → (adds_all ts e (x ∷ [])).reports ≡ (one-adds x).reports
  unfolding adds_all
  reports-one x = append-nil (one-adds x).reports

  tuples-snoc : (xs : List Selection) (x : Selection) → (adds_all ts e (xs ++ (x ∷ []))).tuples ≡ (adds_all ts e xs).tuples ++ (one-adds x).tuples
  tuples-snoc xs x = tuples-append xs (x ∷ []) ∙ ap (λ (l : List Tuple). (adds_all ts e xs).tuples ++ l) (tuples-one x)

  reports-snoc : (xs : List Selection) (x : Selection) → (adds_all ts e (xs ++ (x ∷ []))).reports ≡ (adds_all ts e xs).reports ++ (one-adds x).reports
  reports-snoc xs x = reports-append xs (x ∷ []) ∙ ap (λ (l : List Report). (adds_all ts e xs).reports ++ l) (reports-one x)

remembered-snoc : (e : ℕ) (s : Settling) (j : ℕ) (xs : List Selection) (x : Selection) (i : ℕ) → j + length xs ≡ i
    → remembered_from e s j (xs ++ (x ∷ [])) ≡ remembered_from e s j xs ++ (added_of (settled_at s i) e x.scope (keys_of x.cells) ∷ [])
unfolding remembered_from
remembered-snoc e s j [] x i h = let z : j ≡ i = sym (add-zero j) ∙ h in ap (λ (n : ℕ). added_of (settled_at s n) e x.scope (keys_of x.cells) ∷ []) z
remembered-snoc e s j (y ∷ xs) x i h =
    ap (λ (l : List Added). added_of (settled_at s j) e y.scope (keys_of y.cells) ∷ l) (remembered-snoc e s (suc j) xs x i (omega arith))

-- what was remembered before stays
remembered-alike : (e : ℕ) (s t : Settling) (j : ℕ) (xs : List Selection) (n : ℕ) → j + length xs ≤ n → ((i : ℕ) → i < n → settled_at s i ≡ settled_at t i)
    → remembered_from e s j xs ≡ remembered_from e t j xs
unfolding remembered_from
remembered-alike e s t j [] n h a = refl
remembered-alike e s t j (x ∷ xs) n h a =
    ap (λ (r : Settlement). added_of r e x.scope (keys_of x.cells) ∷ remembered_from e s (suc j) xs) (a j (omega arith))
    ∙ ap (λ (l : List Added). added_of (settled_at t j) e x.scope (keys_of x.cells) ∷ l) (remembered-alike e s t (suc j) xs n (omega arith) a)

-- a report more, or none
report-length : (r : Settlement) (e : ℕ) (x : Selection) → length (added_of r e x.scope (keys_of x.cells)).reports ≡ report_or r.report
unfolding added_of reports_of
report-length r e x = by r.report
  where
    by : (o : Option Told) → length (reports_of o e x.scope) ≡ report_or o
    by none = refl
    by (some t) = refl

-- ---- the walk

pub record Front (k : Ended) (e first : ℕ) (xs : List Selection) (s : Settling) : Type 0 where
  pub bytes : s.bytes ≡ length (flat_map put_tu (adds_all k.tuples e xs).tuples)
  pub reports : s.reports ≡ length (adds_all k.tuples e xs).reports
  pub each : remembered_from e s first xs ≡ map (adds_of k e) xs

front-none : (k : Ended) (e first : ℕ) (s : Settling) → s.bytes ≡ 0 → s.reports ≡ 0 → Front k e first [] s
unfolding adds_all remembered_from flat_map
front-none k e first s b r = record { bytes = b; reports = r; each = refl }

-- one more
front-one : (k : Ended) (e first : ℕ) (xs : List Selection) (y : Selection) (s t : Settling) (r : Sized) (j : ℕ) → first + length xs ≡ j → Front k e first xs s
    → Comes k y r → ((i : ℕ) → i < j → settled_at t i ≡ settled_at s i) → settled_at t j ≡ settlement_of r.settled
    → t.bytes ≡ s.bytes + r.size → t.reports ≡ s.reports + report_or (settlement_of r.settled).report → Front k e first (xs ++ (y ∷ [])) t
front-one k e first xs y s t r j at f c old new b n =
    let ts : List Tuple = k.tuples in
    let one : List Tuple = (adds_of k e y).tuples in
    let all : List Tuple = (adds_all ts e xs).tuples in
    let size = c.size e in
    let w : length (flat_map put_tu (adds_all ts e (xs ++ (y ∷ []))).tuples) ≡ length (flat_map put_tu all) + length (flat_map put_tu one) =
    ap (λ (l : List Tuple). length (flat_map put_tu l)) (tuples-snoc ts e xs y) ∙ ap length (flat_map-append put_tu all one) ∙ length-append (flat_map put_tu all) (flat_map put_tu one) in
    let q : length (adds_all ts e (xs ++ (y ∷ []))).reports ≡ length (adds_all ts e xs).reports + length (adds_of k e y).reports =
    ap length (reports-snoc ts e xs y) ∙ length-append (adds_all ts e xs).reports (adds_of k e y).reports in
    let o : length (adds_of k e y).reports ≡ report_or (settlement_of r.settled).report = sym (ap (λ (a : Added). length a.reports) (c.says e)) ∙ report-length (settlement_of r.settled) e y in
    let fb = f.bytes in
    let fr = f.reports in
    record {
      bytes = omega arith;
      reports = n ∙ ap (λ (i : ℕ). s.reports + i) (sym o) ∙ ap (λ (i : ℕ). i + length (adds_of k e y).reports) fr ∙ sym q;
      each =
          remembered-snoc e t first xs y j at
          ∙ ap (λ (l : List Added). l ++ (added_of (settled_at t j) e y.scope (keys_of y.cells) ∷ [])) (remembered-alike e t s first xs j (omega arith) old ∙ f.each)
          ∙ ap (λ (z : Settlement). map (adds_of k e) xs ++ (added_of z e y.scope (keys_of y.cells) ∷ [])) new
          ∙ ap (λ (a : Added). map (adds_of k e) xs ++ (a ∷ [])) (c.says e)
          ∙ sym (map-append (adds_of k e) xs (y ∷ []));
    }

-- the arrays and sums of the code, where j is next
pub record SoFar (cells : Bytes) (first n : ℕ) (counts : Bytes) (byte : ℕ) (text : Text) (scopes : Scopes) (defs used : Bytes) (marks : List ℕ) (each : List Settled) (bytes reports j : ℕ)
    : Type 0 where
  pub long : length each ≡ 32
  pub past : first ≤ j
  pub most : bytes ≤ 522 * j
  pub fewer : reports ≤ j
  pub says : (k : Ended) → Finishing k cells first n counts byte text scopes defs → TuplesIn k used marks → (e : ℕ)
      → Front k e first (passed k first j) (record { each = each; bytes = bytes; reports = reports })

module _ (cells : Bytes) (first n : ℕ) (counts : Bytes) (byte : ℕ) (text : Text) (scopes : Scopes) (defs used : Bytes) (marks : List ℕ) where
  abbrev Walk : (each : List Settled) → (bytes reports j : ℕ) → Type 0
  Walk = SoFar cells first n counts byte text scopes defs used marks

  pub walk_first : (each : List Settled) → length each ≡ 32 → Walk each 0 0 first
  walk_first each a =
      record {
        long = a;
        past = omega arith;
        most = omega arith;
        fewer = omega arith;
        says = λ k fin tus e.
            subst (λ (xs : List Selection). Front k e first xs (record { each = each; bytes = 0; reports = 0 })) (sym (none_passed k first))
            (front-none k e first (record { each = each; bytes = 0; reports = 0 }) refl refl);
      }

  module _ (each : List Settled) (bytes reports j : ℕ) (w : Walk each bytes reports j) where
    pub walk-on : (last : ℕ) (r : Sized) (more : ℕ) → last ≡ min n 32 → j < last → SettlesOne cells j counts byte text scopes defs used marks r → more ≡ report_or (settlement_of r.settled).report
        → Walk (set each j r.settled) (bytes + r.size) (reports + more) (j + 1)
    walk-on last r more l h one m =
        let p = w.past in
        let b = w.most in
        let f = w.fewer in
        let z = one.short in
        let few = one_at_most (settlement_of r.settled).report more m in
        let long = w.long in
        record {
          long = length-set each j r.settled ∙ long;
          past = omega arith;
          most = omega arith;
          fewer = omega arith;
          says = λ k fin tus e.
              let many = fin.many in
              let g = get_elem-some k.selections j (omega arith) in
              let x : Selection = g.0 in
              let c : Comes k (fed_by k x) r =
              one.says k x fin.scopes_in (stands-at k cells first n counts byte text scopes defs fin j x g.1) fin.end_is (fin.counted j x p g.1) tus in
              let s : Settling = record { each = each; bytes = bytes; reports = reports } in
              let t : Settling =
              record { each = set each j r.settled; bytes = bytes + r.size; reports = reports + more } in
              let len : first + length (passed k first j) ≡ j = let q = passed_length k first j p (omega arith) in omega arith in
              subst (λ (xs : List Selection). Front k e first xs t) (sym (passed-one k first j p x (omega arith) g.1))
              (front-one k e first (passed k first j) (fed_by k x) s t r j len (w.says k fin tus e) c old new refl (ap (λ (i : ℕ). reports + i) m));
        }
      where
        old : (i : ℕ) → i < j
            → settled_at (record { each = set each j r.settled; bytes = bytes + r.size; reports = reports + more }) i
            ≡ settled_at (record { each = each; bytes = bytes; reports = reports }) i
        old i q =
            ap settlement_of (get_or-set_other each j i r.settled Nothing (λ z. omega arith))

        new : settled_at (record { each = set each j r.settled; bytes = bytes + r.size; reports = reports + more }) j
            ≡ settlement_of r.settled
        new =
            ap settlement_of (get_or-set_same each j r.settled Nothing (let q = w.long in omega arith))

    pub walk_end : (last : ℕ) → last ≡ min n 32 → last ≤ j → (k : Ended) → Finishing k cells first n counts byte text scopes defs → TuplesIn k used marks
        → SettledAll k first (record { each = each; bytes = bytes; reports = reports })
    walk_end last l h k fin tus =
        record { bytes = λ e. (front e).bytes; reports = λ e. (front e).reports; each = λ e. (front e).each }
      where
        front : (e : ℕ) → Front k e first (finished k first) (record { each = each; bytes = bytes; reports = reports })
        front e =
            let few = fin.few in
            let many = fin.many in
            subst (λ (xs : List Selection). Front k e first xs (record { each = each; bytes = bytes; reports = reports }))
            (passed-all k first j w.past (omega arith)) (w.says k fin tus e)
