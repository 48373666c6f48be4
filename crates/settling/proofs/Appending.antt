-- The walks of the writers: what has been appended so far is what the selections that were passed add; one more is appended behind it, and there is room, since the
-- bytes of all are no more than there is room for.
-- Assumes nothing.
use Prim.Native.Nat.{ℕ, zero, suc, ◌+◌, ◌-◌, ◌*◌, ◌≤◌, ◌<◌, min}
use native.Mathlib.Omega.{arith}
use native.Mathlib.Nat.{add-zero}
use lib.ListN.{length, take, drop, get_or, get_elem?, length-append, length-map, length-drop}
use lib.Seq.{split_at, get_or-drop}
use mathlib.Core.Path.{◌≡◌, refl, ap, sym, ◌∙◌, subst}
use mathlib.Core.List.{List, [], ◌∷◌, ◌++◌, map, flat_map}
use mathlib.Core.Option.{some}
use Rattle.lists.proofs.Lists.{flat_map-append}
use Rattle.lists.proofs.Places.{get_elem-some, map_found}
use Rattle.lists.proofs.Writes.{put-fits}
use Rattle.texts.specs.Texts.{Text}
use Rattle.tree.specs.Judge.{Tuple, Report, keys_of}
use Rattle.machine.specs.Machine.{Selection}
use Rattle.records.specs.Readers.{Bytes}
use Rattle.session_spec.specs.Layout.{put_tu, put_rp}
use Rattle.output_stores.specs.Stores.{Appended}
use Rattle.output_stores.proofs.Appends.{nothing-appended}
use Rattle.tuple_search.proofs.Making.{appended_then, fits_next}
use Rattle.runs.proofs.TwoPass.{adds_all}
use Rattle.open_scopes.specs.declared.Scopes.{Scopes}
use Rattle.settlements.specs.declared.Settling.{Settling}
use Rattle.settlements.specs.Finished.{Settlement, added_of}
use Rattle.settlements.specs.Ending.{Ended, fed_by, finished, Finishing, adds_of, all_add, settled_at, remembered_from, Remembers, WritesTuple, WritesReport, WritesTuples, WritesReports, WritesAll}
use Rattle.settling.proofs.Turns.{passed, passed-one, passed-all, none_passed, stands-at, tuples-append, reports-append, tuples-one, reports-one}
use Rattle.session_laws.proofs.Stores.{reports-size}

-- ---- what is remembered of one

remembered-at : (k : Ended) (e : ℕ) (s : Settling) (i : ℕ) (xs : List Selection) (m : ℕ) (d : Selection) → m < length xs → remembered_from e s i xs ≡ map (adds_of k e) xs
    → added_of (settled_at s (i + m)) e (get_or xs m d).scope (keys_of (get_or xs m d).cells) ≡ adds_of k e (get_or xs m d)
unfolding remembered_from
remembered-at k e s i [] m d l h = absurd (omega arith)
remembered-at k e s i (x ∷ xs) zero d l h =
    let p : added_of (settled_at s i) e x.scope (keys_of x.cells) ≡ adds_of k e x = cc in
    ap (λ (n : ℕ). added_of (settled_at s n) e x.scope (keys_of x.cells)) (add-zero i) ∙ p
remembered-at k e s i (x ∷ xs) (suc m) d l h =
    let n : i + suc m ≡ suc i + m = omega arith in
    ap (λ (j : ℕ). added_of (settled_at s j) e (get_or xs m d).scope (keys_of (get_or xs m d).cells)) n ∙ remembered-at k e s (suc i) xs m d (omega arith) (cc)

module _ (k : Ended) (first j : ℕ) (h : first ≤ j) (x : Selection) (l : j < length k.selections) (g : get_elem? k.selections j ≡ some x) where
  abbrev all-fed : List Selection
  all-fed = map (fed_by k) k.selections

  inside : j - first < length (drop first all-fed)
  inside = let m = length-map k.selections (fed_by k) in let d = length-drop first all-fed in omega arith

  nth-finished : get_or (drop first all-fed) (j - first) (fed_by k x) ≡ fed_by k x
  nth-finished =
      let b : first + (j - first) ≡ j = omega arith in
      get_or-drop first all-fed (j - first) (fed_by k x) ∙ ap (λ (i : ℕ). get_or all-fed i (fed_by k x)) b ∙ map_found (fed_by k) k.selections j x (fed_by k x) g

  pub remembered-of : (e : ℕ) (s : Settling) → Remembers k first e s → added_of (settled_at s j) e (fed_by k x).scope (keys_of (fed_by k x).cells) ≡ adds_of k e (fed_by k x)
  unfolding finished
  remembered-of e s r =
      let b : first + (j - first) ≡ j = omega arith in
      subst (λ (y : Selection). added_of (settled_at s j) e y.scope (keys_of y.cells) ≡ adds_of k e y) nth-finished
      (subst (λ (i : ℕ). added_of (settled_at s i) e (get_or (drop first all-fed) (j - first) (fed_by k x)).scope (keys_of (get_or (drop first all-fed) (j - first) (fed_by k x)).cells) ≡ adds_of k e (get_or (drop first all-fed) (j - first) (fed_by k x)))
      b (remembered-at k e s first (drop first all-fed) (j - first) (fed_by k x) inside r))

  -- it stands behind those that were passed
  split-finished : finished k first ≡ passed k first j ++ (fed_by k x ∷ drop (suc (j - first)) (drop first all-fed))
  unfolding finished
  split-finished =
      split_at (drop first all-fed) (j - first) (fed_by k x) inside
      ∙ ap (λ (y : Selection). take (j - first) (drop first all-fed) ++ (y ∷ drop (suc (j - first)) (drop first all-fed))) nth-finished

  -- ---- one append more, of bytes `F` that the selections come to one behind the other

  module _ (F : List Selection → Bytes) (joins : (xs ys : List Selection) → F (xs ++ ys) ≡ F xs ++ F ys) where
    one_more : (before : Bytes) (used : ℕ) (mid : Bytes) (next next' : ℕ) (after : Bytes) → used + length (F (finished k first)) ≤ length before
        → Appended before used (F (passed k first j)) next mid → Appended mid next (F (fed_by k x ∷ [])) next' after
        → Appended before used (F (passed k first (j + 1))) next' after
    one_more before used mid next next' after room a b =
        let xs : List Selection = passed k first j in
        let y : Selection = fed_by k x in
        let rest : List Selection = drop (suc (j - first)) (drop first all-fed) in
        let w : length (F (finished k first)) ≡ length (F xs) + length (F (y ∷ rest)) = ap (λ (l : List Selection). length (F l)) split-finished ∙ ap length (joins xs (y ∷ rest)) ∙ length-append (F xs) (F (y ∷ rest)) in
        let v : length (F (y ∷ rest)) ≡ length (F (y ∷ [])) + length (F rest) = ap length (joins (y ∷ []) rest) ∙ length-append (F (y ∷ [])) (F rest) in
        subst (λ (l : Bytes). Appended before used l next' after) (sym (ap F (passed-one k first j h x l g) ∙ joins xs (y ∷ [])))
        (appended_then before used (F xs) (F (y ∷ [])) next next' mid after a b (omega arith))

-- ---- TUs

abbrev tuples_by : Ended → ℕ → List Selection → Bytes
tuples_by k e xs = flat_map put_tu (adds_all k.tuples e xs).tuples

tuples-join : (k : Ended) (e : ℕ) (xs ys : List Selection) → tuples_by k e (xs ++ ys) ≡ tuples_by k e xs ++ tuples_by k e ys
tuples-join k e xs ys = ap (flat_map put_tu) (tuples-append k.tuples e xs ys) ∙ flat_map-append put_tu (adds_all k.tuples e xs).tuples (adds_all k.tuples e ys).tuples

no-tuples : (k : Ended) (e : ℕ) → tuples_by k e [] ≡ []
unfolding adds_all flat_map
no-tuples k e = refl

-- the TUs of those that were passed are there
pub record TuplesSoFar (s : Settling) (cells : Bytes) (first n : ℕ) (counts : Bytes) (byte : ℕ) (text : Text) (scopes : Scopes) (defs before : Bytes) (used : ℕ) (mid : Bytes) (next j : ℕ)
    : Type 0 where
  pub past : first ≤ j
  pub long : length mid ≡ length before
  pub says : (k : Ended) (e : ℕ) → Finishing k cells first n counts byte text scopes defs → Remembers k first e s
      → used + length (tuples_by k e (finished k first)) ≤ length before → Appended before used (tuples_by k e (passed k first j)) next mid

module _ (s : Settling) (cells : Bytes) (first n : ℕ) (counts : Bytes) (byte : ℕ) (text : Text) (scopes : Scopes) (defs before : Bytes) (used : ℕ) where
  pub tuples-first : TuplesSoFar s cells first n counts byte text scopes defs before used before used first
  tuples-first =
      record {
        past = omega arith;
        long = refl;
        says = λ k e fin rem room. subst (λ (l : Bytes). Appended before used l used before) (sym (ap (tuples_by k e) (none_passed k first) ∙ no-tuples k e)) (nothing-appended before used);
      }

  module _ (mid : Bytes) (next j : ℕ) (w : TuplesSoFar s cells first n counts byte text scopes defs before used mid next j) where
    pub tuples-on : (last : ℕ) (one : Settlement) (next' : ℕ) (after : Bytes) → last ≡ min n 32 → j < last → one ≡ settled_at s j → length after ≡ length mid
        → WritesTuple one cells j counts byte text scopes defs mid next next' after
        → TuplesSoFar s cells first n counts byte text scopes defs before used after next' (j + 1)
    tuples-on last one next' after l h o same writes =
        let p = w.past in
        record {
          past = omega arith;
          long = same ∙ w.long;
          says = λ k e fin rem room.
              let many = fin.many in
              let g = get_elem-some k.selections j (omega arith) in
              let x : Selection = g.0 in
              let r = remembered-of k first j p x (omega arith) g.1 e s rem in
              let a = writes k x e fin.scopes_in (stands-at k cells first n counts byte text scopes defs fin j x g.1) fin.end_is (fin.counted j x p g.1)
              (ap (λ (z : Settlement). added_of z e (fed_by k x).scope (keys_of (fed_by k x).cells)) o ∙ r) in
              one_more k first j p x (omega arith) g.1 (tuples_by k e) (tuples-join k e) before used mid next next' after room (w.says k e fin rem room)
              (subst (λ (ts : List Tuple). Appended mid next (flat_map put_tu ts) next' after) (sym (tuples-one k.tuples e (fed_by k x))) a);
        }

    pub tuples-end : (last : ℕ) → last ≡ min n 32 → last ≤ j → WritesTuples s cells first n counts byte text scopes defs before used next mid
    tuples-end last l h k e fin rem room =
        let few = fin.few in
        let many = fin.many in
        subst (λ (xs : List Selection). Appended before used (tuples_by k e xs) next mid) (passed-all k first j w.past (omega arith)) (w.says k e fin rem room)

-- ---- reports

abbrev reports_by : Ended → ℕ → List Selection → Bytes
reports_by k e xs = flat_map put_rp (adds_all k.tuples e xs).reports

reports-join : (k : Ended) (e : ℕ) (xs ys : List Selection) → reports_by k e (xs ++ ys) ≡ reports_by k e xs ++ reports_by k e ys
reports-join k e xs ys = ap (flat_map put_rp) (reports-append k.tuples e xs ys) ∙ flat_map-append put_rp (adds_all k.tuples e xs).reports (adds_all k.tuples e ys).reports

no-reports : (k : Ended) (e : ℕ) → reports_by k e [] ≡ []
unfolding adds_all flat_map
no-reports k e = refl

-- the reports on those that were passed are there
pub record ReportsSoFar (s : Settling) (cells : Bytes) (first n : ℕ) (scopes : Scopes) (event : ℕ) (before : Bytes) (used : ℕ) (mid : Bytes) (next j : ℕ) : Type 0 where
  pub past : first ≤ j
  pub long : length mid ≡ length before
  pub says : (k : Ended) (counts : Bytes) (byte : ℕ) (text : Text) (defs : Bytes) → Finishing k cells first n counts byte text scopes defs → Remembers k first event s
      → used + length (reports_by k event (finished k first)) ≤ length before → Appended before used (reports_by k event (passed k first j)) next mid

module _ (s : Settling) (cells : Bytes) (first n : ℕ) (scopes : Scopes) (event : ℕ) (before : Bytes) (used : ℕ) where
  pub reports-first : ReportsSoFar s cells first n scopes event before used before used first
  reports-first =
      record {
        past = omega arith;
        long = refl;
        says = λ k counts byte text defs fin rem room.
            subst (λ (l : Bytes). Appended before used l used before) (sym (ap (reports_by k event) (none_passed k first) ∙ no-reports k event)) (nothing-appended before used);
      }

  module _ (mid : Bytes) (next j : ℕ) (w : ReportsSoFar s cells first n scopes event before used mid next j) where
    pub reports-on : (last : ℕ) (one : Settlement) (next' : ℕ) (after : Bytes) → last ≡ min n 32 → j < last → one ≡ settled_at s j → length after ≡ length mid
        → WritesReport one cells j scopes event mid next next' after → ReportsSoFar s cells first n scopes event before used after next' (j + 1)
    reports-on last one next' after l h o same writes =
        let p = w.past in
        record {
          past = omega arith;
          long = same ∙ w.long;
          says = λ k counts byte text defs fin rem room.
              let many = fin.many in
              let g = get_elem-some k.selections j (omega arith) in
              let x : Selection = g.0 in
              let r = remembered-of k first j p x (omega arith) g.1 event s rem in
              let a = writes k x defs fin.scopes_in (stands-at k cells first n counts byte text scopes defs fin j x g.1)
              (ap (λ (z : Settlement). added_of z event (fed_by k x).scope (keys_of (fed_by k x).cells)) o ∙ r) in
              one_more k first j p x (omega arith) g.1 (reports_by k event) (reports-join k event) before used mid next next' after room (w.says k counts byte text defs fin rem room)
              (subst (λ (rs : List Report). Appended mid next (flat_map put_rp rs) next' after) (sym (reports-one k.tuples event (fed_by k x))) a);
        }

    pub reports-end : (last : ℕ) → last ≡ min n 32 → last ≤ j → WritesReports s cells first n scopes event before used next mid
    reports-end last l h k counts byte text defs fin rem room =
        let few = fin.few in
        let many = fin.many in
        subst (λ (xs : List Selection). Appended before used (reports_by k event xs) next mid) (passed-all k first j w.past (omega arith)) (w.says k counts byte text defs fin rem room)

-- ---- both stores

pub both-written : (s : Settling) (cells : Bytes) (first n : ℕ) (counts : Bytes) (byte : ℕ) (text : Text) (scopes : Scopes) (defs : Bytes) (event : ℕ)
    (tuples : Bytes) (tused : ℕ) (reports : Bytes) (rused t r : ℕ) (tuples_after reports_after : Bytes)
    → WritesTuples s cells first n counts byte text scopes defs tuples tused t tuples_after → WritesReports s cells first n scopes event reports rused r reports_after
    → WritesAll s cells first n counts byte text scopes defs event tuples tused reports rused (record { tuples = t; reports = r }) tuples_after reports_after
both-written s cells first n counts byte text scopes defs event tuples tused reports rused t r tuples_after reports_after wt wr k fin rem room_t room_r =
    let ts : Bytes = flat_map put_tu (all_add k first event).tuples in
    let rs : Bytes = flat_map put_rp (all_add k first event).reports in
    let size : length rs ≡ 18 * length (all_add k first event).reports = reports-size (all_add k first event).reports in
    let a = wt k event fin rem room_t in
    let room : rused + length rs ≤ length reports = omega arith in
    let b = wr k counts byte text defs fin rem room in
    record {
      tuples_used = fits_next tuples tused ts t tuples_after a room_t;
      reports_used = fits_next reports rused rs r reports_after b room ∙ ap (λ (i : ℕ). rused + i) size;
      tuple_store = a.leaves ∙ put-fits tuples tused ts room_t;
      report_store = b.leaves ∙ put-fits reports rused rs room;
    }
