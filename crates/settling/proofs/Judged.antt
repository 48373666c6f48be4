-- THE LAW of `settle`: what the answer says is added is what the finished selection adds, judged against the tuples as they stand. Outcome by outcome; a tuple that
-- is found has a number from 1 on, and no larger than there are tuples.
-- Assumes nothing.
use Prim.Native.Nat.{ℕ, zero, suc, ◌≤◌, ◌<◌, min}
use native.Mathlib.Omega.{arith}
use lib.ListN.{length, get_or}
use mathlib.Core.Path.{◌≡◌, refl, ap, ◌∙◌}
use mathlib.Core.Bool.{Bool, true, false, cond}
use mathlib.Core.List.{List, [], ◌∷◌, map}
use mathlib.Core.Option
use mathlib.Core.Option.{Option, none, some}
use Rattle.lists.specs.Lists.{only_if}
use Rattle.texts.specs.Texts.{Text}
use Rattle.tree.specs.Events.{Kind, unique, key, keyref, Scope}
use Rattle.tree.specs.Cells.{Cell}
use Rattle.tree.specs.Judge.{Tuple, Outcome, keys_of, several_nodes, no_simple_value, missing, on_nillable, complete, outcome, tuple_of, is_tuple, place, present}
use Rattle.records.specs.Readers.{Bytes, reads}
use Rattle.session_spec.specs.Definitions.{Definitions, frame}
use Rattle.session_spec.specs.Layout.{TuRecord, read_tu, as_tuple}
use Rattle.output_stores.specs.Stores.{standing}
use Rattle.tuple_search.specs.Search.{tail_bytes, or_zero, first_with}
use Rattle.tuple_search.proofs.Found.{found-is}
use Rattle.tuple_search.proofs.Keys.{tuple_in, tuple-keys}
use Rattle.runs.proofs.TwoPass.{adds_or, completes, misses, adds_marked, adds}
use Rattle.settlements.specs.Finished.{nothing, told, kept, found_or, complete_by, missing_by, nillable_by, settled_by, reports_of, added_of}

-- ---- a tuple that is found

place-within : (s : ℕ) (ks : List Text) (ts : List Tuple) (n : ℕ) → place s ks ts ≡ some n → (1 ≤ n) × (n ≤ length ts)
unfolding place
place-within s ks [] n e = let z : ◌≡◌ {A = ℕ} 0 1 = cc in absurd (omega arith)
place-within s ks (t ∷ ts) n e = by (is_tuple s ks t) (place s ks ts) (place-within s ks ts) e
  where
    by : (b : Bool) (o : Option ℕ) → ((m : ℕ) → o ≡ some m → (1 ≤ m) × (m ≤ length ts)) → cond b (some 1) (Option.map suc o) ≡ some n → (1 ≤ n) × (n ≤ suc (length ts))
    by true o h e = let z : 1 ≡ n = cc in omega arith
    by false none h e = let z : ◌≡◌ {A = ℕ} 0 1 = cc in absurd (omega arith)
    by false (some m) h e = let z : suc m ≡ n = cc in let q = h m refl in omega arith

found-adds : (q : Option ℕ) (e : ℕ) (s : Scope) (ks : List Text) → ((n : ℕ) → q ≡ some n → (1 ≤ n) × (n ≤ 4294967295))
    → added_of (found_or (or_zero q)) e s ks ≡ adds_or q e s ks
unfolding added_of reports_of found_or or_zero adds_or only_if
found-adds none e s ks h = refl
found-adds (some zero) e s ks h = let q = h 0 refl in absurd (omega arith)
found-adds (some (suc n)) e s ks h =
    let q = h (suc n) refl in
    let m : min (suc n) 4294967295 ≡ suc n = omega arith in
    ap (λ (t : ℕ). added_of (told 4 0 t) e s ks) m

-- ---- outcome by outcome

refer-adds : (b : Bool) (e : ℕ) (s : Scope) (ks : List Text)
    → added_of (cond b kept nothing) e s ks ≡ cond b (record { tuples = tuple_of s ks ∷ []; reports = [] }) (record { tuples = []; reports = [] })
unfolding added_of reports_of only_if
refer-adds true e s ks = refl
refer-adds false e s ks = refl

missing-adds : (k : Kind) (e : ℕ) (s : Scope) (i : ℕ) (ks : List Text) → added_of (missing_by k i) e s ks ≡ misses k e s i
unfolding added_of reports_of missing_by misses only_if
missing-adds unique e s i ks = refl
missing-adds key e s i ks = refl
missing-adds keyref e s i ks = refl

complete-adds : (k : Kind) (ts : List Tuple) (e : ℕ) (s : Scope) (ks : List Text) → length ts ≤ 4294967295
    → added_of (complete_by k (present s.constraint.refer) (or_zero (place s.number ks ts))) e s ks ≡ completes k ts e s ks
unfolding complete_by completes
complete-adds unique ts e s ks h = found-adds (place s.number ks ts) e s ks (λ n q. let w = place-within s.number ks ts n q in omega arith)
complete-adds key ts e s ks h = found-adds (place s.number ks ts) e s ks (λ n q. let w = place-within s.number ks ts n q in omega arith)
complete-adds keyref ts e s ks h = refer-adds (present s.constraint.refer) e s ks

nillable-adds : (k : Kind) (ts : List Tuple) (e : ℕ) (s : Scope) (i : ℕ) (ks : List Text) → length ts ≤ 4294967295
    → added_of (nillable_by k (present s.constraint.refer) i (or_zero (place s.number ks ts))) e s ks ≡ adds_marked k ts e s i ks
unfolding nillable_by adds_marked
nillable-adds unique ts e s i ks h = complete-adds unique ts e s ks h
nillable-adds key ts e s i ks h = unfold added_of reports_of only_if in refl
nillable-adds keyref ts e s i ks h = complete-adds keyref ts e s ks h

module _ (s : Scope) (used : Bytes) (ts : List Tuple) (few : length ts ≤ 4294967295)
    (found : (ks : List Text) → first_with (tail_bytes s.number ks) (standing frame used) ≡ or_zero (place s.number ks ts)) (e : ℕ) where
  outcome-adds : (o : Outcome) (ks : List Text) → ((ls : List Text) → tuple_in o ≡ some ls → ks ≡ ls)
      → added_of (settled_by s.constraint.kind (present s.constraint.refer) s.number used o) e s ks ≡ adds ts e s o
  unfolding settled_by adds tuple_in
  outcome-adds several_nodes ks h = unfold added_of reports_of only_if in refl
  outcome-adds no_simple_value ks h = unfold added_of reports_of only_if in refl
  outcome-adds (missing i) ks h = missing-adds s.constraint.kind e s i ks
  outcome-adds (on_nillable i ls) ks h =
      ap (added_of (nillable_by s.constraint.kind (present s.constraint.refer) i (first_with (tail_bytes s.number ls) (standing frame used))) e s) (h ls refl)
      ∙ ap (λ (n : ℕ). added_of (nillable_by s.constraint.kind (present s.constraint.refer) i n) e s ls) (found ls)
      ∙ nillable-adds s.constraint.kind ts e s i ls few
  outcome-adds (complete ls) ks h =
      ap (added_of (complete_by s.constraint.kind (present s.constraint.refer) (first_with (tail_bytes s.number ls) (standing frame used))) e s) (h ls refl)
      ∙ ap (λ (n : ℕ). added_of (complete_by s.constraint.kind (present s.constraint.refer) n) e s ls) (found ls)
      ∙ complete-adds s.constraint.kind ts e s ls few

-- of a tuple store that reads
pub settle-adds : (s : Scope) (d : Definitions) (used : Bytes) (tus : List TuRecord) (cs : List Cell) (e : ℕ) → ((i : ℕ) → get_or used i 0 < 256)
    → reads read_tu used ≡ some tus → length (map (as_tuple d) tus) ≤ 4294967295
    → added_of (settled_by s.constraint.kind (present s.constraint.refer) s.number used (outcome cs)) e s (keys_of cs) ≡ adds (map (as_tuple d) tus) e s (outcome cs)
settle-adds s d used tus cs e b h few =
    outcome-adds s used (map (as_tuple d) tus) few (λ ks. found-is used tus d s.number ks b h) e (outcome cs) (keys_of cs) (λ ls h. (tuple-keys cs ls h).1)
