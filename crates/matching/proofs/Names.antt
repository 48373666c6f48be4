-- The open names by their places: name i stands in the bytes from `514 * i` on, and the names below an element are those from its place on. So n steps take
-- the names from `depth - n` on, if they can take any: as many as there are, or with `.//` no more. By induction on the number of names.
-- Assumes nothing.
use Prim.Native.Nat.{ℕ, zero, suc, ◌+◌, ◌-◌, ◌*◌, ◌≤◌, ◌<◌}
use native.Mathlib.Nat.{zero-add, suc-add, lt_of_not-le}
use native.Mathlib.Decide.{dec_le}
use native.Mathlib.Omega.{arith}
use lib.Dec.{eqb, leb}
use lib.ListN.{length, take, drop, length-map, drop_of_length-le}
use lib.Seq.{take-take, drop-drop}
use borrow.Author.Tests.{eqb-true, eqb-false, leb-true, leb-false}
use mathlib.Core.Path.{◌≡◌, refl, ap, sym, ◌∙◌}
use mathlib.Core.Bool.{Bool, true, false, cond, not, ◌&&◌}
use mathlib.Core.List.{List, [], ◌∷◌, map}
use Rattle.std.proofs.lemmas.List.{drop-take}
use Rattle.lists.specs.Lists.{part}
use Rattle.numbers.specs.Numbers.{two}
use Rattle.paths.specs.Matching.{NameTest, fit_all, fit_last}
use Rattle.paths.proofs.Slices.{fit_length, last-short, last-slice}
use Rattle.records.specs.Readers.{Bytes}
use Rattle.session_spec.specs.Layout.{parts}
use Rattle.session_laws.proofs.Parts.{parts-length}
use Rattle.matching.specs.Matched.{half_text, name_from, names_below}
use Rattle.matching.specs.Walks.{name_at, names_from, may_match}

-- ---- one name

pub half_is : (h : Bytes) → part h 2 (two h 0) ≡ half_text h
unfolding half_text two
half_is h = refl

module _ (i : ℕ) (names : Bytes) where
  pub space-is : half_text (part names (514 * i + 0) 257) ≡ (name_at i names).space
  unfolding name_at name_from
  space-is =
      let z : 514 * i + 0 ≡ 514 * i = omega arith in
      rw z (ap half_text (sym (take-take 257 514 (drop (514 * i) names) (omega arith))))

  pub local-is : half_text (part names (514 * i + 257) 257) ≡ (name_at i names).local
  unfolding name_at name_from
  local-is =
      ap (λ (l : Bytes). half_text (take 257 l)) (sym (drop-drop 257 (514 * i) names))
      ∙ ap half_text (sym (drop-take 257 257 (drop (514 * i) names)))

-- ---- several

names-length : (i n : ℕ) (names : Bytes) → length (names_from i n names) ≡ n
unfolding names_from
names-length i n names = length-map (parts 514 n (drop (514 * i) names)) name_from ∙ parts-length 514 n (drop (514 * i) names)

pub names-none : (i : ℕ) (names : Bytes) → names_from i 0 names ≡ []
unfolding names_from parts
names-none i names = refl

pub names-next : (i n : ℕ) (names : Bytes) → names_from i (suc n) names ≡ name_at i names ∷ names_from (i + 1) n names
unfolding names_from name_at parts
names-next i n names = let e : 514 * i + 514 ≡ 514 * (i + 1) = omega arith in rw (drop-drop 514 (514 * i) names, e)

drop-names : (k n i : ℕ) (names : Bytes) → drop k (names_from i (k + n) names) ≡ names_from (i + k) n names
drop-names zero n i names = let e : i + 0 ≡ i = omega arith in rw (zero-add n, e)
drop-names (suc k) n i names =
    let e : i + 1 + k ≡ i + suc k = omega arith in
    rw (suc-add k n, names-next i (k + n) names, drop-names k n (i + 1) names, e)

-- the names from a place on, of so many
names-behind : (i k n m : ℕ) (names : Bytes) → k + n ≡ m → drop k (names_from i m names) ≡ names_from (i + k) n names
names-behind i k n m names e = rw (← e) (drop-names k n i names)

from_front : (n : ℕ) (names : Bytes) → map name_from (parts 514 n names) ≡ names_from 0 n names
unfolding names_from
from_front n names = refl

below-is : (base depth : ℕ) (names : Bytes) → names_below base depth names ≡ names_from base (depth - base) names
unfolding names_below
below-is base depth names =
    ap (drop base) (from_front depth names)
    ∙ elim (dec_le base depth) [
      | yes h ↦
          let e : 0 + base ≡ base = omega arith in
          names-behind 0 base (depth - base) depth names (omega arith) ∙ ap (λ (i : ℕ). names_from i (depth - base) names) e
      | no h ↦
          let g : depth < base = lt_of_not-le h in
          let e : depth - base ≡ 0 = omega arith in
          drop_of_length-le (names_from 0 depth names) {i = base} (rw (names-length 0 depth names) (omega arith))
          ∙ sym (ap (λ (n : ℕ). names_from base n names) e ∙ names-none base names)
    ]

-- ---- which names n steps take

module _ (ts : List NameTest) (base depth : ℕ) (names : Bytes) where
  below_length : length (names_below base depth names) ≡ depth - base
  below_length = ap length (below-is base depth names) ∙ names-length base (depth - base) names

  -- the last n of them
  last-names : (n : ℕ) → n ≤ depth - base → drop (depth - base - n) (names_below base depth names) ≡ names_from (depth - n) n names
  last-names n h =
      ap (drop (depth - base - n)) (below-is base depth names)
      ∙ names-behind base (depth - base - n) n (depth - base) names (omega arith)
      ∙ elim (dec_le base depth) [
        | yes g ↦ let e : base + (depth - base - n) ≡ depth - n = omega arith in ap (λ (i : ℕ). names_from i n names) e
        | no g ↦
            let l : depth < base = lt_of_not-le g in
            let z : n ≡ 0 = omega arith in
            ap (λ (m : ℕ). names_from (base + (depth - base - n)) m names) z
            ∙ names-none (base + (depth - base - n)) names
            ∙ sym (ap (λ (m : ℕ). names_from (depth - n) m names) z ∙ names-none (depth - n) names)
      ]

  module _ (n : ℕ) (long : length ts ≡ n) where
    all-names : fit_all ts (names_below base depth names) ≡ (eqb n (depth - base) && fit_all ts (names_from (depth - n) n names))
    all-names = by (eqb n (depth - base)) refl
      where
        same : n ≡ depth - base → names_below base depth names ≡ names_from (depth - n) n names
        same e = let z : depth - base - n ≡ 0 = omega arith in ap (λ (k : ℕ). drop k (names_below base depth names)) (sym z) ∙ last-names n (omega arith)

        other : (b : Bool) → fit_all ts (names_below base depth names) ≡ b → (n ≡ depth - base → ⊥) → b ≡ false
        other true e d = absurd (d (sym long ∙ fit_length ts (names_below base depth names) e ∙ below_length))
        other false e d = refl

        by : (b : Bool) → eqb n (depth - base) ≡ b → fit_all ts (names_below base depth names) ≡ (b && fit_all ts (names_from (depth - n) n names))
        by true e = ap (fit_all ts) (same (eqb-true n (depth - base) e))
        by false e = other (fit_all ts (names_below base depth names)) refl (eqb-false n (depth - base) e)

    last_taken : fit_last ts (names_below base depth names) ≡ (leb n (depth - base) && fit_all ts (names_from (depth - n) n names))
    last_taken = by (leb n (depth - base)) refl
      where
        by : (b : Bool) → leb n (depth - base) ≡ b → fit_last ts (names_below base depth names) ≡ (b && fit_all ts (names_from (depth - n) n names))
        by true e =
            let h : n ≤ depth - base = leb-true n (depth - base) e in
            let l = below_length in
            let g : length (names_below base depth names) - length ts ≡ depth - base - n = omega arith in
            last-slice ts (names_below base depth names) (omega arith)
            ∙ ap (λ (k : ℕ). fit_all ts (drop k (names_below base depth names))) g
            ∙ ap (fit_all ts) (last-names n h)
        by false e =
            let h : depth - base < n = leb-false n (depth - base) e in
            let l = below_length in
            last-short ts (names_below base depth names) (omega arith)

    -- THE STEPS of a path take the names from `depth - n` on
    pub steps-take : (flag : ℕ) → cond (not (eqb flag 0)) (fit_last ts (names_below base depth names)) (fit_all ts (names_below base depth names))
        ≡ (may_match flag n (depth - base) && fit_all ts (names_from (depth - n) n names))
    steps-take flag = by (eqb flag 0)
      where
        by : (b : Bool) → cond (not b) (fit_last ts (names_below base depth names)) (fit_all ts (names_below base depth names))
            ≡ (cond b (eqb n (depth - base)) (leb n (depth - base)) && fit_all ts (names_from (depth - n) n names))
        by true = all-names
        by false = last_taken
