-- A number in decimal: the fewest digits that hold it are those that the definition counts, and there are at most twenty.
-- Assumes nothing.
use Prim.Native.Nat.{ℕ, zero, suc, ◌+◌, ◌-◌, ◌^◌, ◌/◌, ◌≤◌, ◌<◌, zero-le, suc-le-suc}
use native.Mathlib.Nat.{pow-le-pow_right, le_trans, lt_of_lt_of_le, lt_irrefl, zero-lt-suc}
use native.Mathlib.Omega.{arith}
use borrow.Author.Tests.{ltb-true, ltb-false, leb-true, leb-false}
use lib.Dec.{leb, ltb}
use lib.ListN.{length, length-append}
use mathlib.Core.Path.{◌≡◌, refl, ap, sym, ◌∙◌}
use mathlib.Core.Bool.{Bool, true, false, cond}
use mathlib.Core.List.{List, [], ◌∷◌, ◌++◌}
use Rattle.io.specs.Digits.{last_digits, IsDigitCount}
use Rattle.records.specs.Readers.{Bytes}
use Rattle.output_stores.specs.Stores.{Appended}
use Rattle.output_stores.proofs.Appends.{not-appended}
use Rattle.tuple_search.proofs.Making.{appended_then}
use Rattle.lines.specs.Lines.{width_from, decimal, word}

-- ---- how many digits

-- with k digits n is not held where more are the fewest
not-held : (n k r : ℕ) → IsDigitCount 10 1 n r → 1 ≤ k → k < r → n < 10 ^ k → ⊥
not-held n k r w a h l =
    let p : 10 ^ (r - 1) ≤ n = w.2 (omega arith) in
    let q : 10 ^ k ≤ 10 ^ (r - 1) = pow-le-pow_right (zero-lt-suc 9) (omega arith) in
    lt_irrefl n (lt_of_lt_of_le l (le_trans q p))

width_is : (f k n r : ℕ) → IsDigitCount 10 1 n r → 1 ≤ k → k ≤ r → r ≤ k + f → width_from f k n ≡ r
unfolding width_from
width_is zero k n r w a b c = omega arith
width_is (suc f) k n r w a b c = by (ltb n (10 ^ k)) refl (leb r k) refl (width_is f (suc k) n r w (omega arith))
  where
    by : (t : Bool) → ltb n (10 ^ k) ≡ t → (u : Bool) → leb r k ≡ u → (suc k ≤ r → r ≤ suc k + f → width_from f (suc k) n ≡ r)
        → cond t k (width_from f (suc k) n) ≡ r
    by true e true g ih = let l = leb-true r k g in omega arith
    by true e false g ih = absurd (not-held n k r w a (leb-false r k g) (ltb-true n (10 ^ k) e))
    by false e true g ih =
        let l = leb-true r k g in
        let q : k ≡ r = omega arith in
        let h : 10 ^ k ≤ n = ltb-false n (10 ^ k) e in
        absurd (lt_irrefl n (lt_of_lt_of_le w.1 (le_trans (pow-le-pow_right (zero-lt-suc 9) (omega arith)) h)))
    by false e false g ih = let l = leb-false r k g in ih (omega arith) (omega arith)

-- twenty are enough for a number of 64 bits
pub at-most-twenty : (n r : ℕ) → IsDigitCount 10 1 n r → n < 18446744073709551616 → r ≤ 20
at-most-twenty n r w h = by (leb r 20) refl
  where
    by : (t : Bool) → leb r 20 ≡ t → r ≤ 20
    by true e = leb-true r 20 e
    by false e = absurd (not-held n 20 r w (omega arith) (leb-false r 20 e) (omega arith))

pub decimal-is : (n size : ℕ) (text : Bytes) → IsDigitCount 10 1 n size → size ≤ 20 → text ≡ last_digits 10 size n → text ≡ decimal n
unfolding decimal
decimal-is n size text w h e = e ∙ ap (λ (k : ℕ). last_digits 10 k n) (sym (width_is 19 1 n size w (omega arith) w.0 (omega arith)))

-- ---- their number

width-most : (f k n : ℕ) → width_from f k n ≤ k + f
unfolding width_from
width-most zero k n = omega arith
width-most (suc f) k n = by (ltb n (10 ^ k)) (width-most f (suc k) n)
  where
    by : (t : Bool) → width_from f (suc k) n ≤ suc k + f → cond t k (width_from f (suc k) n) ≤ k + suc f
    by true ih = omega arith
    by false ih = omega arith

digits-count : (k n : ℕ) → length (last_digits 10 k n) ≡ k
digits-count zero n = refl
digits-count (suc k) n = let i = digits-count k (n / 10) in let l = length-append (last_digits 10 k (n / 10)) (_ ∷ []) in l ∙ omega (arith, i)

pub word-short : (n end : ℕ) → length (word n end) ≤ 21
unfolding word decimal
word-short n end =
    let l = length-append (last_digits 10 (width_from 19 1 n) n) (end ∷ []) in
    omega (arith, l, digits-count (width_from 19 1 n) n, width-most 19 1 n)

-- ---- what `Line::word` adds

module _ (d : Bytes) (used n end size : ℕ) (text : Bytes) (w : IsDigitCount 10 1 n size) (h : size ≤ 20) (e : text ≡ last_digits 10 size n) where
  text-count : length text ≡ size
  text-count = ap length e ∙ digits-count size n

  pub word-not : length d < used + size + 1 → Appended d used (word n end) used d
  unfolding word
  word-not g =
      not-appended d used (decimal n ++ (end ∷ []))
      (let l = length-append (decimal n) (end ∷ []) in let s = ap length (decimal-is n size text w h e) in let t = text-count in omega arith)

  pub word-appended : (mid : ℕ) (m : Bytes) (next : ℕ) (after : Bytes) → used + size + 1 ≤ length d → Appended d used text mid m → Appended m mid (end ∷ []) next after
      → Appended d used (word n end) next after
  unfolding word
  word-appended mid m next after g a b =
      rw (← decimal-is n size text w h e) (appended_then d used text (end ∷ []) mid next m after a b (let t = text-count in omega arith))
