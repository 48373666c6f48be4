-- A set of places below k, and place k beside them: the others stay as they were, since the bit of k is a multiple of twice theirs.
-- Assumes nothing.
use Prim.Native.Nat.{ℕ, suc, ◌+◌, ◌-◌, ◌*◌, ◌/◌, ◌^◌, ◌≤◌, ◌<◌}
use native.Mathlib.Nat.{add-zero, mul-one, pow-succ', div-eq_of_lt, add-mul-div_left, add-mul-mod_self_left, pow-le-pow_right, lt_of_lt_of_le}
use native.Mathlib.Omega.{arith}
use lib.Pow.{pow-add, pow_pos}
use mathlib.Core.Path.{◌≡◌, ap, sym, ◌∙◌}
use mathlib.Core.Bool.{Bool, true, false, cond}
use Rattle.output_stores.specs.Stores.{in_mask}

-- the bit of k, seen from a place below
power-above : (i k : ℕ) → i < k → 2 ^ k ≡ 2 ^ i * (2 * 2 ^ (k - suc i))
power-above i k h =
    let e : k ≡ i + suc (k - suc i) = omega arith in
    ap (λ (n : ℕ). 2 ^ n) e ∙ pow-add 2 i (suc (k - suc i)) ∙ ap (λ (n : ℕ). 2 ^ i * n) (pow-succ' 2 (k - suc i))

module _ (mask k : ℕ) (low : mask < 2 ^ k) where
  pub past-low : (i : ℕ) → k ≤ i → in_mask mask i ≡ false
  unfolding in_mask
  past-low i h = rw (div-eq_of_lt (lt_of_lt_of_le low (pow-le-pow_right {n = 2} (omega arith) h)))

  below-same : (i : ℕ) → i < k → in_mask (mask + 2 ^ k) i ≡ in_mask mask i
  unfolding in_mask
  below-same i h =
      let q : (mask + 2 ^ k) / 2 ^ i ≡ mask / 2 ^ i + 2 * 2 ^ (k - suc i) =
      ap (λ (n : ℕ). (mask + n) / 2 ^ i) (power-above i k h) ∙ add-mul-div_left mask (2 * 2 ^ (k - suc i)) (pow_pos i) in
      rw (q, add-mul-mod_self_left (mask / 2 ^ i) 2 (2 ^ (k - suc i)))

  here_in : in_mask (mask + 2 ^ k) k ≡ true
  unfolding in_mask
  here_in =
      let q : (mask + 2 ^ k) / 2 ^ k ≡ 1 =
      ap (λ (n : ℕ). (mask + n) / 2 ^ k) (sym (mul-one (2 ^ k))) ∙ add-mul-div_left mask 1 (pow_pos k) ∙ ap (λ (n : ℕ). n + 1) (div-eq_of_lt low) in
      rw q

  pub with-below : (b : Bool) (i : ℕ) → i < k → in_mask (mask + cond b (2 ^ k) 0) i ≡ in_mask mask i
  with-below true i h = below-same i h
  with-below false i h = ap (λ (n : ℕ). in_mask n i) (add-zero mask)

  pub with-here : (b : Bool) → in_mask (mask + cond b (2 ^ k) 0) k ≡ b
  with-here true = here_in
  with-here false = ap (λ (n : ℕ). in_mask n k) (add-zero mask) ∙ past-low k (omega arith)
