-- A set of numbers as bits: a number is in it where the bit is, and one bit more stands above all that are there.
-- Assumes nothing.
use Prim.Native.Nat.{ℕ, zero, suc, ◌+◌, ◌*◌, ◌/◌, ◌^◌, ◌<◌}
use native.Mathlib.Omega.{arith}
use native.Mathlib.Nat.{zero-div, div-one, pow-zero, pow-succ', div-div-eq-div-mul, add-mul-mod_self_left, mul-add, mul-one, mul_assoc, add_assoc, add-zero, zero-add}
use lib.ListN.{get_or}
use mathlib.Core.Path.{◌≡◌, ◌∙◌}
use mathlib.Core.Bool.{Bool, true, false, cond}
use mathlib.Core.List.{List, [], ◌∷◌}
use Rattle.std.proofs.lemmas.Grind.{pow_more}
use Rattle.output_stores.specs.Stores.{in_mask}
use Rattle.constraints.specs.Walks.{bits_of}

-- ---- a number in the set

low_bit : (b : Bool) (n : ℕ) → in_mask (cond b 1 0 + 2 * n) 0 ≡ b
unfolding in_mask
low_bit true n = rw (pow-zero 2, div-one (1 + 2 * n), add-mul-mod_self_left 1 2 n)
low_bit false n = rw (pow-zero 2, div-one (0 + 2 * n), add-mul-mod_self_left 0 2 n)

half : (b : Bool) (n : ℕ) → (cond b 1 0 + 2 * n) / 2 ≡ n
half true n = omega arith
half false n = omega arith

high_bit : (b : Bool) (n c : ℕ) → in_mask (cond b 1 0 + 2 * n) (suc c) ≡ in_mask n c
unfolding in_mask
high_bit b n c = rw (pow-succ' 2 c, ← (div-div-eq-div-mul (cond b 1 0 + 2 * n) 2 (2 ^ c)), half b n)

-- THE LAW
pub bit_is : (bs : List Bool) (c : ℕ) → in_mask (bits_of bs) c ≡ get_or bs c false
unfolding bits_of
bit_is [] c = unfold in_mask in rw (zero-div (2 ^ c))
bit_is (b ∷ bs) zero = low_bit b (bits_of bs)
bit_is (b ∷ bs) (suc c) = high_bit b (bits_of bs) c ∙ bit_is bs c

-- ---- one bit more

-- bit k beside a set of numbers below k
pub below_next : (k mask : ℕ) (b : Bool) → mask < 2 ^ k → mask + cond b (2 ^ k) 0 < 2 ^ (k + 1)
below_next k mask true h = let e = pow_more 2 k in omega arith
below_next k mask false h = let e = pow_more 2 k in omega arith

pub bit_moved : (k mask n : ℕ) (b : Bool) → mask + cond b (2 ^ k) 0 + 2 ^ (k + 1) * n ≡ mask + 2 ^ k * (cond b 1 0 + 2 * n)
bit_moved k mask n true = rw (pow_more 2 k, mul_assoc (2 ^ k) 2 n, mul-add (2 ^ k) 1 (2 * n), mul-one (2 ^ k)) (add_assoc mask (2 ^ k) (2 ^ k * (2 * n)))
bit_moved k mask n false = rw (pow_more 2 k, mul_assoc (2 ^ k) 2 n, add-zero mask, zero-add (2 * n))
