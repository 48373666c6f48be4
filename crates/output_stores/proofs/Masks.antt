-- Sets of numbers as bits: a number past them is not in the set, since the set, divided by so large a power of two, is
-- 0; a number above all that are in the set adds its bit; two sets together have what one of them has.
-- Assumes nothing.
use Prim.Native.Nat.{ℕ, zero, suc, ◌+◌, ◌*◌, ◌/◌, ◌%◌, ◌^◌, ◌≤◌, ◌<◌, max}
use native.Mathlib.Nat.{div-eq_of_lt, pow-le-pow_right, lt_of_lt_of_le, mod-lt, add-zero, zero-mul, one-mul, mul-one, zero-add, add-mul-div_left, zero-div}
use native.Mathlib.Omega.{arith}
use lib.Bits.{bit_or, or_shr, or_step, or_zero_r, or_shifted_r}
use lib.Dec.{eqb}
use lib.Pow.{pow_pos}
use mathlib.Core.Path.{◌≡◌, refl, ap, sym, ◌∙◌}
use mathlib.Core.Bool.{Bool, true, false, cond, ◌||◌}
use Rattle.std.proofs.lemmas.Nat.{one_shl}
use Rattle.output_stores.specs.Stores.{in_mask}

pub past-mask : (mask c : ℕ) → mask < 4294967296 → 32 ≤ c → in_mask mask c ≡ false
unfolding in_mask
past-mask mask c h g = rw (div-eq_of_lt (lt_of_lt_of_le h (pow-le-pow_right {n = 2} (omega arith) g)))

-- ---- the empty set, and a set of one number

pub in-none : (c : ℕ) → in_mask 0 c ≡ false
unfolding in_mask
in-none c = rw (zero-div _)

pub one_in : (c : ℕ) → in_mask (2 ^ c) c ≡ true
unfolding in_mask
one_in c =
    let q : 2 ^ c / 2 ^ c ≡ 1 =
    ap (λ (n : ℕ). n / 2 ^ c) (sym (zero-add (2 ^ c * 1) ∙ mul-one (2 ^ c))) ∙ add-mul-div_left 0 1 (pow_pos c) ∙ ap (λ (n : ℕ). n + 1) (zero-div (2 ^ c)) in
    rw q

-- ---- one number more

-- the bit of a number above all that are in the set, as code makes it
pub with-bit : (mask k bit : ℕ) (here : Bool) → k ≤ 31 → mask < 2 ^ k → bit ≡ cond here 1 0
    → bit_or mask (bit * 2 ^ k % 4294967296) ≡ mask + cond here (2 ^ k) 0
with-bit mask k bit true h low e =
    let one : 1 * 2 ^ k ≡ 2 ^ k = one-mul (2 ^ k) in
    ap (λ (n : ℕ). bit_or mask (n * 2 ^ k % 4294967296)) e
    ∙ ap (bit_or mask) (one_shl k 32 (omega arith) ∙ sym one)
    ∙ or_shifted_r 1 k mask low
    ∙ omega (arith, one)
with-bit mask k bit false h low e =
    ap (λ (n : ℕ). bit_or mask (n * 2 ^ k % 4294967296)) e
    ∙ ap (λ (n : ℕ). bit_or mask (n % 4294967296)) (zero-mul (2 ^ k))
    ∙ or_zero_r mask
    ∙ sym (add-zero mask)

-- ---- two sets

either : (x y : ℕ) → x < 2 → y < 2 → eqb (max x y) 1 ≡ (eqb x 1 || eqb y 1)
either zero zero h g = refl
either zero (suc zero) h g = refl
either (suc zero) zero h g = refl
either (suc zero) (suc zero) h g = refl
either zero (suc (suc y)) h g = absurd (omega arith)
either (suc zero) (suc (suc y)) h g = absurd (omega arith)
either (suc (suc x)) y h g = absurd (omega arith)

last_bit : (x y : ℕ) → bit_or x y % 2 ≡ max (x % 2) (y % 2)
last_bit x y =
    let e = or_step x y in
    let h = mod-lt x {m = 2} (omega arith) in
    let g = mod-lt y {m = 2} (omega arith) in
    omega arith

pub in_either : (a b c : ℕ) → in_mask (bit_or a b) c ≡ (in_mask a c || in_mask b c)
unfolding in_mask
in_either a b c =
    let x : ℕ = a / 2 ^ c in
    let y : ℕ = b / 2 ^ c in
    let e : bit_or a b / 2 ^ c % 2 ≡ max (x % 2) (y % 2) = ap (λ (n : ℕ). n % 2) (or_shr a b c) ∙ last_bit x y in
    ap (λ (n : ℕ). eqb n 1) e ∙ either (x % 2) (y % 2) (mod-lt x (omega arith)) (mod-lt y (omega arith))
