-- Where the slots of a text begin: a number below 2^32 times at most so many slots, divided by 2^32, is at most so many.
-- Assumes nothing.
use Rattle.std.proofs.Common.{◌≡◌, ℕ, ◌-◌, ◌*◌, ◌/◌, ◌<◌, ◌≤◌, min, Bool, true, false, cond, ltb, refl, mul-le-mul, arith, ltb-true, ltb-false}
use Rattle.tuple_index.specs.Index.{spare, start_of}

pub spare-least : (m : ℕ) → min (m / 4) 64 ≡ spare m
unfolding spare
spare-least m = by (ltb m 256) refl
  where
    by : (b : Bool) → ltb m 256 ≡ b → min (m / 4) 64 ≡ cond (ltb m 256) (m / 4) 64
    by true e = let h = ltb-true m 256 e in rw e (omega arith)
    by false e = let h = ltb-false m 256 e in rw e (omega arith)

-- and is at most so many times 2^32
pub product-most : (h k : ℕ) → h < 4294967296 → h * k / 4294967296 ≤ k
product-most h k a =
    let p = mul-le-mul {n₁ = h} {m₁ = k} {n₂ = 4294967296} {m₂ = k} (omega arith) (omega arith) in
    omega (arith, p)

pub start_is : (m h s k : ℕ) → s ≡ spare m → k ≡ min (m - s) 4294967295 → h * k / 4294967296 ≡ start_of m h
unfolding start_of
start_is m h s k e f = rw (f, e)

-- no text's first slot lies past them
pub start-most : (m h : ℕ) → h < 4294967296 → start_of m h ≤ m
unfolding start_of
start-most m h a = let p = product-most h (min (m - spare m) 4294967295) a in omega (arith, p)

pub spare-most : (m : ℕ) → spare m ≤ m
unfolding spare
spare-most m = by (ltb m 256) refl
  where
    by : (b : Bool) → ltb m 256 ≡ b → cond b (m / 4) 64 ≤ m
    by true e = omega arith
    by false e = let l = ltb-false m 256 e in omega arith
