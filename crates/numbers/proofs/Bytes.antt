-- The library's bytes of a number are those of the definitions.
-- Assumes nothing.
use Rattle.std.specs.Int.{w16, w32, to_le_bytes}
use Prim.Native.Nat.{ℕ, ◌<◌}
use native.Mathlib.Omega.{arith}
use mathlib.Core.Path.{◌≡◌}
use Rattle.numbers.specs.Numbers.{two_bytes, four_bytes}

pub two_le : (n : ℕ) → n < 65536 → to_le_bytes w16 n ≡ two_bytes n
unfolding two_bytes
two_le n h = grind arith

pub four_le : (n : ℕ) → n < 4294967296 → to_le_bytes w32 n ≡ four_bytes n
unfolding four_bytes two_bytes
four_le n h = grind arith
