-- What stands above the space is no white space: none of the four tests of the definition holds of it.
-- Assumes nothing.
use Prim.Native.Nat.{ℕ, ◌<◌}
use native.Mathlib.Omega.{arith}
use borrow.Author.Tests.{ne_eqb}
use mathlib.Core.Path.{◌≡◌}
use mathlib.Core.Bool.{false}
use Rattle.characters.specs.Spaces.{xml_space}

module _ (c : ℕ) where
  pub space-above : 0x20 < c → false ≡ xml_space c
  unfolding xml_space
  space-above g =
      rw (ne_eqb c 0x20 (omega arith), ne_eqb c 0x9 (omega arith), ne_eqb c 0xD (omega arith), ne_eqb c 0xA (omega arith))
