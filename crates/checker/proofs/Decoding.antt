-- The code points of bytes: the one at the front and those behind it, and that they are no more than the bytes. By the first byte, and by induction.
-- Assumes nothing.
use Prim.Native.Nat.{ℕ, zero, suc, ◌-◌, ◌≤◌}
use native.Mathlib.Omega.{arith}
use lib.ListN.{length}
use mathlib.Core.List.{[], ◌∷◌}
use Rattle.texts.specs.Texts.{Text}
use Rattle.utf8.specs.Utf8.{size_of, decode_from, decode}

from-most : (left : ℕ) (s : Text) → length (decode_from left s) ≤ length s
unfolding decode_from
from-most left [] = omega arith
from-most zero (b ∷ s) = let r = from-most (size_of b - 1) s in omega arith
from-most (suc left) (b ∷ s) = let r = from-most left s in omega arith

pub decode-most : (s : Text) → length (decode s) ≤ length s
unfolding decode
decode-most s = from-most 0 s
