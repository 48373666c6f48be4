-- Marks by their letters: the first of five pairs that is there.
-- Assumes nothing.
use Prim.Native.Nat.{ℕ}
use lib.Dec.{eqb}
use mathlib.Core.Path.{◌≡◌}
use mathlib.Core.Bool.{false, ◌&&◌}
use mathlib.Core.Option.{none}
use Rattle.records.specs.Records.{mark_of}

module _ (a b : ℕ) where
  module _ (d : (eqb a 73 && eqb b 68) ≡ false) where
    module _ (n : (eqb a 78 && eqb b 83) ≡ false) where
      module _ (s : (eqb a 69 && eqb b 83) ≡ false) where
        module _ (e : (eqb a 69 && eqb b 69) ≡ false) where
          pub is_none : (eqb a 70 && eqb b 73) ≡ false → none ≡ mark_of a b
          unfolding mark_of
          is_none h = rw (d, n, s, e, h)
