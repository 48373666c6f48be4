-- `compare` meets its contract. The loop's invariant: behind the place both texts are the same, and the pairs looked at so far
-- with those from the place back are all.
-- Assumes nothing.
use Prim.Native.Nat.{◌+◌}
use lib.ListN.{length, drop}
use mathlib.Core.Path.{◌≡◌}
use mathlib.Core.Bool.{true}
use Rattle.texts.specs.Texts.{same, pairs_back}
use Rattle.texts.proofs.compare.Given as goal

abbrev pub invariant-loop-i : goal.invariant-loop-i
invariant-loop-i l = record {
  counted : l.pairs + l.i ≡ length l.a;
  looked : l.pairs + pairs_back l.i l.a l.b ≡ pairs_back (length l.a) l.a l.b;
  behind : same (drop l.i l.a) (drop l.i l.b) ≡ true;
}
