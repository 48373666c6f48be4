-- `decode_path` meets its contract. The loop's invariant: the points written and those that are left are the path's, and they are no more than its bytes.
-- Assumes nothing.
use Prim.Native.Nat.{◌+◌, ◌≤◌}
use lib.ListN.{length, take}
use mathlib.Core.Path.{◌≡◌}
use mathlib.Core.List.{◌++◌}
use Rattle.utf8.specs.Utf8.{decode}
use Rattle.checker.proofs.decode_path.Given as goal

abbrev pub invariant-loop-code : goal.invariant-loop-code
invariant-loop-code l =
    (length l.points ≡ length l.initial.points) × (l.n + length (decode l.code-iterator.0.now) ≤ length l.path) × (take l.n l.points ++ decode l.code-iterator.0.now ≡ decode l.path)
