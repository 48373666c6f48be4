-- `is_utf8` meets its contract. The loop's invariant: what is left is a text exactly if the whole is.
-- Assumes nothing.
use mathlib.Core.Path.{◌≡◌}
use lib.ListN.{length}
use Rattle.utf8.specs.Utf8.{utf8}
use Rattle.utf8_check.proofs.is_utf8.Given as goal

abbrev pub invariant-loop-rest : goal.invariant-loop-rest
invariant-loop-rest l = utf8 l.rest ≡ utf8 l.s

abbrev pub decreases-loop-rest : goal.decreases-loop-rest
decreases-loop-rest l = length l.rest
