-- `parse_parts` meets its contract. The loop's invariant: the tests that were read are written, and stand before what the rest reads. The measure is what is left of the text.
-- Assumes nothing.
use lib.ListN.{length}
use mathlib.Core.Path.{◌≡◌}
use Rattle.path_reader.proofs.Walking.{Walking}
use Rattle.path_reader.proofs.parse_parts.Given as goal

abbrev pub invariant-loop-first : goal.invariant-loop-first
invariant-loop-first l = (length l.area ≡ length l.initial.area) × Walking l.field l.s l.initial.area l.start l.area l.rest l.steps.end l.steps.count

abbrev pub decreases-loop-first : goal.decreases-loop-first
decreases-loop-first l = length l.rest
