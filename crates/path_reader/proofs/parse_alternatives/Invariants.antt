-- `parse_alternatives` meets its contract. The loop's invariant: the alternatives that were read are written, and stand before what the rest reads. The measure is what is left
-- of the text.
-- Assumes nothing.
use lib.ListN.{length}
use mathlib.Core.Path.{◌≡◌}
use Rattle.path_reader.proofs.Alternatives.{Alternating}
use Rattle.path_reader.proofs.parse_alternatives.Given as goal

abbrev pub invariant-loop-first : goal.invariant-loop-first
invariant-loop-first l = (length l.area ≡ length l.initial.area) × Alternating l.field l.s l.initial.area l.area l.rest l.at l.count

abbrev pub decreases-loop-first : goal.decreases-loop-first
decreases-loop-first l = length l.rest
