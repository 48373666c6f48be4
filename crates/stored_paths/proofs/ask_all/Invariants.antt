-- `ask_all` ends and no sum wraps: each answer takes at least one byte of the input, and is counted as differing at most once.
-- Assumes nothing.
use Rattle.std.proofs.Common.{◌≤◌, length, ◌+◌}
use Rattle.stored_paths.proofs.ask_all.Given as goal

abbrev pub invariant-loop-asked : goal.invariant-loop-asked
invariant-loop-asked g l = (l.answers + length l.left ≤ length l.fn.input) × (l.differing ≤ l.answers)

abbrev pub decreases-loop-asked : goal.decreases-loop-asked
decreases-loop-asked g l = length l.left
