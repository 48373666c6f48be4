-- `replay` ends, and no sum wraps: each of at most 65,535 runs has at most 65,535 records.
-- Assumes nothing.
use Rattle.std.proofs.Common.{◌*◌, ◌≤◌}
use Rattle.stored_runs.proofs.replay.Given as goal

abbrev pub invariant-loop-run : goal.invariant-loop-run
invariant-loop-run g l = (l.records ≤ 65535 * l.run) × (l.differing ≤ 65535 * l.run)
