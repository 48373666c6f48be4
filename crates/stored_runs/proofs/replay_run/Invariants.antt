-- `replay_run` meets its contract: at most one record differs in each place.
-- Assumes nothing.
use Rattle.std.proofs.Common.{◌≤◌}
use Rattle.stored_runs.proofs.replay_run.Given as goal

abbrev pub invariant-loop-place : goal.invariant-loop-place
invariant-loop-place g l = l.differing ≤ l.place
