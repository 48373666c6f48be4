-- `check_input` is safe: the bytes that are held are inside the input.
-- Assumes nothing.
use Rattle.std.proofs.Common.{◌≤◌, length}
use Rattle.icheck.proofs.check_input.Given as goal

abbrev pub invariant-pieces : goal.invariant-pieces
invariant-pieces g l = l.held ≤ length l.room.input
