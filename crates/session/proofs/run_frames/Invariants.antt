-- `run_frames` meets its contract: frame after frame, all is as those taken left it, and the tuples so far are marked. The measure is how many bytes are left.
-- Assumes nothing.
use lib.ListN.{length}
use Rattle.session.proofs.Running.{SoFar}
use Rattle.session.proofs.run_frames.Given as goal

abbrev pub invariant-loop-frame : goal.invariant-loop-frame
invariant-loop-frame l =
    SoFar l.initial.numbers l.initial.scopes l.buffer l.initial.defs l.initial.tuples l.initial.reports l.initial.paths l.initial.names l.initial.cells l.initial.marks l.numbers l.scopes l.bytes l.rest l.defs l.tuples l.reports l.paths l.names l.cells l.marks

abbrev pub decreases-loop-frame : goal.decreases-loop-frame
decreases-loop-frame l =
    length l.rest
