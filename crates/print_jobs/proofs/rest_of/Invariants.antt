-- `rest_of` meets its contract: one job after the other; what is left behind it goes on as the whole does.
-- Assumes nothing.

use Rattle.print_jobs.proofs.Reading.{Walked}
use Rattle.print_jobs.proofs.rest_of.Given as goal

abbrev pub invariant-loop-i : goal.invariant-loop-i
invariant-loop-i l = Walked l.a l.count l.total l.promised l.left l.i
