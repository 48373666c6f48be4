-- `fresh_numbers` meets its contract: one job begun after the other; behind them the places stay empty.
-- Assumes nothing.

use Rattle.print_jobs.proofs.Writing.{Begun}
use Rattle.print_jobs.proofs.fresh_numbers.Given as goal

abbrev pub invariant-loop-k : goal.invariant-loop-k
invariant-loop-k l = Begun l.total l.count l.terms l.a l.k
