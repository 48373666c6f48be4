-- `tells` meets its contract. The loop's invariant: the reports of the places that are passed by, and those of the rest, are those of all.
-- Assumes nothing.
use Rattle.start_pass.proofs.Telling.{ToldTo}
use Rattle.start_pass.proofs.Walked.{Walked}
use Rattle.start_pass.proofs.tells.Given as goal

abbrev pub invariant-loop-j : goal.invariant-loop-j
invariant-loop-j l =
    let it = l.j-iterator in
    Walked l.numbers it.iter.n it.count it.iter.iter.rest.now × ToldTo l.defs l.numbers l.opened l.reports l.set l.said it.count
