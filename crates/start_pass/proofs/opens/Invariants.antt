-- `opens` meets its contract. The loop's invariant: of the places that are passed by, those that read are in the set.
-- Assumes nothing.
use Rattle.start_pass.proofs.Opening.{OpenedTo}
use Rattle.start_pass.proofs.Walked.{Walked}
use Rattle.start_pass.proofs.opens.Given as goal

abbrev pub invariant-loop-j : goal.invariant-loop-j
invariant-loop-j l =
    let it = l.j-iterator in
    Walked l.numbers it.iter.n it.count it.iter.iter.rest.now × OpenedTo l.defs l.numbers l.initial.area l.set it.count l.area
