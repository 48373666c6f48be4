-- `push_scopes` meets its contract. The invariant: the scopes of the places passed are pushed, and `last` is the number of the latest one.
-- Assumes nothing.
use lib.ListN.{take}
use Rattle.start_pass.proofs.Walked.{Walked}
use Rattle.start_writes.specs.Writes.{PushedBy}
use Rattle.start_writes.proofs.Pushes.{LastNumber}
use Rattle.start_writes.proofs.push_scopes.Given as goal

abbrev pub invariant-loop-j : goal.invariant-loop-j
invariant-loop-j l =
    let it = l.j-iterator in
    let passed = take it.count l.numbers in
    Walked l.numbers it.iter.n it.count it.iter.iter.rest.now × LastNumber passed l.mask l.opened l.last
    × PushedBy l.initial.held passed l.mask l.opened l.depth l.held
