-- `picks` meets its contract. The loop's invariant: of the places that are passed by, those of scopes that select the element are in the set.
-- Assumes nothing.
use Rattle.start_pass.proofs.Picking.{PickedTo}
use Rattle.start_pass.proofs.picks.Given as goal

abbrev pub invariant-loop-j : goal.invariant-loop-j
invariant-loop-j l = PickedTo l.defs l.fn.scopes l.names l.depth l.initial.area l.set l.j l.area
