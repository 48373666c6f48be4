-- `open_selections` meets its contract. The invariant: the selections of the places passed are open.
-- Assumes nothing.
use Rattle.start_writes.specs.Writes.{Opened}
use Rattle.start_writes.proofs.open_selections.Given as goal

abbrev pub invariant-loop-j : goal.invariant-loop-j
invariant-loop-j l = Opened l.initial.cells l.n l.mask l.j l.depth l.count l.cells
