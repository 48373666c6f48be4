-- `element_hits` meets its contract. The loop's invariant: the numbers of the first k scopes are done, and the others are 0.
-- Assumes nothing.
use Rattle.element_hits.proofs.Sessions.{Scoped}
use Rattle.element_hits.proofs.element_hits.Given as goal

abbrev pub invariant-loop-k : goal.invariant-loop-k
invariant-loop-k l = Scoped l.cells l.n l.fn.scopes l.names l.depth l.defs l.initial.area l.k l.area l.counts
