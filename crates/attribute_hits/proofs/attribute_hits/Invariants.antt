-- `attribute_hits` meets its contract. The invariant: the selections of k scopes have been fed.
-- Assumes nothing.
use Rattle.attribute_hits.proofs.Scopes.{ScopesFed}
use Rattle.attribute_hits.proofs.attribute_hits.Given as goal

abbrev pub invariant-loop-k : goal.invariant-loop-k
invariant-loop-k l = ScopesFed l.initial.cells l.n l.fn.scopes l.names l.depth l.defs l.initial.area l.rec l.first l.count l.k l.cells l.area
