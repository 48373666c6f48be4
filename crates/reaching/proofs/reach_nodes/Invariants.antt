-- `reach_nodes` meets its contract: number by number.
-- Assumes nothing.
use Rattle.bindings.specs.Bindings.{bound_by}
use Rattle.matching.specs.Walks.{node_in}
use Rattle.reaching.specs.Rows.{reach_from}
use Rattle.reaching.proofs.Rows.{Filled}
use Rattle.reaching.proofs.reach_nodes.Given as goal

abbrev pub invariant-loop-j : goal.invariant-loop-j
invariant-loop-j l =
    Filled (reach_from (bound_by l.b) l.area l.names l.depth (node_in l.attribute)) l.of.place l.of.n l.of.cells.now l.initial.count-items l.count-items l.j
