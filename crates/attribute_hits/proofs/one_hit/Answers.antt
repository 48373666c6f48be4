-- `one_hit` meets its contract: the row that is filled, and the hits by it. A selection has no fifth field.
-- Assumes nothing.
use Rattle.attribute_hits.proofs.Rows.{one-taken}
use mathlib.Core.Bool.{true}
use Rattle.matching.specs.Walks.{node_of}
use Rattle.bindings.specs.Bindings.{bound_by}
use Rattle.reaching.specs.Rows.{reach_from}
use Rattle.attribute_hits.proofs.one_hit.Goals as goal

pub returns : goal.returns
returns c =
    let a = c.args in
    let reach = c.reach_nodes in
    let hits = c.hit_selections in
    one-taken a.n a.place a.field (reach_from (bound_by a.b.now) a.area.now a.element.now.names.now a.element.now.depth (node_of true a.attribute.0.now)) a.cells.now
    reach.new.counts hits.new.area a.attribute.1.now reach.ensures hits.ensures
