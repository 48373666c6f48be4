-- `read_hits` meets its contract. The invariant: all attributes but those that are left have been met.
-- Assumes nothing.
use Rattle.record_places.specs.Places.{attributes_at}
use Rattle.bindings.specs.Bindings.{bound_by}
use Rattle.attribute_hits.proofs.Attributes.{list_hits, one-met, all-met, of-record}
use Rattle.attribute_hits.proofs.read_hits.Goals as goal

pub loop-attribute-preserved : goal.loop-attribute-preserved
loop-attribute-preserved c =
    let a = c.args in
    let l = c.loop-attribute in
    one-met (bound_by a.b.now) a.area.now a.element.now.names.now a.element.now.depth a.n a.place a.field
    (attributes_at a.element.now.rec.now a.element.now.first a.element.now.count) a.cells.now
    (attributes_at l.attribute-iterator.rec.now l.attribute-iterator.at l.attribute-iterator.left) l.cells l.invariant _ _ c.in-Some.ensures.steps _ c.one_hit.ensures

pub returns : goal.returns
returns c =
    let a = c.args in
    let l = c.loop-attribute in
    let all = attributes_at a.element.now.rec.now a.element.now.first a.element.now.count in
    of-record a.n a.place a.field (list_hits (bound_by a.b.now) a.area.now a.element.now.names.now a.element.now.depth all)
    a.element.now.rec.now a.element.now.first a.element.now.count a.cells.now l.cells
    (all-met (bound_by a.b.now) a.area.now a.element.now.names.now a.element.now.depth a.n a.place a.field all a.cells.now
    (attributes_at l.attribute-iterator.rec.now l.attribute-iterator.at l.attribute-iterator.left) l.cells l.invariant c.in-None.ensures.steps.0)
