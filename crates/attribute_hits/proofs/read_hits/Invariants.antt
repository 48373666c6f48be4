-- `read_hits` meets its contract. The invariant: all attributes but those that are left have been met.
-- Assumes nothing.
use Rattle.record_places.specs.Places.{attributes_at}
use Rattle.bindings.specs.Bindings.{bound_by}
use Rattle.attribute_hits.proofs.Attributes.{Met}
use Rattle.attribute_hits.proofs.read_hits.Given as goal

abbrev pub invariant-loop-attribute : goal.invariant-loop-attribute
invariant-loop-attribute l =
    Met (bound_by l.b) l.area l.element.names.now l.element.depth l.n l.place l.field (attributes_at l.element.rec.now l.element.first l.element.count)
    l.initial.cells (attributes_at l.attribute-iterator.rec.now l.attribute-iterator.at l.attribute-iterator.left) l.cells
