-- `scope_takes` meets its contract. The invariant: as many fields have been hit as were counted, and the others are to come.
-- Assumes nothing.
use Rattle.constraints.specs.Constraints.{texts_left}
use Rattle.attribute_hits.proofs.Fields.{FieldsWalked}
use Rattle.attribute_hits.proofs.scope_takes.Given as goal

abbrev pub invariant-loop-f : goal.invariant-loop-f
invariant-loop-f l =
    FieldsWalked l.initial.cells l.n l.place l.constraint l.element.names.now l.element.depth l.element.defs.now l.initial.area l.element.rec.now l.element.first l.element.count l.one.own.now l.one.parts
    l.f-iterator.count l.f-iterator.iter.n (texts_left l.f-iterator.iter.iter) l.cells l.area
