-- `scope_takes` meets its contract. The invariant: as many fields have been hit as were counted, and the others are to come.
-- Assumes nothing.
use Rattle.std.proofs.Common.{rules}
use Rattle.constraints.specs.Constraints.{texts_left}
use Rattle.attribute_hits.proofs.Fields.{walk-first, walk-on, walk-end}
use Rattle.attribute_hits.proofs.scope_takes.Goals as goal

pub loop-f-init : goal.loop-f-init
loop-f-init c =
    let a = c.args in
    let t = c.numbered-one in
    walk-first a.cells.now a.n a.place a.constraint a.element.now.names.now a.element.now.depth a.element.now.defs.now a.area.now a.element.now.rec.now a.element.now.first a.element.now.count t.result.own.now t.result.parts _ _ _ (search rules) (search rules) (search rules)

pub loop-f-preserved : goal.loop-f-preserved
loop-f-preserved c =
    let a = c.args in
    let l = c.loop-f in
    let t = c.numbered-one in
    let i = l.f-iterator in
    let s = c.in-Some.ensures.steps in
    let hits = c.field_takes in
    walk-on a.cells.now a.n a.place a.constraint a.element.now.names.now a.element.now.depth a.element.now.defs.now a.area.now a.element.now.rec.now a.element.now.first a.element.now.count t.result.own.now t.result.parts i.count i.iter.n (texts_left i.iter.iter) l.cells l.area l.invariant t.ensures.records t.ensures.parts
    c.in-Some.path.now _ s.0.0 _ s.0.1 c.in-Some.f s.1 _ s.2 hits.new.cells hits.new.area hits.ensures

pub returns : goal.returns
returns c =
    let a = c.args in
    let l = c.loop-f in
    let t = c.numbered-one in
    let i = l.f-iterator in
    walk-end a.cells.now a.n a.place a.constraint a.element.now.names.now a.element.now.depth a.element.now.defs.now a.area.now a.element.now.rec.now a.element.now.first a.element.now.count t.result.own.now t.result.parts i.count i.iter.n (texts_left i.iter.iter) l.cells l.area l.invariant t.ensures.records t.ensures.parts
    (λ h. (c.in-None.ensures.steps.0 h).0)
