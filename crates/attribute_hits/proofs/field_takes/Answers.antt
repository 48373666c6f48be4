-- `field_takes` meets its contract: a path that does not read reaches nothing; else its alternatives are those in the area.
-- Assumes nothing.
use Rattle.bindings.specs.Bindings.{bound_by}
use Rattle.attribute_hits.proofs.Fields.{field-unread, field-read}
use borrow.Author.Tests.{not-true, not-false}
use Rattle.attribute_hits.proofs.field_takes.Goals as goal

pub returns-then-not-read_path : goal.returns-then-not-read_path
returns-then-not-read_path c = let a = c.args in let read = c.read_path in field-unread a.cells.now a.n a.place a.field a.own.now a.path.now a.element.now.names.now a.element.now.depth a.element.now.defs.now a.area.now a.element.now.rec.now a.element.now.first a.element.now.count read.result read.new.area read.ensures (not-true read.result c.if-not-read_path.true-raw)

pub returns : goal.returns
returns c = let a = c.args in let read = c.read_path in let hits = c.read_hits in field-read a.cells.now a.n a.place a.field a.own.now a.path.now a.element.now.names.now a.element.now.depth a.element.now.defs.now a.area.now a.element.now.rec.now a.element.now.first a.element.now.count read.result read.new.area read.ensures (not-false read.result c.if-not-read_path.false-raw) (bound_by c.of_field-b.result) c.of_field-b.ensures hits.new.cells hits.ensures
