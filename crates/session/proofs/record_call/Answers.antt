-- `record_call` meets its contract: 10 where nothing decodes, and what is taken of a session that does. It has no marks, which rule nothing out.
-- Assumes nothing.
use lib.ListN.{take}
use mathlib.Core.Path.{sym, ◌∙◌}
use Rattle.tuple_marks.proofs.Growing.{none-ruled-out}
use Rattle.session.proofs.Arms.{unfit-called, found-called}
use Rattle.session.proofs.record_call.Goals as goal

pub returns-then-not-well_formed : goal.returns-then-not-well_formed
returns-then-not-well_formed c =
    let args = c.args in
    let formed = c.well_formed-2 in
    rw c.refusing_with.ensures
    (unfit-called args.n args.list args.rec.now args.defs.now args.tuples.now args.reports.now args.paths.now args.names.now args.cells.now (sym c.if-not-well_formed.true ∙ formed.ensures))

pub returns : goal.returns
returns c =
    let args = c.args in
    let formed = c.well_formed-2 in
    let took = c.take_record in
    found-called args.n args.list args.rec.now args.defs.now args.tuples.now args.reports.now args.paths.now args.names.now args.cells.now took.result c.take_record.new.defs c.take_record.new.tuples c.take_record.new.reports c.take_record.new.paths c.take_record.new.names c.take_record.new.cells (sym c.if-not-well_formed.false ∙ formed.ensures) (took.ensures (none-ruled-out (take args.n.tuples args.tuples.now)))
