-- `take_record` meets its contract: one law for each kind of record, and one for those that are refused.
-- Assumes nothing.
use Rattle.session.proofs.Arms.{answered, input-taken, id-taken, ns-taken, es-taken, ee-taken, fi-taken}
use Rattle.std.specs.declared.result.Result.TheVariants.{Ok}
use Rattle.record_places.specs.Places.{Walked}
use Rattle.record_places.specs.declared.Record.{Record}
use mathlib.Core.Path.{ap, ◌∙◌}
use Rattle.session.proofs.take_record.Goals as goal

abbrev found : Record → Walked
found r = Ok r

pub returns-in-Err : goal.returns-in-Err
returns-in-Err c =
    let args = c.args in
    let walk = c.walk_record in
    let done = c.refusing_with in
    λ marked. answered args.n args.list args.rec.now args.defs.now args.tuples.now args.reports.now args.paths.now args.names.now args.cells.now
    args.defs.now args.tuples.now args.reports.now args.paths.now args.names.now args.cells.now done.result _ done.ensures
    (input-taken args.n args.list args.rec.now args.defs.now args.tuples.now args.reports.now args.paths.now args.names.now args.cells.now walk.result walk.ensures c.in-Err.c c.in-Err.is)

pub returns-in-Ok-Id : goal.returns-in-Ok-Id
returns-in-Ok-Id c =
    let args = c.args in
    let walk = c.walk_record in
    let took = c.take_id in
    λ marked. id-taken args.n args.list args.rec.now args.defs.now args.tuples.now args.reports.now args.paths.now args.names.now args.cells.now walk.result walk.ensures c.in-Ok-Id.field-0-0 (c.in-Ok-Id.is ∙ ap found c.in-Ok-Id.field-0-is) took.result took.new.defs took.ensures

pub returns-in-Ok-Ns : goal.returns-in-Ok-Ns
returns-in-Ok-Ns c =
    let args = c.args in
    let walk = c.walk_record in
    let took = c.take_ns in
    λ marked. ns-taken args.n args.list args.rec.now args.defs.now args.tuples.now args.reports.now args.paths.now args.names.now args.cells.now walk.result walk.ensures c.in-Ok-Ns.ns (c.in-Ok-Ns.is ∙ ap found c.in-Ok-Ns.field-0-is) took.result took.new.defs took.ensures

pub returns-in-Ok-Es : goal.returns-in-Ok-Es
returns-in-Ok-Es c =
    let args = c.args in
    let walk = c.walk_record in
    let took = c.take_es in
    λ marked. es-taken args.n args.list args.rec.now args.defs.now args.tuples.now args.reports.now args.paths.now args.names.now args.cells.now walk.result walk.ensures c.in-Ok-Es.es (c.in-Ok-Es.is ∙ ap found c.in-Ok-Es.field-0-is) took.result c.take_es.new.reports c.take_es.new.paths c.take_es.new.names c.take_es.new.cells took.ensures

pub returns-in-Ok-Ee : goal.returns-in-Ok-Ee
returns-in-Ok-Ee c =
    let args = c.args in
    let walk = c.walk_record in
    let took = c.take_ee in
    λ marked. ee-taken args.n args.list args.rec.now args.defs.now args.tuples.now args.reports.now args.paths.now args.names.now args.cells.now walk.result walk.ensures c.in-Ok-Ee.ee (c.in-Ok-Ee.is ∙ ap found c.in-Ok-Ee.field-0-is) took.result c.take_ee.new.tuples c.take_ee.new.reports c.take_ee.new.paths c.take_ee.new.cells (took.ensures marked)

pub returns-in-Ok-Fi : goal.returns-in-Ok-Fi
returns-in-Ok-Fi c =
    let args = c.args in
    let walk = c.walk_record in
    let took = c.take_fi in
    λ marked. fi-taken args.n args.list args.rec.now args.defs.now args.tuples.now args.reports.now args.paths.now args.names.now args.cells.now walk.result walk.ensures (c.in-Ok-Fi.is ∙ ap found c.in-Ok-Fi.field-0-is) took.result took.new.reports took.ensures
