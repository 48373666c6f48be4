-- `count_record` meets its contract: by what the walk found.
-- Assumes nothing.
use Rattle.std.specs.declared.result.Result.TheVariants.{Ok}
use Rattle.record_places.specs.Places.{Walked}
use Rattle.record_places.specs.declared.Record.{Record}
use Rattle.definition_store.proofs.Counting.{counts-refused, counts-es, counts-ee, counts-fi, few-counted, counts-id, counts-ns}
use mathlib.Core.Path.{ap, ◌∙◌}
use native.Mathlib.Omega.{arith}
use Rattle.definition_store.proofs.count_record.Goals as goal

abbrev found : Record → Walked
found r = Ok r

pub overflow_cast-id : goal.overflow_cast-id
overflow_cast-id c =
    let few = few-counted c.args.used.now c.args.t c.args.rec.now c.walk_record.result c.walk_record.ensures c.in-Ok-Id.id (c.in-Ok-Id.is ∙ ap found c.in-Ok-Id.field-0-is) in
    omega arith

pub returns-in-Ok-Id : goal.returns-in-Ok-Id
returns-in-Ok-Id c =
    counts-id c.args.used.now c.args.t c.args.rec.now c.walk_record.result c.walk_record.ensures c.in-Ok-Id.id (c.in-Ok-Id.is ∙ ap found c.in-Ok-Id.field-0-is)
    c.count_id.result c.count_id.ensures

pub returns-in-Ok-Ns : goal.returns-in-Ok-Ns
returns-in-Ok-Ns c =
    counts-ns c.args.used.now c.args.t c.args.rec.now c.walk_record.result c.walk_record.ensures c.in-Ok-Ns.ns (c.in-Ok-Ns.is ∙ ap found c.in-Ok-Ns.field-0-is)
    c.text_in.result.now c.text_in.ensures c.count_ns.result c.count_ns.ensures

pub returns-in-Ok-Es : goal.returns-in-Ok-Es
returns-in-Ok-Es c =
    counts-es c.args.used.now c.args.t c.args.rec.now c.walk_record.result c.walk_record.ensures c.in-Ok-Es.field-0-0 (c.in-Ok-Es.is ∙ ap found c.in-Ok-Es.field-0-is)

pub returns-in-Ok-Ee : goal.returns-in-Ok-Ee
returns-in-Ok-Ee c =
    counts-ee c.args.used.now c.args.t c.args.rec.now c.walk_record.result c.walk_record.ensures c.in-Ok-Ee.field-0-0 (c.in-Ok-Ee.is ∙ ap found c.in-Ok-Ee.field-0-is)

pub returns-in-Ok-Fi : goal.returns-in-Ok-Fi
returns-in-Ok-Fi c =
    counts-fi c.args.used.now c.args.t c.args.rec.now c.walk_record.result c.walk_record.ensures (c.in-Ok-Fi.is ∙ ap found c.in-Ok-Fi.field-0-is)

pub returns-in-Err : goal.returns-in-Err
returns-in-Err c = counts-refused c.args.used.now c.args.t c.args.rec.now c.walk_record.result c.walk_record.ensures c.in-Err.field-0 c.in-Err.is
