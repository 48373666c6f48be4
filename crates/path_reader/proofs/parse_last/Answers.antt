-- `parse_last` meets its contract: by what the part is, and by whether its test was written.
-- Assumes nothing.
use native.Mathlib.Omega.{arith}
use Rattle.path_reader.proofs.Parts.{last-attribute, last-not, last_none, last-end, last_some}
use Rattle.path_reader.proofs.parse_last.Goals as goal

pub returns-in-Attribute : goal.returns-in-Attribute
returns-in-Attribute c =
    let wrote = c.write_attribute in
    last-attribute _ _ c.as_part.ensures _ _ _ _ c.if-field.true _ c.in-Attribute.is wrote.new.area wrote.result wrote.ensures

pub returns-in-Attribute-2 : goal.returns-in-Attribute-2
returns-in-Attribute-2 c = last-not _ _ c.as_part.ensures _ _ c.args.before.end c.args.before.count c.if-field.false _ c.in-Attribute-2.is

pub returns-in_err-steps-in_default : goal.returns-in_err-steps-in_default
returns-in_err-steps-in_default c =
    let step = c.parse_step in
    rw c.from_residual.ensures
    (last_none _ c.as_part.result c.as_part.ensures _ _ _ _ step.new.area step.result step.ensures c.in_default.not-Attribute c.in_err-steps-in_default.was)

pub put_byte-end-requires : goal.put_byte-end-requires
put_byte-end-requires c =
    let step = c.parse_step in
    let ok = c.in_ok-steps-in_default in
    let end = last-end _ c.as_part.result c.as_part.ensures c.args.field _ _ _ step.new.area step.result step.ensures ok.steps ok.was in
    omega arith

pub returns-in_ok-steps-in_default : goal.returns-in_ok-steps-in_default
returns-in_ok-steps-in_default c =
    let step = c.parse_step in
    let ok = c.in_ok-steps-in_default in
    let put = c.put_byte-end in
    last_some _ c.as_part.result c.as_part.ensures _ _ _ _ step.new.area step.result step.ensures ok.steps ok.was (omega arith) put.new.area put.result put.ensures
