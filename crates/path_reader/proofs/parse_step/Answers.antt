-- `parse_step` meets its contract: by what the part is, and by whether its name test was written.
-- Assumes nothing.
use Rattle.path_reader.proofs.Parts.{step-attribute, step-self, step-none, step-some}
use Rattle.path_reader.proofs.parse_step.Goals as goal

pub returns-in-Attribute : goal.returns-in-Attribute
returns-in-Attribute c = step-attribute c.args.part c.args.area.now c.args.before.end c.args.before.count c.in-Attribute.field-0 c.in-Attribute.is

pub returns-in-Itself : goal.returns-in-Itself
returns-in-Itself c = step-self c.args.part c.args.area.now c.args.before.end c.args.before.count c.in-Itself.is

pub returns-in_err-end-in-Child : goal.returns-in_err-end-in-Child
returns-in_err-end-in-Child c =
    let test = c.write_test in
    rw c.from_residual.ensures
    (step-none c.args.part c.args.area.now c.args.before.end c.args.before.count c.in-Child.test c.in-Child.is test.new.area test.result test.ensures c.in_err-end-in-Child.was)

pub returns-in_ok-end-in-Child : goal.returns-in_ok-end-in-Child
returns-in_ok-end-in-Child c =
    let test = c.write_test in
    step-some c.args.part c.args.area.now c.args.before.end c.args.before.count c.in-Child.test c.in-Child.is test.new.area test.result test.ensures c.in_ok-end-in-Child.end c.in_ok-end-in-Child.was
