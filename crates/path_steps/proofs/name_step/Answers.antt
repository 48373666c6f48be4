-- `name_step` meets its contract: by whether '::' and a name test follow, and then by the answer for that axis.
-- Assumes nothing.
use mathlib.Core.Path.{refl, ap, ◌∙◌}
use Rattle.std.specs.declared.result.Result.TheVariants.{Ok}
use Rattle.std.proofs.lemmas.Result.{err_from_is_err_and}
use Rattle.prefixes.specs.Prefixes.{words_of}
use Rattle.path_steps.proofs.Steps.{undeclared, is_declared, name-undeclared, name-takes, axis-fails, axis-ends, axis-takes}
use Rattle.path_steps.proofs.name_step.Goals as goal

pub returns-in_err-require_prefix : goal.returns-in_err-require_prefix
returns-in_err-require_prefix c =
    let p = err_from_is_err_and c.from_residual.result c.from_residual.ensures.1 in
    let d = undeclared _ c.require_prefix.result c.require_prefix.ensures _ c.in_err-require_prefix.was in
    rw (p.1, p.2, d.1) (name-undeclared c.args.kind (words_of c.args.prefixes.now) c.args.m c.axis_first.result c.axis_first.ensures c.in_default.is _ refl d.0)

pub returns-in_default : goal.returns-in_default
returns-in_default c = name-takes c.args.kind (words_of c.args.prefixes.now) c.args.m c.axis_first.result c.axis_first.ensures c.in_default.is _ refl (is_declared _ c.require_prefix.result c.require_prefix.ensures _ c.in_ok-require_prefix.was)

pub returns-in_err-axis_step : goal.returns-in_err-axis_step
returns-in_err-axis_step c =
    let p = err_from_is_err_and c.from_residual-in_err-axis_step.result c.from_residual-in_err-axis_step.ensures.1 in
    rw (p.1, p.2) (axis-fails c.args.kind (words_of c.args.prefixes.now) c.args.m c.axis_first.result c.axis_first.ensures c.in-Some.t c.in-Some.is c.axis_step.result c.axis_step.ensures _ c.in_err-axis_step.was)

pub returns-in-Last : goal.returns-in-Last
returns-in-Last c =
    axis-ends c.args.kind (words_of c.args.prefixes.now) c.args.m c.axis_first.result c.axis_first.ensures c.in-Some.t c.in-Some.is c.axis_step.result c.axis_step.ensures (c.in_ok-axis_step.was ∙ ap Ok c.in-Last.is)

pub returns-in-Child : goal.returns-in-Child
returns-in-Child c =
    axis-takes c.args.kind (words_of c.args.prefixes.now) c.args.m c.axis_first.result c.axis_first.ensures c.in-Some.t c.in-Some.is c.axis_step.result c.axis_step.ensures (c.in_ok-axis_step.was ∙ ap Ok c.in-Child.is)
