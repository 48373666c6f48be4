-- `steps` meets its contract. The loop's invariant: the steps that are left have the reason that all of them have.
-- Assumes nothing.
use native.Mathlib.Omega.{arith}
use mathlib.Core.Path.{ap, ◌∙◌}
use Rattle.std.specs.declared.result.Result.TheVariants.{Ok}
use Rattle.std.proofs.lemmas.Result.{err_from_is_err_and}
use Rattle.prefixes.specs.Prefixes.{words_of}
use Rattle.path_steps.specs.Steps.{kind_of}
use Rattle.path_walk.proofs.Stepping.{steps-fail, steps-end, steps-last, steps-unseparated, rest-short, steps_on}
use Rattle.path_walk.proofs.steps.Goals as goal

pub loop-behind-preserved : goal.loop-behind-preserved
loop-behind-preserved c =
    let short = rest-short (kind_of c.args.kind) (words_of c.args.prefixes.now) c.loop-behind.rest.now c.step_at.result c.step_at.ensures c.in-Some.behind (c.in_ok-behind.was ∙ ap Ok c.in-Some.is) c.behind_step.result c.behind_step.ensures c.in-Some-2.next (c.in_ok-next.was ∙ ap Ok c.in-Some-2.is) in
    (omega arith, steps_on (kind_of c.args.kind) (words_of c.args.prefixes.now) c.loop-behind.rest.now c.step_at.result c.step_at.ensures c.in-Some.behind (c.in_ok-behind.was ∙ ap Ok c.in-Some.is) c.behind_step.result c.behind_step.ensures c.in-Some-2.next (c.in_ok-next.was ∙ ap Ok c.in-Some-2.is) ∙ c.loop-behind.invariant.1)

pub loop-behind-smaller : goal.loop-behind-smaller
loop-behind-smaller c = rest-short (kind_of c.args.kind) (words_of c.args.prefixes.now) c.loop-behind.rest.now c.step_at.result c.step_at.ensures c.in-Some.behind (c.in_ok-behind.was ∙ ap Ok c.in-Some.is) c.behind_step.result c.behind_step.ensures c.in-Some-2.next (c.in_ok-next.was ∙ ap Ok c.in-Some-2.is)

pub returns-in_err-behind : goal.returns-in_err-behind
returns-in_err-behind c =
    let p = err_from_is_err_and c.from_residual.result c.from_residual.ensures.1 in
    rw (p.1, p.2) (steps-fail (kind_of c.args.kind) (words_of c.args.prefixes.now) c.loop-behind.rest.now c.step_at.result c.step_at.ensures _ c.in_err-behind.was ∙ c.loop-behind.invariant.1)

pub returns-in_err-next : goal.returns-in_err-next
returns-in_err-next c =
    let p = err_from_is_err_and c.from_residual-in_err-next.result c.from_residual-in_err-next.ensures.1 in
    rw (p.1, p.2) (steps-unseparated (kind_of c.args.kind) (words_of c.args.prefixes.now) c.loop-behind.rest.now c.step_at.result c.step_at.ensures c.in-Some.behind (c.in_ok-behind.was ∙ ap Ok c.in-Some.is) c.behind_step.result c.behind_step.ensures _ c.in_err-next.was ∙ c.loop-behind.invariant.1)

pub returns-in_default-2 : goal.returns-in_default-2
returns-in_default-2 c = steps-last (kind_of c.args.kind) (words_of c.args.prefixes.now) c.loop-behind.rest.now c.step_at.result c.step_at.ensures c.in-Some.behind (c.in_ok-behind.was ∙ ap Ok c.in-Some.is) c.behind_step.result c.behind_step.ensures (c.in_ok-next.was ∙ ap Ok c.in_default-2.is) ∙ c.loop-behind.invariant.1

pub returns : goal.returns
returns c = steps-end (kind_of c.args.kind) (words_of c.args.prefixes.now) c.loop-behind.rest.now c.step_at.result c.step_at.ensures (c.in_ok-behind.was ∙ ap Ok c.in_default.is) ∙ c.loop-behind.invariant.1
