-- `step_at` meets its contract: by the first token.
-- Assumes nothing.
use mathlib.Core.Path.{◌≡◌, ap, sym, ◌∙◌}
use Rattle.std.proofs.Common.{rules}
use Rattle.std.specs.declared.option.Option.TheVariants.{Some}
use Rattle.std.specs.declared.result.Result.TheVariants.{Ok}
use Rattle.std.proofs.lemmas.Result.{err_from_is_err_and}
use Rattle.path_steps.proofs.Steps.{first-given, first-refused, step-none, step-bad, step-wrong, step-dot, step-name, at-ends, at-fails}
use Rattle.path_steps.proofs.step_at.Goals as goal
use Rattle.path_steps.proofs.step_at.Goals.{In_ok-t}
use Rattle.lists.proofs.Options.{was_none, was_some}

-- the token that stands first, where one does
token-is : (c : In_ok-t) → c.first_token.result ≡ Ok (Some c.in_ok-t.t)
token-is c =
    first-given _ _ _ c.map_err.ensures.cases _ c.in_ok-first.was
    ∙ ap Ok (was_some _ _ _ (sym c.ok_or.ensures.value ∙ c.in_ok-t.was))

pub returns-in_err-first : goal.returns-in_err-first
returns-in_err-first c =
    let p = err_from_is_err_and c.from_residual.result c.from_residual.ensures.1 in
    let n = first-refused _ c.first_token.result c.map_err.result c.map_err.ensures.cases (λ e k h. search rules) _ c.in_err-first.was in
    rw (p.1, p.2, n.1) (step-bad c.args.kind _ _ _ c.first_token.ensures n.0)

pub returns-in_err-t : goal.returns-in_err-t
returns-in_err-t c =
    let p = err_from_is_err_and c.from_residual-in_err-t.result c.from_residual-in_err-t.ensures.1 in
    let n = was_none _ _ _ (sym c.ok_or.ensures.value ∙ c.in_err-t.was) in
    rw (p.1, p.2, ← n.1)
    (step-none c.args.kind _ _ _ c.first_token.ensures (first-given _ _ _ c.map_err.ensures.cases _ c.in_ok-first.was ∙ ap Ok n.0))

pub returns-in-Dot : goal.returns-in-Dot
returns-in-Dot c =
    step-dot c.args.kind _ _ _ c.first_token.ensures _ (token-is (goal.at.returns-in-Dot c).In_ok-t) c.in-Dot.is

pub returns-in-Slash : goal.returns-in-Slash
returns-in-Slash c =
    step-wrong c.args.kind _ _ _ c.first_token.ensures _ (token-is (goal.at.returns-in-Slash c).In_ok-t) c.in-Slash.is

pub returns-in_err-attribute_step-in-At : goal.returns-in_err-attribute_step-in-At
returns-in_err-attribute_step-in-At c =
    let p = err_from_is_err_and c.from_residual-in_err-attribute_step-in-At.result c.from_residual-in_err-attribute_step-in-At.ensures.1 in
    rw (p.1, p.2)
    (at-fails c.args.kind _ _ _ c.first_token.ensures _ (token-is (goal.at.returns-in_err-attribute_step-in-At c).In_ok-t) c.in-At.is
    _ c.attribute_step.ensures _ c.in_err-attribute_step-in-At.was)

pub returns-in_ok-attribute_step-in-At : goal.returns-in_ok-attribute_step-in-At
returns-in_ok-attribute_step-in-At c =
    at-ends c.args.kind _ _ _ c.first_token.ensures _ (token-is (goal.at.returns-in_ok-attribute_step-in-At c).In_ok-t) c.in-At.is
    _ c.attribute_step.ensures _ c.in_ok-attribute_step-in-At.was

pub returns-in-Name : goal.returns-in-Name
returns-in-Name c =
    step-name c.args.kind _ _ _ c.first_token.ensures _ (token-is (goal.at.returns-in-Name c).In_ok-t)
    c.in-Name.name c.in-Name.is _ c.name_step.ensures
