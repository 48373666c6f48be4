-- `standing_of` meets its contract: 26, 10, or what is left behind the walk over the jobs.
-- Assumes nothing.
use native.Mathlib.Omega.{arith}
use mathlib.Core.Path.{refl, sym, ◌∙◌}
use Rattle.std.proofs.lemmas.Result.{err_from_is_err_and}
use Rattle.print_jobs.specs.declared.JobRefusal.TheVariants.{Unfit}
use Rattle.print_jobs.proofs.Meeting.{meets-unknown, meets-many, meets-past, meets-known, sum-within, not_left, is_left}
use Rattle.print_jobs.proofs.standing_of.Goals as goal

pub returns-then-count-from : goal.returns-then-count-from
returns-then-count-from c = meets-unknown c.args.a.now c.args.job _ c.lent_number-count.ensures (omega (arith, c.from.ensures))

pub returns-then-count-gt8 : goal.returns-then-count-gt8
returns-then-count-gt8 c = meets-many c.args.a.now c.args.job _ c.lent_number-count.ensures (omega (arith, c.from.ensures)) c.if-count-gt8.true

pub returns-in_err-left : goal.returns-in_err-left
returns-in_err-left c =
    let p = err_from_is_err_and c.from_residual.result c.from_residual.ensures.1 in
    let n = not_left c.rest_of.result Unfit _ (sym c.ok_or.ensures.value ∙ c.in_err-left.was) in
    rw (p.1, p.2, ← n.1) (meets-past c.args.a.now c.args.job _ c.lent_number-count.ensures (omega (arith, c.from.ensures)) (omega arith) _ c.lent_number.ensures (n.0 ∙ c.rest_of.ensures))

pub most_by-requires : goal.most_by-requires
most_by-requires c =
    let l = is_left c.rest_of.result Unfit c.in_ok-left.left (sym c.ok_or.ensures.value ∙ c.in_ok-left.was) in
    let z = sum-within c.args.a.now c.args.job _ c.lent_number-count.ensures (omega (arith, c.from.ensures)) (omega arith) _ c.lent_number.ensures _ (l ∙ c.rest_of.ensures) _ c.job_at-j.ensures in
    omega (arith, z)

pub returns : goal.returns
returns c =
    let l = is_left c.rest_of.result Unfit c.in_ok-left.left (sym c.ok_or.ensures.value ∙ c.in_ok-left.was) in
    meets-known c.args.a.now c.args.job _ c.lent_number-count.ensures (omega (arith, c.from.ensures)) (omega arith) _ c.lent_number.ensures _ (l ∙ c.rest_of.ensures) _ c.job_at-j.ensures _ refl _ c.most_by.ensures
