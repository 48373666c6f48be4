-- `set_up_jobs` meets its contract: what is asked of jobs just begun are the conditions of set-up.
-- Assumes nothing.
use mathlib.Core.Path.{sym, ◌∙◌}
use Rattle.std.proofs.lemmas.Result.{err_from_is_err_and}
use Rattle.print_jobs.specs.declared.JobRefusal.TheVariants.{Unknown}
use Rattle.print_jobs.proofs.Meeting.{sets-many, sets-short, sets-broken, sets-ready, not_left, is_left}
use Rattle.print_jobs.proofs.set_up_jobs.Goals as goal

pub returns-then-count-gt8 : goal.returns-then-count-gt8
returns-then-count-gt8 c = let a = c.args in sets-many a.total a.count a.terms.now a.a.now c.if-count-gt8.true

pub returns-then-terms-jobs : goal.returns-then-terms-jobs
returns-then-terms-jobs c = let a = c.args in sets-short a.total a.count a.terms.now a.a.now c.if-count-gt8.false c.if-terms-jobs.true

pub returns-in_err-ok_or : goal.returns-in_err-ok_or
returns-in_err-ok_or c =
    let a = c.args in
    let p = err_from_is_err_and c.from_residual.result c.from_residual.ensures.1 in
    let n = not_left c.rest_of.result Unknown _ (sym c.ok_or.ensures.value ∙ c.in_err-ok_or.was) in
    rw (p.1, p.2, ← n.1) (sets-broken a.total a.count a.terms.now a.a.now c.if-count-gt8.false c.if-terms-jobs.false _ c.fresh_numbers-fresh.ensures (n.0 ∙ c.rest_of.ensures))

pub returns : goal.returns
returns c =
    let a = c.args in
    let l = is_left c.rest_of.result Unknown _ (sym c.ok_or.ensures.value ∙ c.in_ok-ok_or.was) in
    sets-ready a.total a.count a.terms.now a.a.now c.if-count-gt8.false c.if-terms-jobs.false _ c.fresh_numbers-fresh.ensures _ (l ∙ c.rest_of.ensures)
