-- `close_job` meets its contract: only a job that stands is closed.
-- Assumes nothing.
use native.Mathlib.Omega.{arith}
use mathlib.Core.Path.{refl}
use Rattle.std.proofs.lemmas.Result.{err_from_is_err_and}
use Rattle.print_jobs.proofs.Writing.{closed-numbers}
use Rattle.print_jobs.proofs.Meeting.{closes-refused, closes-known, stands-below}
use Rattle.print_jobs.proofs.close_job.Goals as goal

pub returns-in_err-standing_of : goal.returns-in_err-standing_of
returns-in_err-standing_of c =
    let p = err_from_is_err_and c.from_residual.result c.from_residual.ensures.1 in
    rw (p.1, p.2) (closes-refused c.args.a.now c.args.job _ c.in_err-standing_of.ensures)

pub bounds-a-job : goal.bounds-a-job
bounds-a-job c =
    let z = stands-below c.args.a.now c.args.job _ c.in_ok-standing_of.ensures in
    omega (arith, z)

pub returns : goal.returns
returns c =
    let z = stands-below c.args.a.now c.args.job _ c.in_ok-standing_of.ensures in
    closes-known c.args.a.now c.args.job _ c.in_ok-standing_of.ensures _ (closed-numbers c.args.a.now c.args.job z c.told-a _ refl)
