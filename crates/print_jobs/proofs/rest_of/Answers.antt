-- `rest_of` meets its contract: one job after the other; what is left behind it goes on as the whole does.
-- Assumes nothing.
use native.Mathlib.Omega.{arith}
use Rattle.print_jobs.specs.Answers.{job_of}
use Rattle.print_jobs.proofs.Reading.{no-fit, over-promised, over-left, in-both, walked-past, walked_on, walked_end}
use Rattle.print_jobs.proofs.rest_of.Goals as goal

pub returns-then-not-job_fits : goal.returns-then-not-job_fits
returns-then-not-job_fits c = walked-past c.args.a.now c.args.count c.args.total c.loop-i.promised c.loop-i.left c.loop-i.i c.loop-i.invariant (omega arith) _ c.job_at-j.ensures (no-fit _ c.loop-i.promised c.loop-i.left _ c.job_fits.ensures c.if-not-job_fits.true)

pub returns-in_err-promised : goal.returns-in_err-promised
returns-in_err-promised c =
    let past = c.in_err-promised.ensures in
    rw c.from_residual.ensures
    (walked-past c.args.a.now c.args.count c.args.total c.loop-i.promised c.loop-i.left c.loop-i.i c.loop-i.invariant (omega arith) _ c.job_at-j.ensures (over-promised (job_of c.job_at-j.result) c.loop-i.promised c.loop-i.left (omega (arith, past))))

pub returns-in_err-left : goal.returns-in_err-left
returns-in_err-left c =
    let past = c.in_err-left.ensures in
    rw c.from_residual-in_err-left.ensures
    (walked-past c.args.a.now c.args.count c.args.total c.loop-i.promised c.loop-i.left c.loop-i.i c.loop-i.invariant (omega arith) _ c.job_at-j.ensures (over-left (job_of c.job_at-j.result) c.loop-i.promised c.loop-i.left (omega (arith, past, c.held.ensures))))

pub loop-i-preserved : goal.loop-i-preserved
loop-i-preserved c =
    let p = c.in_ok-promised.ensures in
    let l = c.in_ok-left.ensures in
    walked_on c.args.a.now c.args.count c.args.total c.loop-i.promised c.loop-i.left c.loop-i.i c.loop-i.invariant (omega arith) _ c.job_at-j.ensures (in-both (job_of c.job_at-j.result) c.loop-i.promised c.loop-i.left _ c.job_fits.ensures c.if-not-job_fits.false (omega (arith, p)) (omega (arith, l, c.held.ensures))) _ _ (omega (arith, p)) (omega (arith, l, c.held.ensures))

pub returns : goal.returns
returns c = walked_end c.args.a.now c.args.count c.args.total c.loop-i.promised c.loop-i.left c.loop-i.i c.loop-i.invariant (omega arith)
