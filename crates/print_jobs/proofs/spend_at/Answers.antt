-- `spend_at` meets its contract: the third number of a job's place; use and what is admitted are within the cap.
-- Assumes nothing.
use Rattle.std.proofs.Common.{rules}
use Prim.Native.Nat.{◌≤◌}
use native.Mathlib.Omega.{arith}
use mathlib.Core.Path.{refl}
use Rattle.print_jobs.specs.Answers.{job_of}
use Rattle.print_jobs.proofs.Writing.{spent-numbers}
use Rattle.print_jobs.proofs.Meeting.{use-within}
use Rattle.print_jobs.proofs.spend_at.Goals as goal

pub overflow_add-a : goal.overflow_add-a
overflow_add-a c =
    let k : c.job_at.result.cap ≤ 18446744073709551615 = search rules in
    let u : c.job_at.result.used ≤ 18446744073709551615 = search rules in
    let z = use-within c.args.a.now c.args.i c.args.bytes c.requires.bytes_bound (job_of c.job_at.result) c.job_at.ensures 18446744073709551615 k u in
    omega (arith, z)

pub returns : goal.returns
returns c = spent-numbers c.args.a.now c.args.i c.args.bytes c.requires.i_bound c.told-a (job_of c.job_at.result) c.job_at.ensures _ refl _ refl
