-- `job_at` meets its contract: the four numbers of a place, one behind the other.
-- Assumes nothing.
use Rattle.print_jobs.proofs.Reading.{read-job}
use Rattle.print_jobs.proofs.job_at.Goals as goal

pub returns : goal.returns
returns c = read-job c.args.a.now c.args.i _ c.lent_number.ensures c.lent_number-2.ensures c.lent_number-3.ensures c.lent_number-4.ensures
