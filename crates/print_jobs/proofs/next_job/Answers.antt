-- `next_job` meets its contract: the one above, else the lowest; above 7 there is none.
-- Assumes nothing.
use Rattle.std.proofs.Common.{rules}
use Rattle.print_jobs.proofs.Naming.{next-named}
use Rattle.print_jobs.proofs.next_job.Goals as goal

pub returns : goal.returns
returns c = next-named c.args.waiting c.args.last c.saturating_add.result c.saturating_add.ensures c.waiting_from.result c.waiting_from.ensures c.or_else.result _ (λ e. search rules) c.or_else.ensures
