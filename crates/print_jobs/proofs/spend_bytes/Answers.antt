-- `spend_bytes` meets its contract: only a job that stands spends, and only what is admitted.
-- Assumes nothing.
use native.Mathlib.Omega.{arith}
use mathlib.Core.Path.{sym, ◌∙◌}
use Rattle.print_jobs.proofs.Meeting.{spent-refused, spent-over, spent-known, stands-below, most-within}
use Rattle.print_jobs.proofs.spend_bytes.Goals as goal

pub spend_at-requires-clause-i_bound : goal.spend_at-requires-clause-i_bound
spend_at-requires-clause-i_bound c = stands-below c.args.a.now c.args.job _ (sym c.in-Ok.is ∙ c.standing_of.ensures)

pub spend_at-requires-clause-bytes_bound : goal.spend_at-requires-clause-bytes_bound
spend_at-requires-clause-bytes_bound c = most-within c.args.a.now c.args.job _ (sym c.in-Ok.is ∙ c.standing_of.ensures) c.args.bytes c.if-bytes-admitted.true

pub returns-then-bytes-admitted : goal.returns-then-bytes-admitted
returns-then-bytes-admitted c = spent-known c.args.a.now c.args.job _ (sym c.in-Ok.is ∙ c.standing_of.ensures) c.args.bytes c.if-bytes-admitted.true _ c.spend_at.ensures

pub returns-else-bytes-admitted : goal.returns-else-bytes-admitted
returns-else-bytes-admitted c = spent-over c.args.a.now c.args.job _ (sym c.in-Ok.is ∙ c.standing_of.ensures) c.args.bytes (omega (arith, c.if-bytes-admitted.false))

pub returns-in_default : goal.returns-in_default
returns-in_default c = spent-refused c.args.a.now c.args.job _ c.args.bytes (sym c.in_default.is ∙ c.standing_of.ensures)
