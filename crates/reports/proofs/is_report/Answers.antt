-- `is_report` meets its contract: what is read says the same tests.
-- Assumes nothing.
use Rattle.std.proofs.Common.{rules}
use Rattle.reports.proofs.Reading.{report-tests}
use Rattle.reports.proofs.is_report.Goals as goal
use Rattle.reports.proofs.is_report.Goals.{then-s-ge18, else-s-ge18}

pub returns-then-starts_with : goal.returns-then-starts_with
returns-then-starts_with c = rw (report-tests c.args.s.now) (elim c.if-s-ge18.branch [ then-s-ge18 w ↦ search rules | else-s-ge18 w ↦ search rules ])

pub returns-else-starts_with : goal.returns-else-starts_with
returns-else-starts_with c = rw (report-tests c.args.s.now) (elim c.if-s-ge18.branch [ then-s-ge18 w ↦ search rules | else-s-ge18 w ↦ search rules ])
