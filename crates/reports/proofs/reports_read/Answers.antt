-- `reports_read` meets its contract: one report after the other, to the very end.
-- Assumes nothing.
use native.Mathlib.Omega.{arith}
use mathlib.Core.Path.{◌∙◌, sym}
use Rattle.reports.specs.Reports.{report_of}
use Rattle.reports.proofs.Reading.{rp-shortens}
use Rattle.reports.proofs.Walking.{reports-end, reports-undefined, reports-on}
use Rattle.reports.proofs.reports_read.Goals as goal

pub returns-then-constraints-constraint : goal.returns-then-constraints-constraint
returns-then-constraints-constraint c =
    let l = c.loop-report in
    reports-undefined c.args.constraints l.rest.now (report_of c.in-Some.report) c.in-Some.behind.now c.in-Some.ensures (omega (arith, c.if-constraints-constraint.true, c.from-constraint.ensures)) ∙ l.invariant

pub loop-report-preserved : goal.loop-report-preserved
loop-report-preserved c =
    let l = c.loop-report in
    reports-on c.args.constraints l.rest.now (report_of c.in-Some.report) c.in-Some.behind.now c.in-Some.ensures (omega (arith, c.if-constraints-constraint.false, c.from-constraint.ensures)) ∙ l.invariant

pub loop-report-smaller : goal.loop-report-smaller
loop-report-smaller c = rp-shortens c.loop-report.rest.now (report_of c.in-Some.report) c.in-Some.behind.now (sym c.in-Some.ensures)

pub returns : goal.returns
returns c =
    let l = c.loop-report in
    reports-end c.args.constraints l.rest.now c.in_default.ensures c.is_empty.result c.is_empty.ensures ∙ l.invariant
