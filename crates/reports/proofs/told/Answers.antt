-- `told` meets its contract: one report after the other, until one tells or there is none.
-- Assumes nothing.
use mathlib.Core.Path.{sym, ◌∙◌}
use Rattle.reports.specs.Reports.{report_of}
use Rattle.reports.proofs.Reading.{rp-shortens}
use Rattle.reports.proofs.Walking.{told-stop, told_here, told-on}
use Rattle.reports.proofs.told.Goals as goal

pub returns-then-says_unread : goal.returns-then-says_unread
returns-then-says_unread c =
    let l = c.loop-report in
    told_here c.args.named l.rest.now (report_of c.in-Some.report) c.in-Some.behind.now c.in-Some.ensures (sym c.says_unread.ensures ∙ c.if-says_unread.true) ∙ l.invariant

pub loop-report-preserved : goal.loop-report-preserved
loop-report-preserved c =
    let l = c.loop-report in
    told-on c.args.named l.rest.now (report_of c.in-Some.report) c.in-Some.behind.now c.in-Some.ensures (sym c.says_unread.ensures ∙ c.if-says_unread.false) ∙ l.invariant

pub loop-report-smaller : goal.loop-report-smaller
loop-report-smaller c = rp-shortens c.loop-report.rest.now (report_of c.in-Some.report) c.in-Some.behind.now (sym c.in-Some.ensures)

pub returns : goal.returns
returns c = let l = c.loop-report in sym (told-stop c.args.named l.rest.now c.in_default.ensures) ∙ l.invariant
