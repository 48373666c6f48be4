-- `report_by` meets its contract: nothing is written, or all reports.
-- Assumes nothing.
use borrow.Author.Tests.{not-true, not-false}
use Rattle.finishing.proofs.Walking.{judged-full, judged-all}
use Rattle.finishing.proofs.report_by.Goals as goal

pub returns-then-not-at_most : goal.returns-then-not-at_most
returns-then-not-at_most c =
    let a = c.args in
    let m = c.at_most in
    judged-full a.t.now.refs a.t.now.used.now a.event a.most a.reports.now a.at m.result m.ensures (not-true m.result c.if-not-at_most.true-raw)

pub returns : goal.returns
returns c =
    let a = c.args in
    let m = c.at_most in
    let r = c.report_all in
    judged-all a.t.now.refs a.t.now.used.now a.event a.most a.reports.now a.at m.result m.ensures (not-false m.result c.if-not-at_most.false-raw) r.result r.new.reports r.ensures
