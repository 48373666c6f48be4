-- `report_lacking` meets its contract: nothing is added, or the one report.
-- Assumes nothing.
use borrow.Author.Tests.{not-true, not-false}
use Rattle.finishing.proofs.Walking.{none-lacking, one-lacking}
use Rattle.finishing.proofs.report_lacking.Goals as goal

pub returns-then-not-is_lacking : goal.returns-then-not-is_lacking
returns-then-not-is_lacking c =
    let a = c.args in
    let l = c.is_lacking in
    none-lacking a.t.now.refs a.t.now.used.now a.event a.number a.front.now l.result l.ensures a.reports.now a.at (not-true l.result c.if-not-is_lacking.true-raw)

pub returns : goal.returns
returns c =
    let a = c.args in
    let l = c.is_lacking in
    let k = c.byte_at-constraint in
    let s = c.four_at-scope in
    let r = c.append_report in
    one-lacking a.t.now.refs a.t.now.used.now a.event a.number a.front.now l.result l.ensures a.reports.now a.at (not-false l.result c.if-not-is_lacking.false-raw)
    k.result s.result k.ensures s.ensures r.result r.new.store r.ensures
