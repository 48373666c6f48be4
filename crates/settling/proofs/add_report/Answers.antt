-- `add_report` meets its contract: one report or none.
-- Assumes nothing.
use Rattle.settlements.specs.Finished.{settlement_of, told_of}
use Rattle.settling.proofs.Answers.{not-reported, is-reported}
use Rattle.settling.proofs.Writes.{report-none, report-one}
use borrow.Enum.Refused.{opened}
use Rattle.settling.proofs.add_report.Goals as goal

pub returns-in_default : goal.returns-in_default
returns-in_default c =
    let a = c.args in
    report-none (settlement_of a.s) a.g.now.cells.now a.j a.g.now.scopes a.event a.store.now a.used (not-reported a.s (opened c.in_default.in_default-own.keys2))

pub returns : goal.returns
returns c =
    let a = c.args in
    let t = c.in-Reported in
    let g = c.scope_of-scope in
    let n = c.narrow in
    let r = c.append_report in
    report-one (settlement_of a.s) a.g.now.cells.now a.j a.g.now.scopes a.event a.store.now a.used (told_of c.in-Reported.told)
    g.result n.result r.result r.new.store (is-reported a.s c.in-Reported.told c.in-Reported.is) g.ensures n.ensures r.ensures
