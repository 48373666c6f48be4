-- `write_all` meets its contract: first the TUs, then the reports.
-- Assumes nothing.
use Rattle.settling.proofs.Appending.{both-written}
use Rattle.settling.proofs.write_all.Goals as goal

pub returns : goal.returns
returns c =
    let a = c.args in
    let t = c.write_tuples-t in
    let r = c.write_reports-r in
    both-written a.s.now a.g.now.cells.now a.g.now.first a.g.now.n a.g.now.counts.now a.g.now.simple a.g.now.key.now a.g.now.scopes a.g.now.defs.now a.event
    a.tuples.now a.tused a.reports.now a.rused t.result r.result t.new.store r.new.store t.ensures r.ensures
