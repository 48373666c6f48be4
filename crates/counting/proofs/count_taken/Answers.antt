-- `count_taken` meets its contract: selections, TUs and reports, one kind after the other.
-- Assumes nothing.
use Rattle.counting.proofs.Raising.{added-all}
use Rattle.counting.proofs.count_taken.Goals as goal

pub returns : goal.returns
returns c =
    let a = c.args in
    added-all a.before a.after a.list a.tuples.now a.reports.now a.cells.now a.totals.now c.unpack-were.result c.unpack-are.result c.unpack-were.ensures c.unpack-are.ensures _ _ _ _ _ c.count_finished.ensures c.between.ensures c.count_tuples.ensures c.between-2.ensures c.count_reports.ensures
