-- `write_start` meets its contract: the world after the plan is carried out.
-- Assumes nothing.
use Rattle.starting.proofs.Writing.{writes_start}
use Rattle.starting.proofs.write_start.Goals as goal

pub returns : goal.returns
returns c =
    let a = c.args in
    let ti = c.text_in in
    let wx = c.write_sixes-next in
    let ct = c.count-total in
    let os = c.open_selections-many in
    let ah = c.attribute_hits in
    let ru = c.running_then-running in
    rw c.from-events.ensures
    (writes_start a.n a.spot a.plan a.es a.rec.now a.defs.now a.names.now a.reports.now a.paths.now a.cells.now
    ti.result.now ti.ensures wx.result wx.new.reports wx.ensures ct.result ct.ensures os.result os.new.cells os.ensures
    ah.new.cells ah.new.area ah.ensures ru.result ru.ensures)
