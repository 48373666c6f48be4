-- `open_one` meets its contract: one blank selection more, or none where there are too many.
-- Assumes nothing.
use Rattle.start_writes.proofs.Filling.{one-opened}
use Rattle.start_writes.proofs.open_one.Goals as goal

pub returns : goal.returns
returns c =
    let call = c.open_selection in
    let a = c.args in
    one-opened a.cells.now call.new.area a.n a.depth a.scope call.ensures
