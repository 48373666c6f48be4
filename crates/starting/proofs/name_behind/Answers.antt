-- `name_behind` meets its contract: the place over zeros.
-- Assumes nothing.
use Rattle.starting.proofs.Places.{kept-is}
use Rattle.starting.proofs.name_behind.Goals as goal

pub returns : goal.returns
returns c =
    let a = c.args in
    let clipped = c.clipped in
    kept-is a.names.now _ clipped.result.now a.above clipped.ensures c.padded.ensures
