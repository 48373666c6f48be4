-- `padded` meets its contract: the front of the text over zeros.
-- Assumes nothing.
use Rattle.path_area.proofs.Scratch.{padded-is}
use Rattle.path_area.proofs.padded.Goals as goal

pub returns : goal.returns
returns g c = padded-is g.row.N c.args.text.now _ c.clipped.result.now c.clipped.ensures c.put_bytes.ensures
