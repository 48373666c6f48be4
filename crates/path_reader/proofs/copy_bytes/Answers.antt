-- `copy_bytes` meets its contract: bytes that have room are written where they are put.
-- Assumes nothing.
use mathlib.Core.Path.{refl, ◌∙◌}
use Rattle.lists.proofs.Writes.{put-fits}
use Rattle.path_reader.proofs.copy_bytes.Goals as goal

pub returns : goal.returns
returns c = (refl, c.put_bytes.ensures ∙ put-fits c.args.area.now c.args.at c.args.t.now c.requires)
