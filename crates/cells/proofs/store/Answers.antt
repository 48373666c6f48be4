-- `store` meets its contract. The cell's bytes are copied to the place.
-- Assumes nothing.
use mathlib.Core.Path.{ap, ◌∙◌}
use Rattle.lists.specs.Lists.{put}
use Rattle.cells.proofs.store.Goals as goal

pub returns : goal.returns
returns c = c.put_bytes.ensures ∙ ap (λ b. put c.args.area.now c.args.at b) c.bytes.ensures
