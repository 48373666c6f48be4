-- `depth_at` meets its contract. Both bytes are read at their places; past the end both count as 0.
-- Assumes nothing.
use Rattle.cells.proofs.Selections.{depth_is, depth-past}
use Rattle.cells.proofs.depth_at.Goals as goal

pub returns-then-at-area : goal.returns-then-at-area
returns-then-at-area c =
    rw (c.from.ensures, c.from-then-at-area.ensures, c.more_at.ensures.0, c.more_at-then-at-area.ensures.0) (depth_is c.args.area.now c.args.at)

pub returns-else-at-area : goal.returns-else-at-area
returns-else-at-area c = depth-past c.args.area.now c.args.at c.if-at-area.false
