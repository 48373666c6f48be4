-- `scope_at` meets its contract. The byte is read at its place; past the end it counts as 0.
-- Assumes nothing.
use mathlib.Core.Path.{◌∙◌}
use Rattle.cells.proofs.Selections.{scope-is, scope-past}
use Rattle.cells.proofs.scope_at.Goals as goal

pub returns-then-at-area : goal.returns-then-at-area
returns-then-at-area c = c.from.ensures ∙ c.more_at.ensures.0 ∙ scope-is c.args.area.now c.args.at

pub returns-else-at-area : goal.returns-else-at-area
returns-else-at-area c = scope-past c.args.area.now c.args.at c.if-at-area.false
