-- `record_not_simple` meets its contract: what a first hit makes of a blank cell says what the hit makes of any.
-- Assumes nothing.
use mathlib.Core.Path.{◌∙◌}
use Rattle.tree.specs.Cells.{complex, one}
use Rattle.cells.specs.Cells.{cell_of}
use Rattle.cells.proofs.Values.{hit-is-first}
use Rattle.cells.proofs.Cell.record_not_simple.Goals as goal

pub returns : goal.returns
unfolding cell_of one
returns c = c.met.ensures ∙ hit-is-first (cell_of c.args.self) complex
