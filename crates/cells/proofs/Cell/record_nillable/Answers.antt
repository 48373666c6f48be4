-- `record_nillable` meets its contract: what a first hit makes of a blank cell says what the hit makes of any.
-- Assumes nothing.
use lib.ListN.{take}
use mathlib.Core.Path.{ap, ◌∙◌}
use Rattle.tree.specs.Cells.{nillable, SetNillable, one}
use Rattle.cells.specs.Cells.{cell_of, blank_or}
use Rattle.cells.proofs.Values.{hit-is-first}
use Rattle.cells.proofs.Cell.record_nillable.Goals as goal

pub returns : goal.returns
unfolding cell_of one
returns c =
    let s = cell_of c.args.self in
    c.met.ensures ∙ ap (λ t. blank_or s (SetNillable t)) c.of.ensures ∙ hit-is-first s (nillable (take 126 c.args.key.now))
