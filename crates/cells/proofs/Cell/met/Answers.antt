-- `met` meets its contract. Only a blank cell takes what the hit makes; any other one becomes Multiple.
-- Assumes nothing.
use Rattle.cells.specs.Cells.{cell_of, blank_or}
use Rattle.cells.proofs.Values.{not-blank}
use Rattle.cells.proofs.Cell.met.Goals as goal

pub returns-in-Unset : goal.returns-in-Unset
unfolding cell_of blank_or
returns-in-Unset c = rw c.in-Unset.is

pub returns-in_default : goal.returns-in_default
unfolding cell_of
returns-in_default c = not-blank c.args.self (cell_of c.args.first) c.in_default.not-Unset
