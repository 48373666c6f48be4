-- `open_selection` meets its contract. The loop's invariant: the first blank cells are written.
-- Assumes nothing.
use lib.ListN.{take}
use mathlib.Core.Path.{◌≡◌}
use mathlib.Core.List.{[]}
use Rattle.lists.specs.Lists.{put}
use Rattle.session_spec.specs.Layout.{put_cells}
use Rattle.cells.proofs.open_selection.Given as goal

abbrev pub invariant-loop-k : goal.invariant-loop-k
invariant-loop-k l = l.area ≡ put l.initial.area l.at (put_cells (take l.k l.more-items) [])
