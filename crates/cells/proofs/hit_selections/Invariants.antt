-- `hit_selections` meets its contract. The invariant: the first j selections took their hits. A turn changes the next one, which comes back to its place.
-- Assumes nothing.
use lib.ListN.{length, take}
use mathlib.Core.Path.{◌≡◌}
use Rattle.cells.specs.Cells.{hit_of, hit_selections}
use Rattle.cells.proofs.hit_selections.Given as goal

abbrev pub invariant-loop-j : goal.invariant-loop-j
invariant-loop-j l =
    (length l.area ≡ length l.initial.area) × (l.area ≡ hit_selections (hit_of l.h.simple l.h.key.now) l.field (take l.j l.counts) l.initial.area)
