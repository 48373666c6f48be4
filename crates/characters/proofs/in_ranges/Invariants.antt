-- `in_ranges` meets its contract. The loop's invariant: the ranges that are left hold c exactly if the whole table does, and are in order.
-- Assumes nothing.
use mathlib.Core.Path.{◌≡◌}
use mathlib.Core.Bool.{true}
use lib.ListN.{drop}
use Rattle.characters.specs.Ranges.{in_ranges, in_order, flat}
use Rattle.characters.proofs.in_ranges.Given as goal

abbrev pub invariant-loop-low : goal.invariant-loop-low
invariant-loop-low l = (in_ranges (flat (drop l.low-index l.table)) l.c ≡ in_ranges (flat l.table) l.c) × (in_order 0 (flat (drop l.low-index l.table)) ≡ true)
