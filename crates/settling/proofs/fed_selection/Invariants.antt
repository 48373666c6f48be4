-- `fed_selection` meets its contract: one field after the other takes its hits.
-- Assumes nothing.
use mathlib.Core.Path.{◌≡◌}
use Rattle.cells.specs.Cells.{hit_of}
use Rattle.settling.proofs.Fed.{fed_to}
use Rattle.settling.proofs.fed_selection.Given as goal

abbrev pub invariant-loop-field : goal.invariant-loop-field
invariant-loop-field l =
    l.bytes ≡ fed_to (hit_of l.g.simple l.g.key.now) l.g.counts.now l.j l.g.cells.now l.field
