-- `field_rows` meets its contract. The loop's invariant: the rows of the first f fields are done.
-- Assumes nothing.
use Rattle.element_hits.proofs.Matrix.{Rows}
use mathlib.Core.Path.{◌≡◌}
use lib.ListN.{length}
use Rattle.element_hits.proofs.field_rows.Given as goal

abbrev pub invariant-loop-f : goal.invariant-loop-f
invariant-loop-f l = (length l.initial.counts ≡ 128) × Rows l.of.cells.now l.of.n l.of.place l.element.names.now l.element.depth l.constraint.own.now l.constraint.parts l.element.defs.now l.initial.area l.initial.counts l.f l.area l.counts
