-- `hit_staying` meets its contract. The loop's invariant: the rows of the first fields have hit.
-- Assumes nothing.
use Prim.Native.Nat.{◌≤◌}
use mathlib.Core.Path.{◌≡◌}
use Rattle.cells.specs.Cells.{hit_of}
use Rattle.end_writes.proofs.Staying.{rows-hit}
use Rattle.end_writes.proofs.hit_staying.Given as goal

abbrev pub invariant-loop-field : goal.invariant-loop-field
invariant-loop-field l = (l.field ≤ 4) × (l.cells ≡ rows-hit (hit_of l.h.simple l.h.key.now) l.first l.counts l.initial.cells l.field)
