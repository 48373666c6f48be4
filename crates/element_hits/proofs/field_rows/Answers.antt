-- `field_rows` meets its contract. The loop's invariant: the rows of the first f fields are done.
-- Assumes nothing.
use Prim.Native.Nat.{◌+◌, ◌*◌, ◌-◌}
use Rattle.element_hits.proofs.Matrix.{target_of, lent_of, rows-one}
use mathlib.Core.Path.{refl}
use native.Mathlib.Omega.{arith}
use Rattle.element_hits.proofs.field_rows.Goals as goal

pub loop-f-preserved : goal.loop-f-preserved
loop-f-preserved c = let a = c.args in let l = c.loop-f in let i = l.invariant in let one = c.field_hits in (i.0, rows-one a.of.now.cells.now a.of.now.n a.of.now.place a.element.now.names.now a.element.now.depth a.constraint.now.own.now a.constraint.now.parts a.element.now.defs.now a.area.now a.counts.now l.f l.area l.counts i.1 i.0 (omega arith) (32 * l.f + 32 - 32 * l.f) (target_of one.ensures) (lent_of one.ensures) (omega arith) (omega arith) refl one.new.area one.new.row one.ensures)
