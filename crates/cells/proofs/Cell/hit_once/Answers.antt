-- `hit_once` meets its contract. The simple byte says which of the three hits it is.
-- Assumes nothing.
use native.Mathlib.Omega.{arith}
use mathlib.Core.Path.{ap, ◌∙◌}
use Rattle.machine.specs.Machine.{hit}
use Rattle.cells.specs.Cells.{cell_of}
use Rattle.cells.proofs.Values.{hit-complex, hit-nillable, hit-simple}
use Rattle.cells.proofs.Cell.hit_once.Goals as goal

pub returns-in-0 : goal.returns-in-0
returns-in-0 c = c.record_not_simple.ensures ∙ ap (hit (cell_of c.args.self)) (hit-complex c.args.h.now.simple c.args.h.now.key.now c.in-0.is)

pub returns-in-2 : goal.returns-in-2
returns-in-2 c = c.record_nillable.ensures ∙ ap (hit (cell_of c.args.self)) (hit-nillable c.args.h.now.simple c.args.h.now.key.now c.in-2.is)

pub returns-in_default : goal.returns-in_default
returns-in_default c = c.record.ensures ∙ ap (hit (cell_of c.args.self)) (hit-simple c.args.h.now.simple c.args.h.now.key.now (λ e. omega arith) (λ e. omega arith))
