-- `hit_times` meets its contract. What comes after two hits changes nothing.
-- Assumes nothing.
use native.Mathlib.Omega.{arith}
use mathlib.Core.Path.{ap, ◌∙◌}
use Rattle.machine.specs.Machine.{hit}
use Rattle.cells.specs.Cells.{cell_of, hit_of}
use Rattle.cells.proofs.Values.{hits_more}
use Rattle.cells.proofs.Cell.hit_times.Goals as goal

pub returns-in_default : goal.returns-in_default
returns-in_default c =
    let a = c.args in
    let h = hit_of a.h.now.simple a.h.now.key.now in
    c.hit_once-in_default-2.ensures
    ∙ ap (λ x. hit x h) c.hit_once-in_default.ensures
    ∙ hits_more (cell_of a.self) a.times h (λ e. omega arith) (λ e. omega arith)
