-- `hit_cell` meets its contract. Each way through the code is one law: no hit, a hit on a Multiple cell, a new hit.
-- Assumes nothing.
use lib.ListN.{replicate}
use native.Mathlib.Omega.{arith}
use mathlib.Core.Path.{◌≡◌, ap, sym, ◌∙◌}
use Rattle.std.proofs.Common.{rules}
use Rattle.lists.specs.Lists.{foldl}
use Rattle.machine.specs.Machine.{hit}
use Rattle.cells.specs.declared.State.TheVariants.{Multiple}
use Rattle.cells.specs.Cells.{state_number, cell_of, hit_of}
use Rattle.cells.proofs.Values.{only-multiple}
use Rattle.cells.proofs.Hits.{no_hit, multiple-hit, new-hit}
use Rattle.cells.proofs.hit_cell.Goals.{else-times-gt0-via-then-times-gt0+else-ne, else-times-gt0-via-else-times-gt0}
use Rattle.cells.proofs.hit_cell.Goals as goal

pub returns-else-times-gt0 : goal.returns-else-times-gt0
returns-else-times-gt0 c =
    let a = c.args in
    let h = hit_of a.h.now.simple a.h.now.key.now in
    elim c.else-times-gt0.branch [
      | else-times-gt0-via-then-times-gt0+else-ne w ↦
          let e : w.state_at.result ≡ Multiple = search (rules, w.if-ne.ensures) in
          multiple-hit h a.at a.times a.area.now (sym w.state_at.ensures ∙ ap state_number e)
      | else-times-gt0-via-else-times-gt0 w ↦ no_hit h a.at a.times a.area.now (omega arith)
    ]

pub returns-then-ne : goal.returns-then-ne
returns-then-ne c =
    let a = c.args in
    c.store.ensures
    ∙ new-hit (hit_of a.h.now.simple a.h.now.key.now) a.at a.times a.area.now c.more_at-more.result (cell_of c.hit_times.result) (omega arith)
    (λ e. search (rules, c.if-ne.ensures, only-multiple c.state_at.result (c.state_at.ensures ∙ e))) c.more_at-more.ensures.0 c.more_at-more.ensures.1
    (c.hit_times.ensures ∙ ap (λ x. foldl hit x (replicate a.times (hit_of a.h.now.simple a.h.now.key.now))) c.load-c.ensures)
