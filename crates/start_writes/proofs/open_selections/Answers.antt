-- `open_selections` meets its contract. The invariant: the selections of the places passed are open.
-- Assumes nothing.
use native.Mathlib.Omega.{arith}
use Rattle.start_writes.proofs.Filling.{no-selections, none-opened, some-opened, open_turn}
use Rattle.start_writes.proofs.open_selections.Goals as goal
use Rattle.start_writes.proofs.open_selections.Goals.{then-has, else-has}

pub loop-j-init : goal.loop-j-init
loop-j-init c =
    let a = c.args in
    no-selections a.cells.now a.n a.mask a.depth

pub loop-j-preserved : goal.loop-j-preserved
loop-j-preserved c =
    let l = c.loop-j in
    let a = c.args in
    let has = c.has in
    elim c.if-has.branch [
      | then-has w ↦
          open_turn a.cells.now l.cells c.if-has.cells a.n l.count c.if-has.count a.mask a.depth l.j has.result (omega arith) has.ensures l.invariant
          (some-opened l.cells c.if-has.cells l.count has.result a.depth l.j c.if-has.count w.open_one-count.new.cells w.open_one-count.result w.if-has.true w.count-is w.cells-is w.open_one-count.ensures)
      | else-has w ↦
          open_turn a.cells.now l.cells c.if-has.cells a.n l.count c.if-has.count a.mask a.depth l.j has.result (omega arith) has.ensures l.invariant
          (none-opened l.cells c.if-has.cells l.count has.result a.depth l.j c.if-has.count w.if-has.false w.count-is w.cells-is)
    ]
