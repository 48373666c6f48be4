-- `in_ranges` meets its contract. The loop's invariant: the ranges that are left hold c exactly if the whole table does, and are in order. The laws of a turn
-- answer each return. Assumes nothing.
use mathlib.Core.Path.{sym, ◌∙◌}
use Rattle.characters.proofs.Scan.{scan-done, scan-below, scan-in, scan-past, scan-order}
use Rattle.characters.proofs.in_ranges.Goals as goal

pub returns-then-c-low : goal.returns-then-c-low
returns-then-c-low c =
    let turn = c.loop-low in
    sym (scan-below c.args.table.now turn.low-index c.loop-low-test.true c.args.c turn.invariant.1 c.if-c-low.true) ∙ turn.invariant.0

pub returns-then-c-high : goal.returns-then-c-high
returns-then-c-high c =
    let turn = c.loop-low in
    sym (scan-in c.args.table.now turn.low-index c.loop-low-test.true c.args.c c.if-c-low.false c.if-c-high.true) ∙ turn.invariant.0

pub loop-low-preserved : goal.loop-low-preserved
loop-low-preserved c =
    let turn = c.loop-low in (
      scan-past c.args.table.now turn.low-index c.loop-low-test.true c.args.c c.if-c-high.false ∙ turn.invariant.0,
      scan-order c.args.table.now turn.low-index c.loop-low-test.true c.args.c turn.invariant.1,
    )

pub returns : goal.returns
returns c =
    let turn = c.loop-low in
    sym (scan-done c.args.table.now turn.low-index c.args.c c.loop-low-test.false) ∙ turn.invariant.0
