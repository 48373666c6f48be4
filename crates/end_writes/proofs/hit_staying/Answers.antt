-- `hit_staying` meets its contract. The loop's invariant: the rows of the first fields have hit.
-- Assumes nothing.
use native.Mathlib.Omega.{arith}
use Rattle.cells.specs.Cells.{hit_of}
use Rattle.end_writes.proofs.Staying.{no-row, row-more, four-rows, hits-staying}
use Rattle.end_writes.proofs.hit_staying.Goals as goal

pub loop-field-init : goal.loop-field-init
loop-field-init c =
    let a = c.args in
    (omega arith, no-row (hit_of a.h.now.simple a.h.now.key.now) a.first a.counts.now a.cells.now)

pub loop-field-preserved : goal.loop-field-preserved
loop-field-preserved c =
    let a = c.args in
    let l = c.loop-field in
    (omega arith, row-more (hit_of a.h.now.simple a.h.now.key.now) a.first a.counts.now a.cells.now l.field c.clipped-row.result.now l.cells _ c.clipped-row.ensures l.invariant.1 c.hit_selections.ensures)

pub returns : goal.returns
returns c =
    let a = c.args in
    let l = c.loop-field in
    hits-staying a.cells.now a.first a.counts.now a.h.now.simple a.h.now.key.now l.cells
    (four-rows (hit_of a.h.now.simple a.h.now.key.now) a.first a.counts.now a.cells.now l.cells l.field (omega arith) l.invariant.1)
