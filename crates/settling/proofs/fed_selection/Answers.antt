-- `fed_selection` meets its contract: the bytes are copied into an array of zeros, and one field after the other takes its hits.
-- Assumes nothing.
use native.Mathlib.Omega.{arith}
use Rattle.cells.specs.Cells.{hit_of}
use Rattle.settling.proofs.Fed.{fed-first, fed-last}
use Rattle.settling.proofs.fed_selection.Goals as goal

pub loop-field-init : goal.loop-field-init
loop-field-init c =
    let a = c.args in
    fed-first (hit_of a.g.now.simple a.g.now.key.now) a.g.now.counts.now a.g.now.cells.now a.j c.selection_at.result.now c.put_bytes.new.store c.selection_at.ensures c.put_bytes.ensures

pub returns : goal.returns
returns c =
    let a = c.args in
    let l = c.loop-field in
    fed-last (hit_of a.g.now.simple a.g.now.key.now) a.g.now.counts.now a.g.now.cells.now a.j l.field l.bytes (omega (arith, l.auto.field-end, c.loop-field-test.false)) l.invariant
