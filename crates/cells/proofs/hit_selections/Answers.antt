-- `hit_selections` meets its contract. The invariant: the first j selections took their hits. A turn changes the next one, which comes back to its place.
-- Assumes nothing.
use Prim.Native.Nat.{◌+◌, ◌-◌, ◌*◌, min}
use native.Mathlib.Omega.{arith}
use lib.ListN.{length, take}
use mathlib.Core.Path.{◌≡◌, refl, ap, ◌∙◌}
use Rattle.cells.specs.Cells.{hit_of, hit_selections}
use Rattle.cells.proofs.Chunks.{length-selections, no-such-field, none_yet, turn, all_done}
use Rattle.cells.proofs.hit_selections.Goals as goal

pub returns-then-field-ge4 : goal.returns-then-field-ge4
returns-then-field-ge4 c =
    let a = c.args in
    no-such-field (hit_of a.h.now.simple a.h.now.key.now) a.field (take a.n a.counts.now) a.area.now c.if-field-ge4.true

pub loop-j-init : goal.loop-j-init
loop-j-init c =
    let a = c.args in
    (refl, none_yet (hit_of a.h.now.simple a.h.now.key.now) a.field a.counts.now a.area.now)

pub loop-j-preserved : goal.loop-j-preserved
loop-j-preserved c =
    let a = c.args in
    let h = hit_of a.h.now.simple a.h.now.key.now in
    let j = c.loop-j.j in
    let size = c.min-in-loop-j.result in
    let w : 512 * j + size - 512 * j ≡ min 512 (length c.loop-j.area - 512 * j) = omega (arith, c.min-in-loop-j.ensures) in
    let next =
    turn h a.field a.area.now c.loop-j.area c.hit_cell.new.area a.counts.now j (512 * j + size - 512 * j)
    (omega (arith, c.min-last.ensures, c.min.ensures)) w c.loop-j.invariant.1 (rw c.from-times.ensures at c.hit_cell.ensures) in
    (ap length next ∙ length-selections h a.field (take (j + 1) a.counts.now) a.area.now, next)

pub returns : goal.returns
returns c =
    let a = c.args in
    let h = hit_of a.h.now.simple a.h.now.key.now in
    let e : c.loop-j.j ≡ c.min-last.result = omega arith in
    c.loop-j.invariant.1
    ∙ ap (λ k. hit_selections h a.field (take k a.counts.now) a.area.now) e
    ∙ all_done h a.field a.area.now a.counts.now a.n c.min-last.result (omega (arith, c.min-last.ensures, c.min.ensures))
