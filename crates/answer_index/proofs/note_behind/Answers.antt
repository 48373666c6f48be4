-- `note_behind` meets its contract: the slots are lent to the loop, and the head is written behind it.
-- Assumes nothing.
use Rattle.std.proofs.Common.{ℕ, List, ◌-◌, take, drop, subst, arith}
use Rattle.tuple_index.proofs.Tables.{head-of, end-most}
use Rattle.answer_index.specs.Answers.{Moves}
use Rattle.answer_index.proofs.Tables.{note-extends}
use Rattle.answer_index.proofs.note_behind.Goals as goal

pub slice_bounds-note_all-count : goal.slice_bounds-note_all-count
slice_bounds-note_all-count c = let m = end-most c.args.table.now c.slots_end-end.result (head-of _ _ c.in-Some.ensures).long c.slots_end-end.ensures in omega (arith, m.0, m.1)

pub slice_bounds-note_all-start : goal.slice_bounds-note_all-start
slice_bounds-note_all-start c = let m = end-most c.args.table.now c.slots_end-end.result (head-of _ _ c.in-Some.ensures).long c.slots_end-end.ensures in omega (arith, m.0, m.1)

pub slice_bounds-note_all-end : goal.slice_bounds-note_all-end
slice_bounds-note_all-end c = let m = end-most c.args.table.now c.slots_end-end.result (head-of _ _ c.in-Some.ensures).long c.slots_end-end.ensures in omega (arith, m.0, m.1)

pub returns : goal.returns
returns c =
    let a = c.args in
    let n = c.note_all-next in
    let o = head-of _ _ c.in-Some.ensures in
    let s : List ℕ = take (c.slots_end-end.result - 4) (drop 4 a.table.now) in
    note-extends a.classes.now n.new.slots a.used.now c.slots_end-end.result n.result c.in-Some.head.count c.in-Some.head.entries a.table.now o.long c.slots_end-end.ensures
    (subst (λ (k : ℕ). Moves a.classes.now k s a.used.now n.result n.new.slots) o.next n.ensures)
    c.write_head.new.table c.write_head.ensures
