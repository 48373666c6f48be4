-- `enter_new` meets its contract: the slots are lent to the loop, and the head is written behind it.
-- Assumes nothing.
use Rattle.std.proofs.Common.{ℕ, List, ◌-◌, take, drop, get_or, subst, arith}
use Rattle.tuple_index.specs.Covers.{Advances}
use Rattle.tuple_index.proofs.Tables.{head-of, end-most, enter-keeps}
use Rattle.tuple_index.proofs.enter_new.Goals as goal

pub slice_bounds-enter_all-count : goal.slice_bounds-enter_all-count
slice_bounds-enter_all-count c = let m = end-most c.args.table.now c.slots_end-end.result (head-of _ _ c.in-Some.ensures).long c.slots_end-end.ensures in omega (arith, m.0, m.1)

pub slice_bounds-enter_all-start : goal.slice_bounds-enter_all-start
slice_bounds-enter_all-start c = let m = end-most c.args.table.now c.slots_end-end.result (head-of _ _ c.in-Some.ensures).long c.slots_end-end.ensures in omega (arith, m.0, m.1)

pub slice_bounds-enter_all-end : goal.slice_bounds-enter_all-end
slice_bounds-enter_all-end c = let m = end-most c.args.table.now c.slots_end-end.result (head-of _ _ c.in-Some.ensures).long c.slots_end-end.ensures in omega (arith, m.0, m.1)

pub returns : goal.returns
returns c =
    let a = c.args in
    let e = c.enter_all-after in
    let o = head-of _ _ c.in-Some.ensures in
    let s : List ℕ = take (c.slots_end-end.result - 4) (drop 4 a.table.now) in
    enter-keeps e.new.slots a.used.now c.slots_end-end.result e.result.next e.result.count e.result.entries a.table.now o.long c.slots_end-end.ensures
    (subst (λ (n : ℕ). Advances n (get_or a.table.now 1 0) s a.used.now e.result.next e.result.count e.new.slots) o.next
    (subst (λ (k : ℕ). Advances c.in-Some.head.next k s a.used.now e.result.next e.result.count e.new.slots) o.count e.ensures))
    c.write_head.new.table c.write_head.ensures
