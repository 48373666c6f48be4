-- `make_empty` meets its contract: a head that covers nothing, and slots of zeros.
-- Assumes nothing.
use Rattle.std.proofs.Common.{◌≡◌, ◌≤◌, ◌-◌, ℕ, List, ◌++◌, length, take, drop, replicate, ap, rules, arith, length-append}
use Rattle.tuple_index.proofs.Tables.{short-empties, end-most, made-empty}
use Rattle.tuple_index.proofs.make_empty.Goals as goal
use Rattle.tuple_index.proofs.make_empty.Goals.{After-slots_end-end}

-- the slots end within the table behind its new head
end-within : (c : After-slots_end-end)
    → (4 ≤ c.slots_end-end.result) × (c.slots_end-end.result ≤ length (c.copy_from_slice.new.self ++ drop 4 c.args.table.now))
end-within c =
    let l = length-append c.copy_from_slice.new.self (drop 4 c.args.table.now) in
    end-most (c.copy_from_slice.new.self ++ drop 4 c.args.table.now) c.slots_end-end.result
    (omega (arith, l, ap length c.copy_from_slice.ensures.after)) c.slots_end-end.ensures

pub returns-then-table-lt4 : goal.returns-then-table-lt4
returns-then-table-lt4 c = short-empties c.args.table.now c.if-table-lt4.true

pub slice_bounds-fill-count : goal.slice_bounds-fill-count
slice_bounds-fill-count c = omega (arith, end-within (goal.at.slice_bounds-fill-count c).After-slots_end-end)

pub slice_bounds-fill-start : goal.slice_bounds-fill-start
slice_bounds-fill-start c = omega (arith, end-within (goal.at.slice_bounds-fill-start c).After-slots_end-end)

pub slice_bounds-fill-end : goal.slice_bounds-fill-end
slice_bounds-fill-end c = omega (arith, end-within (goal.at.slice_bounds-fill-end c).After-slots_end-end)

pub returns : goal.returns
returns c =
    let t : List ℕ = c.copy_from_slice.new.self ++ drop 4 c.args.table.now in
    let z : c.fill.new.self ≡ replicate (length (take (c.slots_end-end.result - 4) (drop 4 t))) 0 = search rules in
    made-empty c.args.slots c.slots_end-end.result c.args.table.now t c.fill.new.self c.if-table-lt4.false
    (ap (λ (h : List ℕ). h ++ drop 4 c.args.table.now) c.copy_from_slice.ensures.after) c.slots_end-end.ensures z
