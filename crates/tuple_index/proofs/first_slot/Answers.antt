-- `first_slot` meets its contract: the product fits eight bytes.
-- Assumes nothing.
use Rattle.std.proofs.Common.{ℕ, ◌*◌, ◌/◌, ap, ◌∙◌, arith}
use Rattle.tuple_index.proofs.Numbers.{spare-most, start_is, start-most}
use Rattle.tuple_index.proofs.first_slot.Goals as goal

pub overflow_sub-served : goal.overflow_sub-served
overflow_sub-served c = omega (arith, c.spare_of.ensures, spare-most c.args.slots)

pub returns : goal.returns
returns c =
    let a = c.args in
    let e = ap (λ (h : ℕ). h * c.min-most.result / 4294967296) c.from.ensures ∙ start_is a.slots a.hash c.spare_of.result c.min-most.result c.spare_of.ensures c.min-most.ensures in
    record { start = e; within = omega (arith, e, start-most a.slots a.hash (omega (arith, c.ranges.hash))) }
