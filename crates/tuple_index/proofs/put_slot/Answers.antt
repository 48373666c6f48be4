-- `put_slot` meets its contract: the three words of the slot, where it is there.
-- Assumes nothing.
use Rattle.std.proofs.Common.{◌+◌, ◌-◌, ◌*◌, [], ◌∷◌, length, ap, sym, ◌∙◌, arith}
use Rattle.lists.specs.Lists.{over}
use Rattle.lists.proofs.Writes.{lent-over, put-fits, put_full}
use Rattle.tuple_index.proofs.put_slot.Goals as goal

pub returns-then-at-slots : goal.returns-then-at-slots
returns-then-at-slots c =
    let a = c.args in
    let copied = c.copy_from_slice in
    lent-over a.slots.now copied.new.self (3 * a.at) (3 * a.at + 3 - 3 * a.at) (omega (arith, ap length copied.ensures.after))
    ∙ ap (over a.slots.now (3 * a.at)) copied.ensures.after
    ∙ sym (put-fits a.slots.now (3 * a.at) (a.slot.place ∷ a.slot.number ∷ a.slot.hash ∷ []) (omega (arith, c.if-at-slots.true)))

pub returns-else-at-slots : goal.returns-else-at-slots
returns-else-at-slots c =
    let a = c.args in
    sym (put_full a.slots.now (3 * a.at) (a.slot.place ∷ a.slot.number ∷ a.slot.hash ∷ []) (omega (arith, c.if-at-slots.false)))
