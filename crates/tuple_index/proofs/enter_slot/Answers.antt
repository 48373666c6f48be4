-- `enter_slot` meets its contract: nothing past the last slot and at one that is taken, else the three words.
-- Assumes nothing.
use Rattle.std.proofs.Common.{true, false, sym, ap, ◌∙◌}
use Rattle.lists.specs.Answers.{given}
use Rattle.tuple_index.specs.Index.{slots_of}
use Rattle.tuple_index.proofs.Words.{row-past, row-some, free-there, free-by, taken-by, enters-none, enters}
use Rattle.tuple_index.proofs.enter_slot.Goals as goal

pub returns-in_err-at : goal.returns-in_err-at
returns-in_err-at c =
    let n = enters-none c.args.slots.now c.args.slot _ (row-past _ _ c.in_err-at.ensures) in
    record { says = ap given c.from_residual.ensures ∙ n.0; leaves = n.1 }

pub returns-then-is_some : goal.returns-then-is_some
returns-then-is_some c =
    let ws = c.args.slots.now in
    let r = row-some _ _ _ c.in_ok-at.ensures in
    let f = taken-by (slots_of ws) c.in_ok-at.at c.number_at.result c.number_at.ensures (sym c.is_some.ensures ∙ c.if-is_some.true) in
    let n = enters ws c.args.slot _ c.in_ok-at.at r.0 r.1 false (free-there ws c.in_ok-at.at false f).1 in
    record { says = n.0; leaves = n.1 }

pub returns : goal.returns
returns c =
    let ws = c.args.slots.now in
    let r = row-some _ _ _ c.in_ok-at.ensures in
    let f = free-by (slots_of ws) c.in_ok-at.at r.1 c.number_at.result c.number_at.ensures (sym c.is_some.ensures ∙ c.if-is_some.false) in
    let n = enters ws c.args.slot _ c.in_ok-at.at r.0 r.1 true (free-there ws c.in_ok-at.at true f).1 in
    record { says = n.0; leaves = c.put_slot.ensures ∙ n.1 }
