-- `note_next` meets its contract: nothing, one record passed over, or one more in a slot.
-- Assumes nothing.
use Rattle.std.proofs.Common.{◌≡◌, ◌+◌, ℕ, suc, refl, drop, ap, subst, sym, ◌∙◌, get_or, arith}
use Rattle.std.specs.declared.option.Option as code
use mathlib.Core.Option.{none, some}
use Rattle.tuple_index.specs.declared.Sought.{Sought}
use Rattle.tuple_index.specs.Index.{slots_of, free_in, entered_at}
use Rattle.tuple_index.specs.Covers.{end_of}
use Rattle.tuple_index.proofs.Covering.{next-stands, stands-within}
use Rattle.answer_index.specs.Answers.{Steps}
use Rattle.answer_index.proofs.Answered.{given-some, given-none}
use Rattle.answer_index.proofs.Noting.{class-is, move-none, move-one}
use Rattle.answer_index.proofs.note_next.Goals as goal
use Rattle.tuple_index.proofs.Words.{entered-full}

pub returns-in_default : goal.returns-in_default
returns-in_default c =
    let a = c.args in
    let st = next-stands a.used.now a.next c.in_ok-after.after c.in_ok-after.ensures in
    let w = stands-within a.used.now a.next c.in_ok-after.after st in
    let ek = class-is a.classes.now a.used.now a.next c.in_ok-after.after st c.tail_from.result.now c.tail_from.ensures (get_or a.classes.now c.byte_at-constraint.result 255)
    (ap (λ (n : ℕ). get_or a.classes.now n 255) c.byte_at-constraint.ensures) in
    let l = given-none _ c.in_default.ensures in
    (move-none a.classes.now a.slots.now a.used.now a.next c.in_ok-after.after st _ ek (omega (arith, l)), w.0, w.1)

pub returns-in_err-enter_slot : goal.returns-in_err-enter_slot
returns-in_err-enter_slot c =
    let a = c.args in
    let f = subst (λ (q : Sought). none ≡ free_in (drop (end_of a.used.now q a.slots.now) (slots_of a.slots.now))) c.of-sought.ensures c.in_err-enter_slot.ensures.says in
    let l = subst (λ (q : Sought). c.enter_slot.new.slots ≡ entered_at (end_of a.used.now q a.slots.now) (record { place = a.next; number = c.from-number.result + 1; hash = q.hash }) a.slots.now)
    c.of-sought.ensures c.in_err-enter_slot.ensures.leaves in
    subst (λ (r : code.Option ℕ). Steps a.classes.now a.next a.slots.now a.used.now r c.enter_slot.new.slots) (sym c.from_residual-in_err-enter_slot.ensures)
    (l ∙ entered-full a.slots.now _ f _)

pub returns : goal.returns
returns c =
    let a = c.args in
    let st = next-stands a.used.now a.next c.in_ok-after.after c.in_ok-after.ensures in
    let w = stands-within a.used.now a.next c.in_ok-after.after st in
    let g = given-some _ c.in-Some.own c.in-Some.ensures in
    let ek = class-is a.classes.now a.used.now a.next c.in_ok-after.after st c.tail_from.result.now c.tail_from.ensures c.in-Some.own
    (g.0 ∙ ap (λ (n : ℕ). get_or a.classes.now n 255) c.byte_at-constraint.ensures) in
    let n : c.from-number.result + 1 ≡ suc c.in-Some.own = omega (arith, c.from-number.ensures) in
    let f = subst (λ (q : Sought). some c.in_ok-enter_slot.field-0 ≡ free_in (drop (end_of a.used.now q a.slots.now) (slots_of a.slots.now))) c.of-sought.ensures c.in_ok-enter_slot.ensures.says in
    let l = subst (λ (q : Sought). c.enter_slot.new.slots ≡ entered_at (end_of a.used.now q a.slots.now) (record { place = a.next; number = c.from-number.result + 1; hash = q.hash }) a.slots.now)
    c.of-sought.ensures c.in_ok-enter_slot.ensures.leaves in (
      move-one a.classes.now a.slots.now a.used.now a.next c.in_ok-after.after st c.in-Some.own ek (omega (arith, g.0, g.1)) c.tail_from-texts.result.now c.tail_from-texts.ensures
          _ refl (c.from-number.result + 1) n c.in_ok-enter_slot.field-0 f _ l,
      w.0,
      w.1,
    )
