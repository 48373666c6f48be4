-- `enter_next` meets its contract: nothing, or one record more, with a slot of its own where its tail was in none.
-- Assumes nothing.
use Rattle.std.proofs.Common.{◌≡◌, ◌+◌, ℕ, refl, subst, sym, ◌∙◌, drop, arith}
use Rattle.std.proofs.lemmas.Grind.{common_steps}
use mathlib.Core.Option.{none, some}
use Rattle.std.specs.declared.option.Option as code
use Rattle.tuple_index.specs.declared.Head.{Head}
use Rattle.tuple_index.specs.declared.Sought.{Sought}
use Rattle.tuple_index.specs.Index.{slots_of, free_in, entered_at}
use Rattle.tuple_index.specs.Covers.{end_of, Enters}
use Rattle.tuple_index.proofs.Covering.{next-stands, stands-within}
use Rattle.tuple_index.proofs.Tables.{step-one}
use Rattle.tuple_index.proofs.enter_next.Goals as goal
use Rattle.tuple_index.proofs.Words.{entered-full}

pub returns-in_err-new : goal.returns-in_err-new
returns-in_err-new c =
    let a = c.args in
    let n = subst (λ (q : Sought). none ≡ free_in (drop (end_of a.used.now q a.slots.now) (slots_of a.slots.now))) c.of-sought.ensures c.in_err-new.ensures.says in
    let l = subst (λ (q : Sought). c.enter_slot.new.slots ≡ entered_at (end_of a.used.now q a.slots.now) (record { place = a.h.next; number = c.in_ok-count.count; hash = q.hash }) a.slots.now)
    c.of-sought.ensures c.in_err-new.ensures.leaves in
    subst (λ (r : code.Option Head). Enters a.h.next a.h.count a.slots.now a.used.now r c.enter_slot.new.slots) (sym c.from_residual-in_err-new.ensures)
    (l ∙ entered-full a.slots.now _ n _)

pub returns : goal.returns
returns c =
    let a = c.args in
    let st = next-stands a.used.now a.h.next c.in_ok-next.next c.in_ok-next.ensures in
    let k : c.in_ok-count.count ≡ a.h.count + 1 = grind (arith, common_steps) in
    let w = stands-within a.used.now a.h.next c.in_ok-next.next st in
    let s = subst (λ (q : Sought). some c.in_ok-new.new ≡ free_in (drop (end_of a.used.now q a.slots.now) (slots_of a.slots.now))) c.of-sought.ensures c.in_ok-new.ensures.says in
    let l = subst (λ (n : ℕ). c.enter_slot.new.slots ≡ entered_at (end_of a.used.now c.of-sought.result a.slots.now) (record { place = a.h.next; number = n; hash = c.of-sought.result.hash }) a.slots.now)
    k c.in_ok-new.ensures.leaves in
    let m = subst (λ (q : Sought). c.enter_slot.new.slots ≡ entered_at (end_of a.used.now q a.slots.now) (record { place = a.h.next; number = a.h.count + 1; hash = q.hash }) a.slots.now)
    c.of-sought.ensures l in
    rw k (
      step-one a.slots.now a.used.now a.h.next a.h.count c.in_ok-next.next st c.tail_from-tail.result.now c.tail_from-tail.ensures _ refl c.in_ok-new.new s _ m,
      w.0,
      w.1,
    )
