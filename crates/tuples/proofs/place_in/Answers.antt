-- `place_in` meets its contract: none where there is no such TU or field, and else behind the texts before it.
-- Assumes nothing.
use Rattle.std.proofs.Common.{◌≡◌, ◌<◌, ◌-◌, ℕ, ap, ◌∙◌, arith}
use Rattle.std.proofs.lemmas.Grind.{common_steps}
use Rattle.records.specs.Readers.{bytes_from}
use Rattle.session_spec.specs.Layout.{read_tu}
use Rattle.tuples.proofs.Fields.{texts-whole, no_number, none-before, no-tuple, head-there, no_field, left-used, field-there}
use Rattle.tuples.proofs.place_in.Goals as goal
use Rattle.std.proofs.lemmas.List.{take_rest}

pub returns-in_err-checked_sub : goal.returns-in_err-checked_sub
returns-in_err-checked_sub c =
    let a = c.args in
    let n : a.number < 1 = grind (arith, common_steps) in
    rw c.from_residual.ensures (no_number a.used.now a.number a.field (omega arith))

pub returns-in_err-rest : goal.returns-in_err-rest
returns-in_err-rest c =
    let a = c.args in
    let n : 0 < a.number = grind (arith, common_steps) in
    let k : c.in_ok-checked_sub.field-0 ≡ a.number - 1 = grind (arith, common_steps) in
    rw c.from_residual-in_err-rest.ensures
    (none-before a.used.now a.number a.field (λ z. omega arith) (c.in_err-rest.ensures ∙ ap (λ (m : ℕ). bytes_from m read_tu a.used.now) k))

pub returns-in_err-tuple_behind : goal.returns-in_err-tuple_behind
returns-in_err-tuple_behind c =
    let a = c.args in
    let n : 0 < a.number = grind (arith, common_steps) in
    let k : c.in_ok-checked_sub.field-0 ≡ a.number - 1 = grind (arith, common_steps) in
    let r = c.in_ok-rest.ensures ∙ ap (λ (m : ℕ). bytes_from m read_tu a.used.now) k in
    rw c.from_residual-in_err-tuple_behind.ensures (no-tuple a.used.now a.number a.field (λ z. omega arith) c.in_ok-rest.rest.now r c.in_err-tuple_behind.ensures)

pub bounds-rest-9 : goal.bounds-rest-9
bounds-rest-9 c =
    let a = c.args in
    let n : 0 < a.number = grind (arith, common_steps) in
    let k : c.in_ok-checked_sub.field-0 ≡ a.number - 1 = grind (arith, common_steps) in
    let r = c.in_ok-rest.ensures ∙ ap (λ (m : ℕ). bytes_from m read_tu a.used.now) k in
    omega (arith, head-there a.used.now a.number a.field (λ z. omega arith) c.in_ok-rest.rest.now r c.in_ok-tuple_behind.field-0.now c.in_ok-tuple_behind.ensures)

pub returns-then-from-field : goal.returns-then-from-field
returns-then-from-field c =
    let a = c.args in
    let n : 0 < a.number = grind (arith, common_steps) in
    let k : c.in_ok-checked_sub.field-0 ≡ a.number - 1 = grind (arith, common_steps) in
    let r = c.in_ok-rest.ensures ∙ ap (λ (m : ℕ). bytes_from m read_tu a.used.now) k in
    no_field a.used.now a.number a.field (λ z. omega arith) c.in_ok-rest.rest.now r c.in_ok-tuple_behind.field-0.now c.in_ok-tuple_behind.ensures (omega (arith, c.from.ensures, c.if-from-field.true))

pub returns-in_err-text : goal.returns-in_err-text
returns-in_err-text c =
    let a = c.args in
    let n : 0 < a.number = grind (arith, common_steps) in
    let k : c.in_ok-checked_sub.field-0 ≡ a.number - 1 = grind (arith, common_steps) in
    let r = c.in_ok-rest.ensures ∙ ap (λ (m : ℕ). bytes_from m read_tu a.used.now) k in
    absurd (texts-whole a.used.now a.number a.field (λ z. omega arith) c.in_ok-rest.rest.now r c.in_ok-tuple_behind.field-0.now c.in_ok-tuple_behind.ensures (omega (arith, c.from.ensures, c.if-from-field.false)) _ (take_rest c.in_ok-rest.rest.now 10) c.in_err-text.ensures)

pub overflow_sub-start : goal.overflow_sub-start
overflow_sub-start c =
    let a = c.args in
    let n : 0 < a.number = grind (arith, common_steps) in
    let k : c.in_ok-checked_sub.field-0 ≡ a.number - 1 = grind (arith, common_steps) in
    let r = c.in_ok-rest.ensures ∙ ap (λ (m : ℕ). bytes_from m read_tu a.used.now) k in
    left-used a.used.now a.number a.field (λ z. omega arith) c.in_ok-rest.rest.now r c.in_ok-tuple_behind.field-0.now c.in_ok-tuple_behind.ensures (omega (arith, c.from.ensures, c.if-from-field.false)) _ (take_rest c.in_ok-rest.rest.now 10) c.in_ok-text.text.now c.in_ok-text.ensures

pub returns : goal.returns
returns c =
    let a = c.args in
    let n : 0 < a.number = grind (arith, common_steps) in
    let k : c.in_ok-checked_sub.field-0 ≡ a.number - 1 = grind (arith, common_steps) in
    let r = c.in_ok-rest.ensures ∙ ap (λ (m : ℕ). bytes_from m read_tu a.used.now) k in
    field-there a.used.now a.number a.field (λ z. omega arith) c.in_ok-rest.rest.now r c.in_ok-tuple_behind.field-0.now c.in_ok-tuple_behind.ensures (omega (arith, c.from.ensures, c.if-from-field.false)) _ (take_rest c.in_ok-rest.rest.now 10) c.in_ok-text.text.now c.in_ok-text.ensures c.from-size.result (c.from-size.ensures ∙ c.two_at.ensures)
