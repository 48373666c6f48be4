-- `answered_by` meets its contract: by the slots, and where these have nothing by the walk over what they do not cover.
-- Assumes nothing.
use Rattle.std.proofs.Common.{◌≡◌, ◌+◌, ℕ, refl, ap, sym, subst, ◌∙◌, suc, drop, arith}
use Rattle.lists.specs.Answers.{given}
use Rattle.session_spec.specs.Definitions.{frame}
use Rattle.output_stores.specs.Stores.{standing}
use Rattle.tuple_search.specs.Search as search_spec
use Rattle.tuple_index.specs.declared.Sought.{Sought}
use Rattle.tuple_index.specs.Index.{slots_of, number_in}
use Rattle.tuple_index.specs.Covers.{end_of}
use Rattle.tuple_index.proofs.Tables.{head-of}
use Rattle.answer_index.proofs.Answered.{given-some, given-none, one-given, none-given}
use Rattle.answer_index.proofs.Tables.{not-classed, found_here, found_after}
use Rattle.answer_index.proofs.answered_by.Goals as goal

pub returns-in_default-given_class : goal.returns-in_default-given_class
returns-in_default-given_class c =
    let a = c.args in
    let l = given-none a.class c.in_default-given_class.ensures in
    λ classes nm k. not-classed classes a.table.now a.used.now a.texts.now a.class a.named nm k (omega (arith, l))

pub returns-then-is_some : goal.returns-then-is_some
returns-then-is_some c =
    let a = c.args in
    let f = subst (λ (q : Sought). given c.find_slot.result ≡ number_in (drop (end_of a.used.now q c.in_use-slots.result.now) (slots_of c.in_use-slots.result.now))) c.of-sought.ensures c.find_slot.ensures in
    let g = given-some a.class c.in-Some-given_class.own c.in-Some-given_class.ensures in
    let n = one-given c.find_slot.result _ f (sym c.is_some.ensures ∙ c.if-is_some.true) in
    let w : c.from.result + 1 ≡ suc a.class = omega (arith, c.from.ensures, g.0) in
    λ classes nm k. c.if-is_some.true ∙ found_here classes a.table.now a.used.now a.texts.now a.class a.named nm k (omega (arith, g.1)) _ refl
    (c.from.result + 1) w c.in_use-slots.result.now c.in_use-slots.ensures c.in-Some.head (head-of _ _ c.in-Some.ensures) n.0 n.1

pub returns-else-is_some : goal.returns-else-is_some
returns-else-is_some c =
    let a = c.args in
    let f = subst (λ (q : Sought). given c.find_slot.result ≡ number_in (drop (end_of a.used.now q c.in_use-slots.result.now) (slots_of c.in_use-slots.result.now))) c.of-sought.ensures c.find_slot.ensures in
    let g = given-some a.class c.in-Some-given_class.own c.in-Some-given_class.ensures in
    let n = none-given c.find_slot.result _ f (sym c.is_some.ensures ∙ c.if-is_some.false) in
    let w : c.from.result + 1 ≡ suc a.class = omega (arith, c.from.ensures, g.0) in
    λ classes nm k. found_after classes a.table.now a.used.now a.texts.now a.class a.named nm k (omega (arith, g.1)) _ refl
    (c.from.result + 1) w c.in_use-slots.result.now c.in_use-slots.ensures c.in-Some.head (head-of _ _ c.in-Some.ensures) n c.answered_behind.result
    (c.answered_behind.ensures ∙ ap (λ (m : ℕ). search_spec.answered_by a.named a.texts.now (standing frame (drop m a.used.now))) c.covered.ensures)
