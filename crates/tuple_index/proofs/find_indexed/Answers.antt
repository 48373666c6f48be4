-- `find_indexed` meets its contract: by the slots, and where these have nothing by the walk over what they do not cover.
-- Assumes nothing.
use Rattle.std.proofs.Common.{◌≡◌, ◌∙◌, ℕ, refl, ap, subst, drop}
use mathlib.Core.Option.{none, some}
use Rattle.session_spec.specs.Definitions.{frame}
use Rattle.output_stores.specs.Stores.{standing}
use Rattle.tuple_index.specs.declared.Sought.{Sought}
use Rattle.tuple_index.specs.Index.{slots_of, number_in, found_behind}
use Rattle.tuple_index.specs.Covers.{end_of}
use Rattle.tuple_index.proofs.Tables.{head-of, found-there, found-behind}
use Rattle.tuple_index.proofs.find_indexed.Goals as goal

pub returns-in-Some-find_slot : goal.returns-in-Some-find_slot
returns-in-Some-find_slot c =
    let a = c.args in
    λ k. found-there a.table.now a.used.now a.tail.now _ refl c.in_use.result.now c.in_use.ensures c.in-Some.head (head-of _ _ c.in-Some.ensures) k
    c.in-Some-find_slot.number (subst (λ (q : Sought). some c.in-Some-find_slot.number ≡ number_in (drop (end_of a.used.now q c.in_use.result.now) (slots_of c.in_use.result.now))) c.of-sought.ensures c.in-Some-find_slot.ensures)

pub returns-in-None : goal.returns-in-None
returns-in-None c =
    let a = c.args in
    λ k. found-behind a.table.now a.used.now a.tail.now _ refl c.in_use.result.now c.in_use.ensures c.in-Some.head (head-of _ _ c.in-Some.ensures) k
    (subst (λ (q : Sought). none ≡ number_in (drop (end_of a.used.now q c.in_use.result.now) (slots_of c.in_use.result.now))) c.of-sought.ensures c.in-None.ensures)
    _ (c.find_behind.ensures ∙ ap (λ (k : ℕ). found_behind c.in-Some.head.count a.tail.now (standing frame (drop k a.used.now))) c.covered.ensures)
