-- `settle_nillable` meets its contract: a key reports, and the others go by what a complete tuple comes to.
-- Assumes nothing.
use mathlib.Core.Path.{sym, ap, ◌∙◌}
use Rattle.session_spec.specs.Definitions.{frame}
use Rattle.output_stores.specs.Stores.{standing}
use Rattle.tuple_search.specs.Search.{keys_in, tail_bytes, first_with}
use Rattle.settlements.specs.declared.ConstraintKind.{ConstraintKind}
use Rattle.settlements.specs.Finished.{settlement_of, kind_in, nillable_by}
use Rattle.settling.proofs.Answers.{nillable-other}
use Rattle.settling.proofs.settle_nillable.Goals as goal

pub returns-in-Key : goal.returns-in-Key
unfolding nillable_by
returns-in-Key c =
    let a = c.args in
    λ marked. c.answer.ensures
    ∙ sym (ap (λ (k : ConstraintKind). nillable_by (kind_in k) a.home.referred a.field (first_with (tail_bytes a.home.number (keys_in a.home.fields a.cells.now)) (standing frame a.tuples.used.now))) c.in-Key.is)

pub returns-in-Unique : goal.returns-in-Unique
returns-in-Unique c =
    let a = c.args in
    λ marked. nillable-other a.home.kind a.home.referred a.field (first_with (tail_bytes a.home.number (keys_in a.home.fields a.cells.now)) (standing frame a.tuples.used.now)) (settlement_of c.settle_complete.result) c.in-Unique.is
    (c.settle_complete.ensures marked)
