-- `settle_complete` meets its contract, kind by kind.
-- Assumes nothing.
use mathlib.Core.Path.{sym, ap, ◌∙◌}
use Rattle.session_spec.specs.Definitions.{frame}
use Rattle.output_stores.specs.Stores.{standing}
use Rattle.tuple_search.specs.Search.{keys_in, tail_bytes, first_with}
use Rattle.settlements.specs.declared.ConstraintKind.{ConstraintKind}
use Rattle.settlements.specs.Finished.{settlement_of, kind_in, complete_by}
use Rattle.settling.proofs.Answers.{complete-looked}
use Rattle.settling.proofs.settle_complete.Goals as goal

pub returns-in-Unique : goal.returns-in-Unique
returns-in-Unique c =
    let a = c.args in
    let tail = tail_bytes a.home.number (keys_in a.home.fields a.cells.now) in
    λ marked. complete-looked a.home.kind a.home.referred (first_with tail (standing frame a.tuples.used.now)) (settlement_of c.settle_found.result) c.in-Unique.is
    (c.settle_found.ensures tail (standing frame a.tuples.used.now) (c.find_same.ensures marked))

pub returns-in-Keyref : goal.returns-in-Keyref
unfolding complete_by
returns-in-Keyref c =
    let a = c.args in
    λ marked. c.settle_keyref.ensures
    ∙ sym (ap (λ (k : ConstraintKind). complete_by (kind_in k) a.home.referred (first_with (tail_bytes a.home.number (keys_in a.home.fields a.cells.now)) (standing frame a.tuples.used.now))) c.in-Keyref.is)
