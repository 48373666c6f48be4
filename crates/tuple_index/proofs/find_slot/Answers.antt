-- `find_slot` meets its contract: the number in the slot where the search ends.
-- Assumes nothing.
use Rattle.std.proofs.Common.{ℕ, drop, ap, ◌∙◌}
use Rattle.lists.specs.Answers.{given}
use Rattle.tuple_index.specs.Index.{slots_of, number_in}
use Rattle.tuple_index.proofs.Words.{past-row, row-past, row-some}
use Rattle.tuple_index.proofs.find_slot.Goals as goal

pub returns-in_err-at : goal.returns-in_err-at
returns-in_err-at c = ap given c.from_residual.ensures ∙ (past-row (slots_of c.args.slots.now) _ (row-past _ _ c.in_err-at.ensures)).0

pub returns : goal.returns
returns c = c.number_at.ensures ∙ ap (λ (k : ℕ). number_in (drop k (slots_of c.args.slots.now))) (row-some _ _ _ c.in_ok-at.ensures).0
