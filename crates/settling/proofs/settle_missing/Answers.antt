-- `settle_missing` meets its contract: only a key reports.
-- Assumes nothing.
use mathlib.Core.Path.{sym, ap, ◌∙◌}
use Rattle.settlements.specs.declared.ConstraintKind.{ConstraintKind}
use Rattle.settlements.specs.Finished.{kind_in, missing_by}
use Rattle.settling.proofs.Answers.{missing-other}
use Rattle.settling.proofs.settle_missing.Goals as goal

pub returns-in-Key : goal.returns-in-Key
unfolding missing_by
returns-in-Key c = c.answer.ensures ∙ sym (ap (λ (k : ConstraintKind). missing_by (kind_in k) c.args.field) c.in-Key.is)

pub returns-in-Unique : goal.returns-in-Unique
returns-in-Unique c = missing-other c.args.kind c.args.field c.in-Unique.is
