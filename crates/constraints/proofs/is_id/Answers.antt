-- `is_id` meets its contract: the two letters of the mark are its two bytes.
-- Assumes nothing.
use mathlib.Core.Path.{refl, ◌∙◌}
use Rattle.bindings.specs.Own.{is_id}
use Rattle.bindings.proofs.Heads.{marked-by}
use Rattle.constraints.proofs.is_id.Goals as goal

pub returns : goal.returns
unfolding is_id
returns c = c.starts_with.ensures.value ∙ marked-by _ (λ x y. refl) 73 68 refl refl c.args.s.now
