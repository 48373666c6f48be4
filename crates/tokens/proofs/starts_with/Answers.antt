-- `starts_with` meets its contract: the first character, where there is one, is compared.
-- Assumes nothing.
use mathlib.Core.Path.{refl, ◌∙◌}
use Rattle.tokens.proofs.Scanning.{begins-by}
use Rattle.tokens.proofs.starts_with.Goals as goal

pub returns : goal.returns
returns c = c.eq.ensures ∙ begins-by c.args.s.now c.args.c c.first.result c.first.ensures.value _ (λ x y. refl) _ refl
