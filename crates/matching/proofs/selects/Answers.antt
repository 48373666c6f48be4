-- `selects` meets its contract: of an alternative it is asked whether its path matches.
-- Assumes nothing.
use Rattle.std.proofs.Common.{rules, ◌∙◌}
use Rattle.bindings.specs.Bindings.{bound_by}
use Rattle.matching.specs.Matched.{names_along}
use Rattle.matching.proofs.Paths.{selected}
use Rattle.matching.proofs.selects.Goals as goal

pub returns : goal.returns
returns c =
    let args = c.args in
    c.any_alternative.ensures (λ m e. m) (λ a r p. search rules) ∙ selected (bound_by args.b.now) (names_along args.on.now) args.area.now
