-- `reaches` meets its contract: of an alternative it is asked whether its path matches and where it ends.
-- Assumes nothing.
use Rattle.std.proofs.Common.{rules, ◌∙◌, ◌&&◌, Bool, cond, ap, ℕ}
use Rattle.bindings.specs.Bindings.{bound_by}
use Rattle.matching.specs.Matched.{names_along}
use Rattle.matching.specs.Walks.{ends}
use Rattle.matching.proofs.Paths.{behind-if, reached}
use Rattle.matching.proofs.reaches.Goals as goal

pub returns : goal.returns
returns c =
    let args = c.args in
    let local = c.map-local.result in
    let seen = c.any_alternative.ensures (λ m e. ends e local && m) (λ a r p. search rules) in
    ap (λ (b : Bool). cond {A = ℕ} b 1 0) seen
    ∙ reached (bound_by args.b.now) (names_along args.on.now) args.area.now args.attribute local (behind-if _ args.attribute local (λ x y p. search rules) c.map-local.ensures.cases)
