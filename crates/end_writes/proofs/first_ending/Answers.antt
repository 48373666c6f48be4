-- `first_ending` meets its contract: the first place at the depth, or how many there are.
-- Assumes nothing.
use Rattle.std.proofs.Common.{arith, rules, tests, ap, ◌≡◌, ◌∙◌}
use Rattle.std.specs.Prelude.{min}
use Rattle.std.proofs.lemmas.Iterator.{YieldsList-from_range}
use Rattle.std.proofs.lemmas.Iterator.Search.{position_from_yields_List}
use Rattle.end_writes.specs.Staying.{deep_from, first_deep}
use Rattle.end_writes.proofs.Deep.{at-depth, first-is}
use Rattle.end_writes.proofs.first_ending.Goals as goal

pub returns : goal.returns
unfolding first_deep
returns c =
    let a = c.args in
    let last = c.min-last.result in
    let most : last ≡ min 32 a.n = omega arith in
    let found = position_from_yields_List (at-depth a.cells.now a.depth) _ _ c.position-first.result c.position-first.ensures.ran (YieldsList-from_range 0 last last (search rules) (omega arith)) (λ x b q k. search (rules, tests)) in
    c.unwrap_or.ensures ∙ first-is a.cells.now a.depth last c.position-first.result found ∙ ap (λ k. deep_from a.cells.now 0 k a.depth) most
