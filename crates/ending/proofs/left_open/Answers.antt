-- `left_open` meets its contract: what `position` finds of the open scopes, or how many they are.
-- Assumes nothing.
use mathlib.Core.Path.{◌≡◌}
use Rattle.std.proofs.Common.{rules, tests}
use Rattle.std.proofs.lemmas.Iterator.{YieldsList-from_slice}
use Rattle.std.proofs.lemmas.Iterator.Search.{position_from_yields_List}
use Rattle.std.specs.Prelude.{position}
use Rattle.open_scopes.specs.OpenScopes.{open_of}
use Rattle.ending.proofs.Closing.{at-depth, first-left}
use Rattle.ending.proofs.left_open.Goals as goal

pub returns : goal.returns
returns c =
    let depth = c.args.depth in
    let l = open_of c.args.scopes in
    let e : c.position-first.result ≡ position (at-depth depth) l =
    position_from_yields_List (at-depth depth) _ _ _ c.position-first.ensures.ran (YieldsList-from_slice l (cc)) (λ x b q k. search (rules, tests)) in
    first-left depth l c.position-first.result c.count.result c.unwrap_or.result e c.count.ensures c.unwrap_or.ensures
