-- `first_with` meets its contract: the first cell with the state, of so many.
-- Assumes nothing.
use Rattle.std.proofs.Common.{arith, rules, tests}
use Rattle.std.proofs.lemmas.Iterator.{YieldsList-from_range}
use Rattle.std.proofs.lemmas.Iterator.Search.{position_from_yields_List}
use Rattle.cells.specs.Cells.{state_number}
use Rattle.outcomes.proofs.Walking.{same-number, has-state, first-is}
use Rattle.outcomes.proofs.first_with.Goals as goal

pub returns : goal.returns
returns c =
    let a = c.args in
    first-is (state_number a.state) a.cells.now a.n c.position.result
    (position_from_yields_List (has-state (state_number a.state) a.cells.now) _ _ c.position.result c.position.ensures.ran (YieldsList-from_range 0 a.n a.n (search rules) (omega arith)) (λ x b q k. search (rules, tests, same-number)))
