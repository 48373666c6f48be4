-- `any_of` meets its contract: some selection is of the scope, or none of those that there are.
-- Assumes nothing.
use Prim.Native.Nat.{◌*◌}
use native.Mathlib.Omega.{arith}
use lib.Dec.{eqb}
use Rattle.std.proofs.Common.{rules, tests}
use Rattle.std.proofs.lemmas.Iterator.{YieldsList-from_range}
use Rattle.std.proofs.lemmas.Iterator.Search.{any_from_yields_List}
use Rattle.cells.specs.Cells.{scope_at}
use Rattle.element_hits.proofs.Belongs.{searched}
use Rattle.element_hits.proofs.any_of.Goals as goal

pub returns : goal.returns
returns c =
    let of = c.args.of.now in
    let m = c.min.result in
    searched of.place of.n of.cells.now m c.min.ensures c.any.result
    (any_from_yields_List (λ j. eqb (scope_at of.cells.now (512 * j)) of.place) _ _ c.any.result c.any.ensures.ran
    (YieldsList-from_range 0 m m (search rules) (omega arith)) (λ x b q k. search (rules, tests)))
