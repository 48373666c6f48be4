-- `is_written` meets its contract: the definition says the same tests.
-- Assumes nothing.
use Rattle.std.proofs.Common.{arith, rules, tests}
use Prim.Native.Nat.{◌<◌}
use lib.ListN.{get_or}
use Rattle.std.proofs.lemmas.Iterator.{YieldsList-from_range}
use Rattle.std.proofs.lemmas.Iterator.Search.{all_from_yields_List}
use Rattle.selections.proofs.Written.{exact-at, written-tests}
use Rattle.selections.proofs.is_written.Goals as goal

pub returns-then-chunk-le7 : goal.returns-then-chunk-le7
returns-then-chunk-le7 c =
    let a = c.args in
    let low : get_or a.chunk.now 0 0 < 256 = omega (arith, c.type_inv.chunk 0) in
    let next : get_or a.chunk.now 128 0 < 256 = omega (arith, c.type_inv.chunk 128) in
    let all = all_from_yields_List (exact-at a.fields a.chunk.now) _ _ c.all.result c.all.ensures.ran (YieldsList-from_range 0 4 4 (search rules) (omega arith)) (λ x b q k. search (rules, tests)) in
    rw (written-tests a.fields a.chunk.now low next, ← all) (search rules)

pub returns-else-chunk-le7 : goal.returns-else-chunk-le7
returns-else-chunk-le7 c =
    let a = c.args in
    let low : get_or a.chunk.now 0 0 < 256 = omega (arith, c.type_inv.chunk 0) in
    let next : get_or a.chunk.now 128 0 < 256 = omega (arith, c.type_inv.chunk 128) in
    rw (written-tests a.fields a.chunk.now low next) (search rules)
