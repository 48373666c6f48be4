-- `lacks_target` meets its contract: the tests are those of the definition.
-- Assumes nothing.
use Rattle.std.proofs.Common.{arith}
use Rattle.std.proofs.lemmas.Bool.Decides.{nat_tests}
use Rattle.definition_store.specs.Store.{lacks_target}
use Rattle.definition_store.proofs.lacks_target.Goals as goal

pub returns-then-target-eq0 : goal.returns-then-target-eq0
unfolding lacks_target
returns-then-target-eq0 c = grind (arith, nat_tests)

pub returns-then-t-eq0 : goal.returns-then-t-eq0
unfolding lacks_target
returns-then-t-eq0 c = grind (arith, nat_tests)

pub returns : goal.returns
unfolding lacks_target
returns c = grind (arith, nat_tests)
