-- `is_bound_again` meets its contract: the tests are those of the definition.
-- Assumes nothing.
use Rattle.std.proofs.Common.{arith}
use Rattle.std.proofs.lemmas.Bool.Decides.{nat_tests}
use Rattle.definition_store.specs.Store.{bound_again}
use Rattle.definition_store.proofs.is_bound_again.Goals as goal

pub returns-then-target-eq0 : goal.returns-then-target-eq0
unfolding bound_again
returns-then-target-eq0 c = grind (arith, nat_tests)

pub returns-else-target-eq0 : goal.returns-else-target-eq0
unfolding bound_again
returns-else-target-eq0 c = grind (arith, nat_tests)
