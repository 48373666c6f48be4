-- `id_over` meets its contract: the chain is that of the definition.
-- Assumes nothing.
use Rattle.record_walk.proofs.Judging.{id-over}
use Rattle.std.proofs.Common.{arith}
use Rattle.std.proofs.lemmas.Bool.Decides.{nat_tests}
use Rattle.record_walk.proofs.id_over.Goals as goal

pub returns-then-path_over : goal.returns-then-path_over
returns-then-path_over c = grind (arith, nat_tests, id-over)

pub returns-else-path_over : goal.returns-else-path_over
returns-else-path_over c = grind (arith, nat_tests, id-over)
