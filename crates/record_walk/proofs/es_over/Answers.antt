-- `es_over` meets its contract: the chain is that of the definition.
-- Assumes nothing.
use Rattle.record_walk.proofs.Judging.{es-over}
use Rattle.std.proofs.Common.{arith}
use Rattle.std.proofs.lemmas.Bool.Decides.{nat_tests}
use Rattle.record_walk.proofs.es_over.Goals as goal

pub returns-then-es-gt255-2 : goal.returns-then-es-gt255-2
returns-then-es-gt255-2 c = grind (arith, nat_tests, es-over)

pub returns-else-es-gt255-2 : goal.returns-else-es-gt255-2
returns-else-es-gt255-2 c = grind (arith, nat_tests, es-over)
