-- `es_not_utf8` meets its contract: the chain is that of the definition.
-- Assumes nothing.
use Rattle.record_walk.proofs.Judging.{es-utf8}
use Rattle.std.proofs.Common.{arith}
use Rattle.std.proofs.lemmas.Bool.Decides.{nat_tests}
use Rattle.record_walk.proofs.es_not_utf8.Goals as goal

pub returns-then-not-is_text-2 : goal.returns-then-not-is_text-2
returns-then-not-is_text-2 c = grind (arith, nat_tests, es-utf8)

pub returns-else-not-is_text-2 : goal.returns-else-not-is_text-2
returns-else-not-is_text-2 c = grind (arith, nat_tests, es-utf8)
