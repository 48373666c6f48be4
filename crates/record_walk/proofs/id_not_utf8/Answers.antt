-- `id_not_utf8` meets its contract: the chain is that of the definition.
-- Assumes nothing.
use Rattle.record_walk.proofs.Judging.{id-utf8}
use Rattle.std.proofs.Common.{arith}
use Rattle.std.proofs.lemmas.Bool.Decides.{nat_tests}
use Rattle.record_walk.proofs.id_not_utf8.Goals as goal

pub returns-then-not-is_text-3 : goal.returns-then-not-is_text-3
returns-then-not-is_text-3 c = grind (arith, nat_tests, id-utf8)

pub returns-else-not-is_text-3 : goal.returns-else-not-is_text-3
returns-else-not-is_text-3 c = grind (arith, nat_tests, id-utf8)
