-- `check_id` meets its contract: the rows are those of the definition, by the first that holds.
-- Assumes nothing.
use Rattle.record_walk.proofs.Judging.{utf8-row, byte-row, over-row, no_row, id-byte}
use Rattle.std.proofs.Common.{arith}
use Rattle.std.proofs.lemmas.Bool.Decides.{nat_tests}
use Rattle.record_walk.proofs.check_id.Goals as goal

pub returns-then-id_not_utf8 : goal.returns-then-id_not_utf8
returns-then-id_not_utf8 c = utf8-row _ _ (cc)

pub returns-then-id-gt2 : goal.returns-then-id-gt2
returns-then-id-gt2 c = byte-row _ _ (cc) (grind (arith, nat_tests, id-byte))

pub returns-then-id_over : goal.returns-then-id_over
returns-then-id_over c = over-row _ _ (cc) (grind (arith, nat_tests, id-byte)) (cc)

pub returns : goal.returns
returns c = record { says = no_row _ (cc) (grind (arith, nat_tests, id-byte)) (cc); inside = c.requires }
