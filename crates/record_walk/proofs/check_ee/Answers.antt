-- `check_ee` meets its contract: the rows are those of the definition, by the first that holds.
-- Assumes nothing.
use Rattle.record_walk.proofs.Judging.{utf8-row, byte-row, over-row, no_row, ee-utf8, ee-byte, ee-over}
use Rattle.std.proofs.Common.{arith}
use Rattle.std.proofs.lemmas.Bool.Decides.{nat_tests}
use Rattle.record_walk.proofs.check_ee.Goals as goal

pub returns-then-not-is_text : goal.returns-then-not-is_text
returns-then-not-is_text c = utf8-row _ _ (grind (arith, nat_tests, ee-utf8))

pub returns-then-ee-gt2 : goal.returns-then-ee-gt2
returns-then-ee-gt2 c = byte-row _ _ (grind (arith, nat_tests, ee-utf8)) (grind (arith, nat_tests, ee-byte))

pub returns-then-ee-gt126 : goal.returns-then-ee-gt126
returns-then-ee-gt126 c =
    over-row _ _ (grind (arith, nat_tests, ee-utf8)) (grind (arith, nat_tests, ee-byte)) (grind (arith, nat_tests, ee-over))

pub returns : goal.returns
returns c =
    record {
      says = no_row _ (grind (arith, nat_tests, ee-utf8)) (grind (arith, nat_tests, ee-byte)) (grind (arith, nat_tests, ee-over));
      inside = c.requires;
    }
