-- `check_ns` meets its contract: the rows are those of the definition, by the first that holds.
-- Assumes nothing.
use Rattle.record_walk.proofs.Judging.{utf8-row, byte-row, over-row, no_row, ns-utf8, ns-byte, ns-over}
use Rattle.std.proofs.Common.{arith}
use Rattle.std.proofs.lemmas.Bool.Decides.{nat_tests}
use Rattle.record_walk.proofs.check_ns.Goals as goal

pub returns-then-not-is_text : goal.returns-then-not-is_text
returns-then-not-is_text c = utf8-row _ _ (grind (arith, nat_tests, ns-utf8))

pub returns-then-ns-gt5 : goal.returns-then-ns-gt5
returns-then-ns-gt5 c = byte-row _ _ (grind (arith, nat_tests, ns-utf8)) (grind (arith, nat_tests, ns-byte))

pub returns-then-ns-gt255 : goal.returns-then-ns-gt255
returns-then-ns-gt255 c =
    over-row _ _ (grind (arith, nat_tests, ns-utf8)) (grind (arith, nat_tests, ns-byte)) (grind (arith, nat_tests, ns-over))

pub returns : goal.returns
returns c =
    record {
      says = no_row _ (grind (arith, nat_tests, ns-utf8)) (grind (arith, nat_tests, ns-byte)) (grind (arith, nat_tests, ns-over));
      inside = c.requires;
    }
