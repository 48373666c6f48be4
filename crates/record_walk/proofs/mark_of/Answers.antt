-- `mark_of` meets its contract: the two bytes are those of the definition.
-- Assumes nothing.
use Rattle.std.proofs.Common.{arith}
use Rattle.std.proofs.lemmas.Bool.Decides.{nat_tests}
use Rattle.records.specs.Records.{mark_of}
use Rattle.record_walk.proofs.mark_of.Goals as goal

pub returns-in-73-eq68 : goal.returns-in-73-eq68
unfolding mark_of
returns-in-73-eq68 c = grind (arith, nat_tests)

pub returns-in-78-eq83 : goal.returns-in-78-eq83
unfolding mark_of
returns-in-78-eq83 c = grind (arith, nat_tests)

pub returns-in-69-eq83 : goal.returns-in-69-eq83
unfolding mark_of
returns-in-69-eq83 c = grind (arith, nat_tests)

pub returns-in-69-eq69 : goal.returns-in-69-eq69
unfolding mark_of
returns-in-69-eq69 c = grind (arith, nat_tests)

pub returns-in-70-eq73 : goal.returns-in-70-eq73
unfolding mark_of
returns-in-70-eq73 c = grind (arith, nat_tests)

pub returns-in_default : goal.returns-in_default
unfolding mark_of
returns-in_default c = grind (arith, nat_tests)

pub returns-in_default-2 : goal.returns-in_default-2
unfolding mark_of
returns-in_default-2 c = grind (arith, nat_tests)

pub returns-in_default-3 : goal.returns-in_default-3
unfolding mark_of
returns-in_default-3 c = grind (arith, nat_tests)

pub returns-in_default-4 : goal.returns-in_default-4
unfolding mark_of
returns-in_default-4 c = grind (arith, nat_tests)

pub returns-in_default-5 : goal.returns-in_default-5
unfolding mark_of
returns-in_default-5 c = grind (arith, nat_tests)
