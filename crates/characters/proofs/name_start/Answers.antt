-- `name_start` meets its contract: beyond ASCII by the table, and within it the ranges agree with the class, which is computed.
-- Assumes nothing.
use Rattle.std.proofs.Common.{arith}
use Rattle.std.proofs.lemmas.Bool.Decides.{nat_tests}
use Rattle.characters.proofs.Ascii.{start-ascii}
use Rattle.characters.proofs.name_start.Goals as goal

pub returns-in_default : goal.returns-in_default
returns-in_default c = let e = start-ascii c.args.c c.if-c-ge128.false in grind (arith, nat_tests)

pub returns-in_default-2 : goal.returns-in_default-2
returns-in_default-2 c = let e = start-ascii c.args.c c.if-c-ge128.false in grind (arith, nat_tests)

pub returns-in_default-3 : goal.returns-in_default-3
returns-in_default-3 c = let e = start-ascii c.args.c c.if-c-ge128.false in grind (arith, nat_tests)

pub returns-in-65-to-90 : goal.returns-in-65-to-90
returns-in-65-to-90 c = let e = start-ascii c.args.c c.if-c-ge128.false in grind (arith, nat_tests)

pub returns-in-65-to-90-2 : goal.returns-in-65-to-90-2
returns-in-65-to-90-2 c = let e = start-ascii c.args.c c.if-c-ge128.false in grind (arith, nat_tests)

pub returns-in-65-to-90-3 : goal.returns-in-65-to-90-3
returns-in-65-to-90-3 c = let e = start-ascii c.args.c c.if-c-ge128.false in grind (arith, nat_tests)
