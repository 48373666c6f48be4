-- `has` meets its contract: a number of 32 or more is past the bits; else the bit stands lowest behind the shift.
-- Assumes nothing.
use Rattle.std.proofs.Common.{rules}
use Rattle.output_stores.proofs.Masks.{past-mask}
use Rattle.output_stores.specs.Stores.{in_mask}
use borrow.Author.Tests.{lt-leb}
use mathlib.Core.Path.{sym}
use native.Mathlib.Omega.{arith}
use Rattle.output_stores.proofs.has.Goals as goal

pub returns-then-constraint-le31 : goal.returns-then-constraint-le31
unfolding in_mask
returns-then-constraint-le31 c = search rules

pub returns-else-constraint-le31 : goal.returns-else-constraint-le31
returns-else-constraint-le31 c =
    let args = c.args in
    rw (lt-leb args.constraint 31 c.if-constraint-le31.false) (sym (past-mask args.mask args.constraint (omega arith) (omega arith)))
