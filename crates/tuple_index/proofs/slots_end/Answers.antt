-- `slots_end` meets its contract.
-- Assumes nothing.
use Rattle.std.proofs.Common.{arith}
use Rattle.tuple_index.specs.Covers.{slots_end}
use Rattle.tuple_index.proofs.slots_end.Goals as goal

pub returns-in-Some : goal.returns-in-Some
unfolding slots_end
returns-in-Some c = omega (arith, c.min.ensures, c.in-Some.ensures.lookup.3.0, c.in-Some.ensures.lookup.3.1 0)

pub returns-in-None : goal.returns-in-None
unfolding slots_end
returns-in-None c = omega (arith, c.in-None.ensures.lookup.3)
