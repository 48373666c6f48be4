-- `slots_for` meets its contract.
-- Assumes nothing.
use Rattle.std.proofs.Common.{arith}
use Rattle.std.proofs.lemmas.Grind.{common_steps}
use Rattle.tuple_index.specs.Covers.{slots_for}
use Rattle.tuple_index.proofs.slots_for.Goals as goal

pub returns : goal.returns
unfolding slots_for
returns c = grind (arith, common_steps)
