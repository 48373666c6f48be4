-- `is_child` meets its contract: the bytes of the word are its code points.
-- Assumes nothing.
use Rattle.path_steps.proofs.Steps.{child-word}
use Rattle.path_steps.proofs.is_child.Goals as goal

pub returns : goal.returns
returns c = child-word c.args.name.now c.spelled.result c.spelled.ensures
