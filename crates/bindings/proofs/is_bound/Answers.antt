-- `is_bound` meets its contract: a URI is found where some record binds the prefix.
-- Assumes nothing.
use mathlib.Core.Path.{◌∙◌}
use Rattle.bindings.proofs.Finding.{bound-somewhere}
use Rattle.bindings.proofs.is_bound.Goals as goal

pub returns : goal.returns
returns c = c.is_some.ensures ∙ bound-somewhere c.args.s.now c.args.target c.args.prefix.now c.look_up.result c.look_up.ensures
