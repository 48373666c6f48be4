-- `behind_step` meets its contract: each answer is a law on the first token there.
-- Assumes nothing.
use mathlib.Core.Path.{ap, ◌∙◌}
use Rattle.std.specs.declared.result.Result.TheVariants.{Ok}
use Rattle.path_walk.proofs.Stepping.{behind-end, behind-fault, behind-slash, behind-other}
use Rattle.path_walk.proofs.behind_step.Goals as goal

pub returns-in_default : goal.returns-in_default
returns-in_default c = behind-fault c.args.s.now c.first_token.result c.first_token.ensures c.in_default.not-Ok

pub returns-in_default-first : goal.returns-in_default-first
returns-in_default-first c = behind-end c.args.s.now c.first_token.result c.first_token.ensures (c.in-Ok.is ∙ ap Ok c.in_default-first.is)

pub returns-in-Slash : goal.returns-in-Slash
returns-in-Slash c = behind-slash c.args.s.now c.first_token.result c.first_token.ensures c.in-Some.t (c.in-Ok.is ∙ ap Ok c.in-Some.is) c.in-Slash.is

pub returns-in_default-tok : goal.returns-in_default-tok
returns-in_default-tok c = behind-other c.args.s.now c.first_token.result c.first_token.ensures c.in-Some.t (c.in-Ok.is ∙ ap Ok c.in-Some.is) c.in_default-tok.not-Slash
