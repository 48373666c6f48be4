-- `read_name` meets its contract: by whether the first character starts a name.
-- Assumes nothing.
use mathlib.Core.Path.{sym, ◌∙◌}
use Rattle.tokens.proofs.Runs.{name-no_start, name-run}
use Rattle.tokens.proofs.read_name.Goals as goal

pub returns-then-not-name_start : goal.returns-then-not-name_start
returns-then-not-name_start c = name-no_start c.args.s.now (sym c.name_start.ensures ∙ c.if-not-name_start.true)

pub returns : goal.returns
returns c =
    c.ok_or.ensures.value ∙ name-run c.args.s.now (sym c.name_start.ensures ∙ c.if-not-name_start.false) c.read_run.result c.read_run.ensures
