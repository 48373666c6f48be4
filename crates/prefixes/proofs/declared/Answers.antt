-- `declared` meets its contract: `xml` stands before the words.
-- Assumes nothing.
use mathlib.Core.Path.{◌∙◌}
use Rattle.prefixes.specs.Prefixes.{words_of}
use Rattle.prefixes.proofs.Words.{xml-declared, other-declared}
use Rattle.prefixes.proofs.declared.Goals as goal

pub returns-then-spelled : goal.returns-then-spelled
returns-then-spelled c =
    c.if-spelled.true ∙ xml-declared c.args.p.now (words_of c.args.prefixes.now) c.spelled.result c.spelled.ensures c.if-spelled.true

pub returns-else-spelled : goal.returns-else-spelled
returns-else-spelled c =
    c.listed.ensures ∙ other-declared c.args.p.now (words_of c.args.prefixes.now) c.spelled.result c.spelled.ensures c.if-spelled.false
