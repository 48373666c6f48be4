-- `validate_identity_xpath` meets its contract: X1 for white space alone, and else the reason of the alternatives.
-- Assumes nothing.
use mathlib.Core.Path.{sym, ◌∙◌}
use Rattle.prefixes.specs.Prefixes.{words_of}
use Rattle.path_steps.specs.Steps.{kind_of}
use Rattle.path_walk.proofs.Whole.{reason-blank, reason-alternatives}
use Rattle.path_walk.proofs.validate_identity_xpath.Goals as goal

pub returns-then-is_blank : goal.returns-then-is_blank
returns-then-is_blank c =
    let args = c.args in
    let is-blank = c.is_blank in
    let if1 = c.if-is_blank in
    reason-blank (kind_of args.kind) (words_of args.prefixes.now) args.s.now (sym if1.true ∙ is-blank.ensures)

pub returns : goal.returns
returns c =
    let args = c.args in
    let is-blank = c.is_blank in
    let if1 = c.if-is_blank in
    let alternatives = c.alternatives in
    alternatives.ensures ∙ reason-alternatives (kind_of args.kind) (words_of args.prefixes.now) args.s.now (sym if1.false ∙ is-blank.ensures)
