-- `validate_path` meets its contract: each answer is a law on how the path begins.
-- Assumes nothing.
use mathlib.Core.Path.{ap, ◌∙◌}
use Rattle.std.specs.declared.result.Result.TheVariants.{Ok}
use Rattle.prefixes.specs.Prefixes.{words_of}
use Rattle.path_steps.specs.Steps.{kind_of}
use Rattle.path_walk.proofs.Begins.{path-descent-alone, path-descent}
use Rattle.path_walk.proofs.validate_path.Goals as goal

pub returns-then-is_blank : goal.returns-then-is_blank
returns-then-is_blank c =
    path-descent-alone (kind_of c.args.kind) (words_of c.args.prefixes.now) c.args.s.now c.path_begin.result c.path_begin.ensures c.in-Some.rest (c.in_ok-rest.was ∙ ap Ok c.in-Some.is) c.is_blank.result c.is_blank.ensures c.if-is_blank.true

pub returns : goal.returns
returns c =
    c.steps-2.ensures ∙ path-descent (kind_of c.args.kind) (words_of c.args.prefixes.now) c.args.s.now c.path_begin.result c.path_begin.ensures c.in-Some.rest (c.in_ok-rest.was ∙ ap Ok c.in-Some.is) c.is_blank.result c.is_blank.ensures c.if-is_blank.false
