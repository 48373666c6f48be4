-- `alternatives` meets its contract: the alternative at hand has a reason, or those behind it have the reason that all of them have.
-- Assumes nothing.
use mathlib.Core.Path.{◌∙◌}
use Rattle.std.proofs.Common.{rules, tests}
use Rattle.std.proofs.lemmas.Result.{err_from_is_err_and}
use Rattle.prefixes.specs.Prefixes.{words_of}
use Rattle.path_steps.specs.Steps.{kind_of}
use Rattle.path_walk.proofs.Pieces.{left_none, left-some}
use Rattle.path_walk.proofs.Whole.{alternatives-fail, alternatives-on, alternatives-end}
use Rattle.path_walk.proofs.alternatives.Goals as goal

pub loop-one-preserved : goal.loop-one-preserved
loop-one-preserved c =
    let k = kind_of c.args.kind in
    let ds = words_of c.args.prefixes.now in
    let e = left-some 124 _ c.loop-one.one-iterator c.next.new.self c.in-Some.one (λ x b q k. search (rules, tests)) c.in-Some.ensures.steps in
    alternatives-on k ds c.in-Some.one.now _ _ e c.in_ok-alternative.ensures ∙ c.loop-one.invariant

pub returns-in_err-alternative : goal.returns-in_err-alternative
returns-in_err-alternative c =
    let k = kind_of c.args.kind in
    let ds = words_of c.args.prefixes.now in
    let e = left-some 124 _ c.loop-one.one-iterator c.next.new.self c.in-Some.one (λ x b q k. search (rules, tests)) c.in-Some.ensures.steps in
    let p = err_from_is_err_and c.from_residual.result c.from_residual.ensures.1 in
    rw (p.1, p.2) (alternatives-fail k ds c.in-Some.one.now _ _ e _ c.in_err-alternative.ensures ∙ c.loop-one.invariant)

pub returns : goal.returns
returns c =
    let k = kind_of c.args.kind in
    let ds = words_of c.args.prefixes.now in
    alternatives-end k ds _ (left_none 124 c.loop-one.one-iterator c.in-None.ensures.steps.0) ∙ c.loop-one.invariant
