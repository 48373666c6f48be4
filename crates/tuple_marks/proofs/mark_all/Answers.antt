-- `mark_all` meets its contract: the records that are left say what is still to be marked.
-- Assumes nothing.
use Rattle.std.proofs.Common.{arith, ◌≡◌, drop}
use Rattle.std.proofs.lemmas.Grind.{common_steps}
use Rattle.session_spec.specs.Definitions.{frame}
use Rattle.output_stores.specs.Stores.{standing}
use Rattle.tuple_marks.proofs.Walking.{mark-end, mark_on}
use Rattle.tuple_marks.proofs.mark_all.Goals as goal

pub loop-front-preserved : goal.loop-front-preserved
loop-front-preserved c =
    let l = c.loop-front in
    let t : c.unwrap_or.result.now ≡ drop 5 c.in-Some.front.now = grind (arith, common_steps) in
    mark_on c.args.marks.now (standing frame c.args.used.now) l.marks (standing frame l.front-iterator.0.now) l.invariant _ _ c.in-Some.ensures.steps _ t _ c.mark.ensures

pub returns : goal.returns
returns c =
    let l = c.loop-front in
    mark-end c.args.marks.now (standing frame c.args.used.now) l.marks (standing frame l.front-iterator.0.now) l.invariant c.in-None.ensures.steps.0
