-- `texts_behind` meets its contract: one text after the other, as long as each is whole.
-- Assumes nothing.
use Rattle.std.proofs.Common.{◌≡◌, ◌<◌, ◌≤◌, ◌+◌, ◌-◌, ap, ◌∙◌, arith, length, drop}
use Rattle.std.proofs.lemmas.Grind.{common_steps}
use Rattle.numbers.specs.Numbers.{two}
use Rattle.tuples.specs.Tuples.{left_by}
use Rattle.tuples.proofs.Texts.{text-cut, texts-passed, text-passed}
use Rattle.tuples.proofs.texts_behind.Goals as goal

pub returns-then-rest-lt2 : goal.returns-then-rest-lt2
returns-then-rest-lt2 c =
    let l = c.loop-passed in
    text-cut c.args.s.now c.args.count l.rest.now (c.args.count - l.passed) l.invariant (omega arith) (omega arith)

pub returns-in_err-rest : goal.returns-in_err-rest
returns-in_err-rest c =
    let l = c.loop-passed in
    let n : length l.rest.now < 2 + two l.rest.now 0 = grind (arith, common_steps) in
    ap left_by c.from_residual.ensures ∙ text-cut c.args.s.now c.args.count l.rest.now (c.args.count - l.passed) l.invariant (omega arith) n

pub loop-passed-preserved : goal.loop-passed-preserved
loop-passed-preserved c =
    let l = c.loop-passed in
    let n : 2 + two l.rest.now 0 ≤ length l.rest.now = grind (arith, common_steps) in
    let e : c.in_ok-rest.rest.now ≡ drop (2 + two l.rest.now 0) l.rest.now = grind (arith, common_steps) in
    text-passed c.args.s.now c.args.count l.rest.now (c.args.count - l.passed) l.invariant (omega arith) _ (omega arith) c.in_ok-rest.rest.now n e

pub returns : goal.returns
returns c =
    let l = c.loop-passed in
    texts-passed c.args.s.now c.args.count l.rest.now (c.args.count - l.passed) l.invariant (omega arith)
