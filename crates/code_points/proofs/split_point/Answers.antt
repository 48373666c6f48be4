-- `split_point` meets its contract: an ASCII byte is the code point that `char_at` finds there, and what stands behind it is decoded on.
-- Assumes nothing.
use Rattle.std.proofs.Common.{arith, ◌≡◌, ◌∷◌, drop}
use Rattle.std.proofs.lemmas.Grind.{common_steps}
use Rattle.code_points.proofs.Fronts.{front-none, front_on, front-ascii}
use Rattle.code_points.proofs.split_point.Goals as goal

pub returns-in_err-b : goal.returns-in_err-b
returns-in_err-b c = rw c.from_residual.ensures (front-none c.args.s.now c.in_err-b.ensures.cases)

pub returns-then-b-lt128 : goal.returns-then-b-lt128
returns-then-b-lt128 c =
    let s : c.args.s.now ≡ c.in_ok-b.field-0-0.now ∷ c.in_ok-b.behind.now = grind (arith, common_steps) in
    rw c.from.ensures (front-ascii c.args.s.now c.in_ok-b.field-0-0.now c.in_ok-b.behind.now s c.if-b-lt128.true)

pub returns : goal.returns
returns c =
    let d : c.unwrap_or.result.now ≡ drop c.char_at-c.result.size c.args.s.now = grind (arith, common_steps) in
    front_on c.args.s.now c.char_at-c.result c.unwrap_or.result.now c.char_at-c.ensures (grind (arith, common_steps)) d
