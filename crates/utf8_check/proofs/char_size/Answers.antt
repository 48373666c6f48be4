-- `char_size` meets its contract: each way it returns is a law of proofs/Sizes.antt.
-- Assumes nothing.
use native.Mathlib.Omega.{arith}
use mathlib.Core.Path.{◌∙◌}
use Rattle.utf8_check.proofs.Sizes.{size-empty, size-ascii, none_tail, size-whole, char-some}
use Rattle.utf8_check.proofs.char_size.Goals as goal

pub returns-in_err-b : goal.returns-in_err-b
returns-in_err-b c = c.from_residual.ensures ∙ size-empty c.args.s.now (omega (arith, c.in_err-b.ensures.item))

pub returns-then-b-lt128 : goal.returns-then-b-lt128
returns-then-b-lt128 c = size-ascii c.args.s.now (λ e. omega (arith, c.in_ok-b.ensures.item)) (grind (arith, c.in_ok-b.ensures.item.3.1))

pub returns-then-b-lt192 : goal.returns-then-b-lt192
returns-then-b-lt192 c = none_tail c.args.s.now (λ e. omega (arith, c.in_ok-b.ensures.item)) (grind (arith, c.in_ok-b.ensures.item.3.1)) (grind (arith, c.in_ok-b.ensures.item.3.1))

pub is_whole-requires : goal.is_whole-requires
is_whole-requires c = char-some _ _ c.char_at-c.ensures

pub returns : goal.returns
returns c = c.then_some.ensures ∙ size-whole c.args.s.now (λ e. omega (arith, c.in_ok-b.ensures.item)) c.char_at-c.result c.char_at-c.ensures (grind (arith, c.in_ok-b.ensures.item.3.1)) c.is_whole.result c.is_whole.ensures
