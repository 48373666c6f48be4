-- `next_frame` meets its contract: one law for each way to cut the frame off.
-- Assumes nothing.
use Rattle.std.proofs.Common.{rules}
use native.Mathlib.Omega.{arith}
use Rattle.calls.proofs.Buffers.{frame-short}
use Rattle.calls.proofs.Splits.{split-over, split-rest}
use Rattle.calls.proofs.next_frame.Goals as goal

pub returns-then-xs-lt4 : goal.returns-then-xs-lt4
returns-then-xs-lt4 c = frame-short _ (search rules)

pub returns-then-two_at-gt16384 : goal.returns-then-two_at-gt16384
returns-then-two_at-gt16384 c =
    split-over c.args.xs.now (omega (arith, c.if-xs-lt4.false)) (omega (arith, c.two_at.ensures, c.if-two_at-gt16384.true)) c.split_at.result c.split_at.ensures.front c.split_at.ensures.back

pub returns : goal.returns
returns c =
    split-rest c.args.xs.now (omega (arith, c.if-xs-lt4.false)) (omega (arith, c.two_at.ensures, c.if-two_at-gt16384.false)) c.split.result c.split.ensures.cuts
