-- `short_at` meets its contract: by the first byte, and the bytes that it counts.
-- Assumes nothing.
use Rattle.matching.proofs.Tests.{short-none, short-read}
use Rattle.matching.proofs.short_at.Goals as goal

pub returns-in_err-size : goal.returns-in_err-size
returns-in_err-size c = rw c.from_residual.ensures (short-none c.args.s.now c.in_err-size.ensures.cases)

pub returns : goal.returns
returns c =
    let q = c.in_ok-size in
    short-read c.args.s.now q.rest.now q.field-0-0.now c.from.result q.ensures.cases.0 c.from.ensures c.split_at_checked.result c.split_at_checked.ensures.cases
