-- `prefix_at` meets its contract: a law for each way out.
-- Assumes nothing.
use Rattle.matching.proofs.Tests.{prefix-none, prefix-plain, prefix-cut, prefix-there}
use Rattle.matching.proofs.prefix_at.Goals as goal

pub returns-in_err-flag : goal.returns-in_err-flag
returns-in_err-flag c = rw c.from_residual.ensures (prefix-none c.args.s.now c.in_err-flag.ensures.cases)

pub returns-then-flag-eq0 : goal.returns-then-flag-eq0
returns-then-flag-eq0 c =
    let q = c.in_ok-flag in
    prefix-plain c.args.s.now q.rest q.field-0-0.now q.ensures.cases.0 c.if-flag-eq0.true

pub returns-in_err-prefix : goal.returns-in_err-prefix
returns-in_err-prefix c =
    let q = c.in_ok-flag in
    rw c.from_residual-in_err-prefix.ensures (prefix-cut c.args.s.now q.rest q.field-0-0.now q.ensures.cases.0 c.if-flag-eq0.false c.in_err-prefix.ensures)

pub returns : goal.returns
returns c =
    let q = c.in_ok-flag in
    prefix-there c.args.s.now q.rest q.field-0-0.now q.ensures.cases.0 c.if-flag-eq0.false (c.in_ok-prefix.prefix, c.in_ok-prefix.behind) c.in_ok-prefix.ensures
