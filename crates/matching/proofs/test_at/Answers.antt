-- `test_at` meets its contract: a law for each way out.
-- Assumes nothing.
use Rattle.matching.proofs.Tests.{test-cut, test-no-local, test-there}
use Rattle.matching.proofs.test_at.Goals as goal

pub returns-in_err-prefix : goal.returns-in_err-prefix
returns-in_err-prefix c = rw c.from_residual.ensures (test-cut c.args.s.now c.in_err-prefix.ensures)

pub returns-in_err-local : goal.returns-in_err-local
returns-in_err-local c =
    let p = c.in_ok-prefix in
    rw c.from_residual-in_err-local.ensures (test-no-local c.args.s.now p.prefix p.rest p.ensures c.in_err-local.ensures)

pub returns : goal.returns
returns c =
    let p = c.in_ok-prefix in
    let l = c.in_ok-local in
    test-there c.args.s.now p.prefix p.rest p.ensures (l.local, l.behind) l.ensures
