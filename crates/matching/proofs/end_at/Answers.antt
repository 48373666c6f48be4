-- `end_at` meets its contract: a law for each way out.
-- Assumes nothing.
use Rattle.matching.proofs.Walking.{end-none, end-element, end-cut, end-attribute}
use Rattle.matching.proofs.end_at.Goals as goal

pub returns-in_err-flag : goal.returns-in_err-flag
returns-in_err-flag c = rw c.from_residual.ensures (end-none c.args.s.now c.in_err-flag.ensures.cases)

pub returns-then-flag-eq0 : goal.returns-then-flag-eq0
returns-then-flag-eq0 c =
    let q = c.in_ok-flag in
    end-element c.args.s.now q.rest q.field-0-0.now q.ensures.cases.0 c.if-flag-eq0.true

pub returns-in_err-t : goal.returns-in_err-t
returns-in_err-t c =
    let q = c.in_ok-flag in
    rw c.from_residual-in_err-t.ensures (end-cut c.args.s.now q.rest q.field-0-0.now q.ensures.cases.0 c.if-flag-eq0.false c.in_err-t.ensures)

pub returns : goal.returns
returns c =
    let q = c.in_ok-flag in
    end-attribute c.args.s.now q.rest q.field-0-0.now q.ensures.cases.0 c.if-flag-eq0.false c.in_ok-t.t c.in_ok-t.behind c.in_ok-t.ensures
