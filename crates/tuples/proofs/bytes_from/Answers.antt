-- `bytes_from` meets its contract: one TU after the other, as long as one is there.
-- Assumes nothing.
use Rattle.std.proofs.Common.{◌-◌, ap, ◌∙◌, arith}
use Rattle.tuples.specs.Tuples.{left_by}
use Rattle.tuples.proofs.Walking.{tuples-passed, none_from, tuple-passed}
use Rattle.tuples.proofs.bytes_from.Goals as goal

pub returns-in_err-rest : goal.returns-in_err-rest
returns-in_err-rest c =
    let a = c.args in
    let l = c.loop-ahead in
    ap left_by c.from_residual.ensures ∙ none_from a.used.now a.count l.rest.now (a.count - l.ahead) l.invariant (omega arith) c.in_err-rest.ensures

pub loop-ahead-preserved : goal.loop-ahead-preserved
loop-ahead-preserved c =
    let a = c.args in
    let l = c.loop-ahead in
    tuple-passed a.used.now a.count l.rest.now (a.count - l.ahead) l.invariant (omega arith) c.in_ok-rest.rest.now c.in_ok-rest.ensures _ (omega arith)

pub returns : goal.returns
returns c =
    let a = c.args in
    let l = c.loop-ahead in
    tuples-passed a.used.now a.count l.rest.now (a.count - l.ahead) l.invariant (omega arith)
