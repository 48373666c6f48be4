-- `check_path` meets its contract: a refusal is the answer, and else what is said of the path's points.
-- Assumes nothing.
use mathlib.Core.Option.{none}
use mathlib.Core.Path.{sym}
use Rattle.std.proofs.lemmas.Result.{err_from_is_err_and}
use Rattle.checker.proofs.Refusals.{turned-kind, answer-given}
use Rattle.checker.proofs.check_path.Goals as goal

pub returns-in_err-named : goal.returns-in_err-named
returns-in_err-named c =
    let p = err_from_is_err_and c.from_residual.result c.from_residual.ensures.1 in
    let n = c.in_err-named.ensures in
    rw (p.1, p.2, n.1) (sym (turned-kind c.args.kind c.args.path.now c.args.prefixes.now n.0))

pub returns-in_err-validate : goal.returns-in_err-validate
returns-in_err-validate c =
    let n = c.in_ok-named in
    let t = c.in_ok-turn_back.ensures c.args.kind n.ensures.0 in
    let p = err_from_is_err_and c.from_residual-in_err-validate.result c.from_residual-in_err-validate.ensures.1 in
    rw (p.1, p.2) (answer-given c.args.kind c.args.path.now c.args.prefixes.now t.0 t.1 n.named n.ensures.1 _ c.in_err-validate.ensures)

pub returns : goal.returns
returns c =
    let n = c.in_ok-named in
    let t = c.in_ok-turn_back.ensures c.args.kind n.ensures.0 in
    answer-given c.args.kind c.args.path.now c.args.prefixes.now t.0 t.1 n.named n.ensures.1 none c.in_ok-validate.ensures
