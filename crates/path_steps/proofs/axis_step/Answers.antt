-- `axis_step` meets its contract: a law for each way out.
-- Assumes nothing.
use mathlib.Core.Path.{refl}
use Rattle.std.proofs.lemmas.Result.{err_from_is_err_and}
use Rattle.tokens.specs.Places.{test_of}
use Rattle.prefixes.specs.Prefixes.{words_of}
use Rattle.path_steps.proofs.Steps.{undeclared, is_declared, child-undeclared, child-step, last-undeclared, last_step}
use Rattle.path_steps.proofs.axis_step.Goals as goal

pub returns-in_err-require_prefix : goal.returns-in_err-require_prefix
returns-in_err-require_prefix c =
    let p = err_from_is_err_and c.from_residual.result c.from_residual.ensures.1 in
    let d = undeclared _ c.require_prefix.result c.require_prefix.ensures _ c.in_err-require_prefix.was in
    rw (p.1, p.2, d.1)
    (child-undeclared c.args.kind (words_of c.args.prefixes.now) c.args.m (test_of c.args.t.name) c.args.t.behind.now c.in-Local.name c.in-Local.is
    c.is_child.result c.is_child.ensures c.if-is_child.true _ refl d.0)

pub returns-then-is_child : goal.returns-then-is_child
returns-then-is_child c =
    let d = is_declared _ c.require_prefix.result c.require_prefix.ensures _ c.in_ok-require_prefix.was in
    child-step c.args.kind (words_of c.args.prefixes.now) c.args.m (test_of c.args.t.name) c.args.t.behind.now c.in-Local.name c.in-Local.is
    c.is_child.result c.is_child.ensures c.if-is_child.true _ refl d

pub returns-in_err-require_prefix-2 : goal.returns-in_err-require_prefix-2
returns-in_err-require_prefix-2 c =
    let p = err_from_is_err_and c.from_residual-in_err-require_prefix-2.result c.from_residual-in_err-require_prefix-2.ensures.1 in
    let d = undeclared _ c.require_prefix-2.result c.require_prefix-2.ensures _ c.in_err-require_prefix-2.was in
    rw (p.1, p.2, d.1)
    (last-undeclared c.args.kind (words_of c.args.prefixes.now) c.args.m (test_of c.args.t.name) c.args.t.behind.now c.in-Local.name c.in-Local.is
    c.is_child.result c.is_child.ensures c.if-is_child.false c.is_attribute.result c.is_attribute.ensures c.if-not-is_attribute.false _ refl d.0)

pub returns : goal.returns
returns c =
    let d = is_declared _ c.require_prefix-2.result c.require_prefix-2.ensures _ c.in_ok-require_prefix-2.was in
    last_step c.args.kind (words_of c.args.prefixes.now) c.args.m (test_of c.args.t.name) c.args.t.behind.now c.in-Local.name c.in-Local.is
    c.is_child.result c.is_child.ensures c.if-is_child.false c.is_attribute.result c.is_attribute.ensures c.if-not-is_attribute.false _ refl d
