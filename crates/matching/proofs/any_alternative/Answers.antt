-- `any_alternative` meets its contract. The loop's invariant: one of the alternatives that are left passes the test exactly if one of
-- all does.
-- Assumes nothing.
use Prim.Native.Nat.{◌-◌}
use native.Mathlib.Omega.{arith}
use mathlib.Core.Path.{sym, ◌∙◌}
use Rattle.bindings.specs.Bindings.{bound_by}
use Rattle.matching.specs.Matched.{names_along}
use Rattle.matching.proofs.Paths.{seen-nothing, seen-starts, seen-ends, seen-cut, seen-hit, seen-on}
use Rattle.matching.proofs.any_alternative.Goals as goal

pub returns-in_default : goal.returns-in_default
returns-in_default g c =
    let a = c.args in
    λ t h. seen-nothing t (bound_by a.b.now) (names_along a.on.now) a.area.now c.in_default.ensures.cases

pub loop-i-init : goal.loop-i-init
loop-i-init g c =
    let a = c.args in
    let q = c.in-Some in
    λ t h. seen-starts t (bound_by a.b.now) (names_along a.on.now) a.area.now q.field-0-0.now q.rest.now q.ensures.cases.0

pub returns-in_default-alternative_at : goal.returns-in_default-alternative_at
returns-in_default-alternative_at g c =
    let a = c.args in
    let l = c.loop-i in
    λ t h. sym (seen-cut t (bound_by a.b.now) (names_along a.on.now) l.rest.now l._i c.in-Some.field-0-0.now c.loop-i-test.true c.in_default-alternative_at.ensures) ∙ l.invariant t h

pub returns-then-test : goal.returns-then-test
returns-then-test g c =
    let a = c.args in
    let l = c.loop-i in
    let alt = c.in-Some-alternative_at in
    λ t h. sym (seen-hit t (bound_by a.b.now) (names_along a.on.now) l.rest.now l._i c.in-Some.field-0-0.now c.loop-i-test.true alt.a alt.behind alt.ensures c.test.result (h alt.a c.test.result c.test.ensures) c.if-test.true) ∙ l.invariant t h

pub loop-i-preserved : goal.loop-i-preserved
loop-i-preserved g c =
    let a = c.args in
    let l = c.loop-i in
    let alt = c.in-Some-alternative_at in
    λ t h. sym (seen-on t (bound_by a.b.now) (names_along a.on.now) l.rest.now l._i c.in-Some.field-0-0.now c.loop-i-test.true alt.a alt.behind alt.ensures c.test.result (h alt.a c.test.result c.test.ensures) c.if-test.false) ∙ l.invariant t h

pub returns : goal.returns
returns g c =
    let a = c.args in
    let l = c.loop-i in
    λ t h. sym (seen-ends t (bound_by a.b.now) (names_along a.on.now) (c.in-Some.field-0-0.now - l._i) l.rest.now (omega (arith, c.loop-i-test.false))) ∙ l.invariant t h
