-- `record_lent` meets its contract. A list under sixteen records is refused as such a world is; else the promise of the
-- library's call on the sixteen at the front is the one over what is lent.
-- Assumes nothing.
use Rattle.std.proofs.Common.{rules, ◌≡◌, subst, length, List}
use mathlib.Core.Path.{refl}
use Rattle.open_scopes.specs.declared.Scope.{Scope}
use Rattle.calls.specs.Calls.{Called}
use Rattle.call_forms.specs.Lent.{Lent, lent}
use Rattle.call_forms.proofs.LentCalls.{recorded-short, recorded-long}
use Rattle.lent.proofs.record_lent.Goals as goal

pub returns-in_default : goal.returns-in_default
returns-in_default c =
    let a = c.args in
    recorded-short (lent a.s.now a.scopes.now a.defs.now a.tuples.now a.reports.now a.paths.now a.names.now a.cells.now) a.rec.now c.in_default.ensures.cases

pub returns : goal.returns
returns c =
    let a = c.args in
    let l : Lent = lent a.s.now a.scopes.now a.defs.now a.tuples.now a.reports.now a.paths.now a.names.now a.cells.now in
    let call = c.record_call-d in
    let n = call.new in
    let sized : length call.result.list ≡ 16 = search rules in
    let called = subst (λ (list : List Scope). Called a.s.now list a.rec.now a.defs.now a.tuples.now a.reports.now a.paths.now a.names.now a.cells.now call.result n.defs n.tuples n.reports n.paths n.names n.cells) c.in-Some.ensures.cases.same call.ensures in
    recorded-long l a.rec.now call.result n.defs n.tuples n.reports n.paths n.names n.cells _ sized called refl
