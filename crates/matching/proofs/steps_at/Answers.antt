-- `steps_at` meets its contract. The loop's invariant: what is seen of the steps that are left, from the names that are left, is what is seen of all; a step
-- more is a name more.
-- Assumes nothing.
use Prim.Native.Nat.{◌+◌, ◌-◌}
use mathlib.Core.Bool.{◌&&◌}
use mathlib.Core.Path.{◌≡◌, sym, ◌∙◌}
use Rattle.paths.specs.Matching.{fits}
use Rattle.paths.specs.Reading.{resolved}
use Rattle.bindings.specs.Bindings.{bound_by}
use Rattle.matching.specs.Walks.{name_at, test_of}
use Rattle.matching.proofs.Walking.{steps-cut, steps_on, steps-end}
use Rattle.matching.proofs.steps_at.Goals.{then-fit, else-fit}
use Rattle.matching.proofs.steps_at.Goals as goal

pub returns-in_err-t : goal.returns-in_err-t
returns-in_err-t c =
    let a = c.args in
    let l = c.loop-i in
    rw c.from_residual.ensures
    (sym l.invariant ∙ steps-cut (bound_by a.b.now) a.names.now l.rest.now l.fit l.i (a.from + c.from.result) c.loop-i-test.true c.in_err-t.ensures)

pub loop-i-preserved : goal.loop-i-preserved
loop-i-preserved c =
    let a = c.args in
    let l = c.loop-i in
    let t = c.in_ok-t in
    let fits-too : c.if-fit.fit ≡ (l.fit && fits (resolved (bound_by a.b.now) (test_of t.t)) (name_at l.i a.names.now)) =
    elim c.if-fit.branch [
      | then-fit w ↦ rw w.if-fit.true (w.fit-is ∙ w.test_fits-fit.ensures)
      | else-fit w ↦ rw w.if-fit.false (w.fit-is ∙ w.if-fit.false)
    ] in
    sym (steps_on (bound_by a.b.now) a.names.now l.rest.now l.fit l.i (a.from + c.from.result) c.loop-i-test.true t.t t.behind t.ensures c.if-fit.fit fits-too)
    ∙ l.invariant

pub returns : goal.returns
returns c =
    let a = c.args in
    let l = c.loop-i in
    sym l.invariant ∙ steps-end (bound_by a.b.now) a.names.now l.rest.now l.fit l.i (a.from + c.from.result) c.loop-i-test.false
