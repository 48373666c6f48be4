-- `next` meets its contract: no text is asked for, or none stands at the place, or it is the first of those that are left.
-- Assumes nothing.
use native.Mathlib.Omega.{arith}
use Rattle.record_walk.proofs.Members.{no-texts-asked, no-text-there, text_first, text-ends, cut_at, goes}
use Rattle.record_walk.proofs.TextsIterator.next.Goals as goal

pub returns-in_err-left-clause-steps : goal.returns-in_err-left-clause-steps
returns-in_err-left-clause-steps c =
    let t = c.args.self.now in
    let e = no-texts-asked t.rec.now t.at t.left c.in_err-left.ensures in
    rw c.from_residual.ensures (e, e)

pub returns-in_err-text-clause-steps : goal.returns-in_err-text-clause-steps
returns-in_err-text-clause-steps c =
    let t = c.args.self.now in
    let e = no-text-there t.rec.now t.at t.left c.in_err-text.ensures in
    rw c.from_residual-in_err-text.ensures (e, e)

pub overflow_add-self : goal.overflow_add-self
overflow_add-self c = let t = c.args.self.now in omega (arith, text-ends t.rec.now t.at c.in_ok-text.text c.in_ok-text.ensures)

pub overflow_add-result : goal.overflow_add-result
overflow_add-result c = let t = c.args.self.now in omega (arith, text-ends t.rec.now t.at c.in_ok-text.text c.in_ok-text.ensures)

pub slice_bounds-result-end : goal.slice_bounds-result-end
slice_bounds-result-end c = let t = c.args.self.now in omega (arith, text-ends t.rec.now t.at c.in_ok-text.text c.in_ok-text.ensures)

pub returns-clause-steps : goal.returns-clause-steps
returns-clause-steps c =
    let t = c.args.self.now in
    let l = c.in_ok-left.ensures in
    rw (cut_at t.rec.now c.in_ok-text.text, l.1) (text_first t.rec.now t.at t.left c.in_ok-text.text c.in_ok-text.ensures l.0)

pub returns-clause-goes : goal.returns-clause-goes
returns-clause-goes c =
    let e = returns-clause-steps c in
    record { on = λ h. (tt, tt, goes _ _ _ e); keeps = tt; rests = λ h. tt }
