-- `next` meets its contract: no attribute is asked for, or its name or its key is not there, or it is the first of those that are left.
-- Assumes nothing.
use Prim.Native.Nat.{◌+◌}
use native.Mathlib.Omega.{arith}
use Rattle.record_walk.proofs.Members.{no-attributes-asked, no-name-there, no-key-there, attribute_first, text-ends, cut_at, goes}
use Rattle.record_walk.proofs.AttributesIterator.next.Goals as goal

pub returns-in_err-left-clause-steps : goal.returns-in_err-left-clause-steps
returns-in_err-left-clause-steps c =
    let t = c.args.self.now in
    let e = no-attributes-asked t.rec.now t.at t.left c.in_err-left.ensures in
    rw c.from_residual.ensures (e, e)

pub returns-in_err-name-clause-steps : goal.returns-in_err-name-clause-steps
returns-in_err-name-clause-steps c =
    let t = c.args.self.now in
    let e = no-name-there t.rec.now t.at t.left c.in_err-name.ensures in
    rw c.from_residual-in_err-name.ensures (e, e)

pub overflow_add-name : goal.overflow_add-name
overflow_add-name c = let t = c.args.self.now in omega (arith, text-ends t.rec.now t.at c.in_ok-name.name c.in_ok-name.ensures)

pub returns-in_err-key-clause-steps : goal.returns-in_err-key-clause-steps
returns-in_err-key-clause-steps c =
    let t = c.args.self.now in
    let e = no-key-there t.rec.now t.at t.left c.in_ok-name.name c.in_ok-name.ensures c.in_err-key.ensures in
    rw c.from_residual-in_err-key.ensures (e, e)

pub overflow_add-self : goal.overflow_add-self
overflow_add-self c =
    let p = c.in_ok-name.name in
    omega (arith, text-ends c.args.self.now.rec.now (p.start + p.size) c.in_ok-key.key c.in_ok-key.ensures)

pub overflow_add-result : goal.overflow_add-result
overflow_add-result c = let t = c.args.self.now in omega (arith, text-ends t.rec.now t.at c.in_ok-name.name c.in_ok-name.ensures)

pub slice_bounds-result-end : goal.slice_bounds-result-end
slice_bounds-result-end c = let t = c.args.self.now in omega (arith, text-ends t.rec.now t.at c.in_ok-name.name c.in_ok-name.ensures)

pub overflow_add-result-2 : goal.overflow_add-result-2
overflow_add-result-2 c =
    let p = c.in_ok-name.name in
    omega (arith, text-ends c.args.self.now.rec.now (p.start + p.size) c.in_ok-key.key c.in_ok-key.ensures)

pub slice_bounds-result-end-2 : goal.slice_bounds-result-end-2
slice_bounds-result-end-2 c =
    let p = c.in_ok-name.name in
    omega (arith, text-ends c.args.self.now.rec.now (p.start + p.size) c.in_ok-key.key c.in_ok-key.ensures)

pub returns-clause-steps : goal.returns-clause-steps
returns-clause-steps c =
    let t = c.args.self.now in
    let l = c.in_ok-left.ensures in
    rw (cut_at t.rec.now c.in_ok-name.name, cut_at t.rec.now c.in_ok-key.key, l.1)
    (attribute_first t.rec.now t.at t.left c.in_ok-name.name c.in_ok-name.ensures c.in_ok-key.key c.in_ok-key.ensures l.0)

pub returns-clause-goes : goal.returns-clause-goes
returns-clause-goes c =
    let e = returns-clause-steps c in
    record { on = λ h. (tt, tt, goes _ _ _ e); keeps = tt; rests = λ h. tt }
