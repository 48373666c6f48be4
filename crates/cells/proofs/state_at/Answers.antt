-- `state_at` meets its contract. Each test that fails says that no cell stands there.
-- Assumes nothing.
use native.Mathlib.Omega.{arith}
use Rattle.cells.proofs.Places.{state-short, state-long, state-past, state-is}
use Rattle.cells.proofs.state_at.Goals.{then-area-lt128-via-then-area-lt128, then-area-lt128-via-else-area-lt128+then-area-at, then-area-lt128-via-else-area-lt128+else-area-at+then-area-at-gt126}
use Rattle.cells.proofs.state_at.Goals as goal

pub returns-then-area-lt128 : goal.returns-then-area-lt128
returns-then-area-lt128 c =
    let a = c.args in
    elim c.then-area-lt128.branch [
      | then-area-lt128-via-then-area-lt128 w ↦ state-short a.area.now a.at (omega arith)
      | then-area-lt128-via-else-area-lt128+then-area-at w ↦ state-short a.area.now a.at (omega arith)
      | then-area-lt128-via-else-area-lt128+else-area-at+then-area-at-gt126 w ↦ state-long a.area.now a.at (omega arith) w.if-area-at-gt126.true
    ]

pub returns-in-1 : goal.returns-in-1
returns-in-1 c = state-is c.args.area.now c.args.at (omega arith) c.if-area-at-gt126.false 1 (omega arith) c.in-1.is

pub returns-in-2 : goal.returns-in-2
returns-in-2 c = state-is c.args.area.now c.args.at (omega arith) c.if-area-at-gt126.false 2 (omega arith) c.in-2.is

pub returns-in-3 : goal.returns-in-3
returns-in-3 c = state-is c.args.area.now c.args.at (omega arith) c.if-area-at-gt126.false 3 (omega arith) c.in-3.is

pub returns-in-4 : goal.returns-in-4
returns-in-4 c = state-is c.args.area.now c.args.at (omega arith) c.if-area-at-gt126.false 4 (omega arith) c.in-4.is

pub returns-in_default : goal.returns-in_default
returns-in_default c =
    state-past c.args.area.now c.args.at (omega arith) c.if-area-at-gt126.false (λ e. omega arith) (λ e. omega arith) (λ e. omega arith) (λ e. omega arith)
