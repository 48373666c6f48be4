-- `text_at` meets its contract: where a text stands it is read, and else none is.
-- Assumes nothing.
use native.Mathlib.Omega.{arith}
use Rattle.record_walk.proofs.Members.{text-none-at, text-at, text-ends}
use Rattle.record_walk.proofs.text_at.Goals as goal

pub returns-in-Some : goal.returns-in-Some
returns-in-Some c = text-at c.args.s.now c.args.at c.in-Some.text c.in-Some.ensures

pub returns-in-None : goal.returns-in-None
returns-in-None c = text-none-at c.args.s.now c.args.at c.in-None.ensures

pub overflow_add-result : goal.overflow_add-result
overflow_add-result c = omega (arith, text-ends c.args.s.now c.args.at c.in-Some.text c.in-Some.ensures)
