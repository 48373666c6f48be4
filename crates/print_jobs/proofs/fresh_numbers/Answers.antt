-- `fresh_numbers` meets its contract: one job begun after the other; behind them the places stay empty.
-- Assumes nothing.
use native.Mathlib.Omega.{arith}
use Rattle.print_jobs.proofs.Writing.{begin-none, begin-on, begin-all}
use Rattle.print_jobs.proofs.fresh_numbers.Goals as goal

pub loop-k-init : goal.loop-k-init
loop-k-init c = begin-none c.args.total c.args.count c.args.terms.now

pub loop-k-preserved : goal.loop-k-preserved
loop-k-preserved c = begin-on c.args.total c.args.count c.args.terms.now c.loop-k.a c.loop-k.k c.loop-k.invariant (omega arith) c.requires _ _ c.lent_number.ensures c.lent_number-in-loop-k.ensures _ c.start_at.ensures

pub returns : goal.returns
returns c = begin-all c.args.total c.args.count c.args.terms.now c.loop-k.a c.loop-k.k c.loop-k.invariant (omega arith)
