-- `count_tuples` meets its contract: one record after the other, until no whole one stands there.
-- Assumes nothing.
use Rattle.counting.proofs.Raising.{Raising}
use Rattle.counting.specs.Places.{tuple_places}
use Rattle.counting.proofs.count_tuples.Given as goal

abbrev pub invariant-loop-front : goal.invariant-loop-front
invariant-loop-front l = Raising l.initial.totals (tuple_places l.new) (tuple_places l.front-iterator.0.now) l.totals
