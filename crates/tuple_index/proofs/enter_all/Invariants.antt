-- `enter_all` meets its contract: one record after the other, until one is not entered.
-- Assumes nothing.
use Rattle.std.proofs.Common.{◌+◌, ◌-◌, length}
use Rattle.tuple_index.specs.Covers.{Advances}
use Rattle.tuple_index.proofs.enter_all.Given as goal

abbrev pub invariant-loop-after : goal.invariant-loop-after
invariant-loop-after l = Advances l.initial.h.next l.initial.h.count l.initial.slots l.used l.h.next l.h.count l.slots

abbrev pub decreases-loop-after : goal.decreases-loop-after
decreases-loop-after l = length l.used + 1 - l.h.next
