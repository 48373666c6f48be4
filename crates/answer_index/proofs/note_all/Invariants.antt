-- `note_all` meets its contract: one record after the other, until one is not noted.
-- Assumes nothing.
use Prim.Native.Nat.{◌+◌, ◌-◌}
use lib.ListN.{length}
use Rattle.answer_index.specs.Answers.{Moves}
use Rattle.answer_index.proofs.note_all.Given as goal

abbrev pub invariant-loop-after : goal.invariant-loop-after
invariant-loop-after l = Moves l.classes l.next l.initial.slots l.used l.at l.slots

abbrev pub decreases-loop-after : goal.decreases-loop-after
decreases-loop-after l = length l.used + 1 - l.at
