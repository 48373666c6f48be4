-- `put_bytes` meets its contract: where the bytes fit they are copied one after the other, and where they do not there is
-- no room.
-- Assumes nothing.
use Rattle.numbers.proofs.Copies.{Copied}
use Rattle.numbers.proofs.put_bytes.Given as goal

abbrev pub invariant-loop-i : goal.invariant-loop-i
invariant-loop-i l = Copied l.initial.store l.at l.bytes l.store l.i
