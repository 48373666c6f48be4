-- `make_tuple` meets its contract: key after key is appended to the array, which has room for four, and the head is put before them.
-- Assumes nothing.
use Rattle.tuple_search.proofs.Making.{Putting}
use Rattle.tuple_search.proofs.make_tuple.Given as goal

abbrev pub invariant-loop-i : goal.invariant-loop-i
invariant-loop-i l = Putting l.cells l.count l.bytes l.size l.i
