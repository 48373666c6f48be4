-- `write_tuples` meets its contract: one selection after the other, and each turn appends at most one TU.
-- Assumes nothing.
use Rattle.settling.proofs.Appending.{TuplesSoFar}
use Rattle.settling.proofs.write_tuples.Given as goal

abbrev pub invariant-loop-j : goal.invariant-loop-j
invariant-loop-j l =
    TuplesSoFar l.s l.g.cells.now l.g.first l.g.n l.g.counts.now l.g.simple l.g.key.now l.g.scopes l.g.defs.now l.initial.store l.used l.store l.next l.j
