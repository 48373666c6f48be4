-- `settle_all` meets its contract: one selection after the other, and each turn remembers one more.
-- Assumes nothing.
use Rattle.settling.proofs.Turns.{SoFar}
use Rattle.settling.proofs.settle_all.Given as goal

abbrev pub invariant-loop-j : goal.invariant-loop-j
invariant-loop-j l =
    SoFar l.g.cells.now l.g.first l.g.n l.g.counts.now l.g.simple l.g.key.now l.g.scopes l.g.defs.now l.fn.tuples.used.now l.fn.tuples.marks.now l.each l.bytes l.reports l.j
