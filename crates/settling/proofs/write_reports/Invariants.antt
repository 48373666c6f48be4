-- `write_reports` meets its contract: one selection after the other, and each turn appends at most one report.
-- Assumes nothing.
use Rattle.settling.proofs.Appending.{ReportsSoFar}
use Rattle.settling.proofs.write_reports.Given as goal

abbrev pub invariant-loop-j : goal.invariant-loop-j
invariant-loop-j l =
    ReportsSoFar l.s l.g.cells.now l.g.first l.g.n l.g.scopes l.event l.initial.store l.used l.store l.at l.j
