-- `write_sixes` meets its contract. The invariant: the reports of the places passed are written.
-- Assumes nothing.
use lib.ListN.{take}
use Rattle.start_pass.proofs.Walked.{Walked}
use Rattle.start_writes.specs.Writes.{Sixes}
use Rattle.start_writes.proofs.write_sixes.Given as goal

abbrev pub invariant-loop-j : goal.invariant-loop-j
invariant-loop-j l =
    let it = l.j-iterator in
    Walked l.numbers it.iter.n it.count it.iter.iter.rest.now × Sixes l.initial.reports l.used (take it.count l.numbers) l.mask l.event l.at l.reports
