-- `count_reports` meets its contract: one report after the other, as long as one is whole.
-- Assumes nothing.
use Rattle.std.proofs.Common.{◌≡◌}
use Rattle.std.specs.Slice.Iter.{chunks_exact_rest, chunks_exact_size}
use Rattle.counting.proofs.Raising.{Raising}
use Rattle.counting.specs.Places.{report_places}
use Rattle.counting.proofs.count_reports.Given as goal

abbrev pub invariant-loop-report : goal.invariant-loop-report
invariant-loop-report l =
    (chunks_exact_size l.report-iterator ≡ 18) × Raising l.initial.totals (report_places l.new) (report_places (chunks_exact_rest l.report-iterator)) l.totals
