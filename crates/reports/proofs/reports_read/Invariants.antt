-- `reports_read` meets its contract: one report after the other, to the very end.
-- Assumes nothing.
use Rattle.reports.specs.Reports.{all_defined}
use Rattle.output_stores.specs.Stores.{reads_as}
use Rattle.session_spec.specs.Layout.{read_rp}
use mathlib.Core.Path.{◌≡◌}
use lib.ListN.{length}
use Rattle.reports.proofs.reports_read.Given as goal

abbrev pub invariant-loop-report : goal.invariant-loop-report
invariant-loop-report l = reads_as read_rp (all_defined l.constraints) l.rest ≡ reads_as read_rp (all_defined l.constraints) l.used

abbrev pub decreases-loop-report : goal.decreases-loop-report
decreases-loop-report l = length l.rest
