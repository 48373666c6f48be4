-- `told` meets its contract: one report after the other, until one tells or there is none.
-- Assumes nothing.
use Rattle.reports.specs.Reports.{tells}
use Rattle.output_stores.specs.Stores.{standing}
use Rattle.session_spec.specs.Layout.{read_rp}
use Rattle.lists.specs.Lists.{any}
use mathlib.Core.Path.{◌≡◌}
use lib.ListN.{length}
use Rattle.reports.proofs.told.Given as goal

abbrev pub invariant-loop-report : goal.invariant-loop-report
invariant-loop-report l = any (tells l.named) (standing read_rp l.rest) ≡ any (tells l.named) (standing read_rp l.used)

abbrev pub decreases-loop-report : goal.decreases-loop-report
decreases-loop-report l = length l.rest
