-- `raise` meets its contract: past the numbers and at the limit all stays as it is.
-- Assumes nothing.
use Rattle.counting.proofs.Raising.{raise-past, raise-full, raise-one}
use Rattle.counting.proofs.raise.Goals.{else-place-totals-via-then-place-totals+else-totals-place-lt32000000, else-place-totals-via-else-place-totals}
use Rattle.counting.proofs.raise.Goals as goal

pub returns-then-totals-place-lt32000000 : goal.returns-then-totals-place-lt32000000
returns-then-totals-place-lt32000000 c = raise-one c.args.totals.now c.args.place c.if-totals-place-lt32000000.true

pub returns-else-place-totals : goal.returns-else-place-totals
returns-else-place-totals c =
    elim c.else-place-totals.branch [
      | else-place-totals-via-then-place-totals+else-totals-place-lt32000000 w ↦ raise-full c.args.totals.now c.args.place w.if-totals-place-lt32000000.false
      | else-place-totals-via-else-place-totals w ↦ raise-past c.args.totals.now c.args.place w.if-place-totals.false
    ]
