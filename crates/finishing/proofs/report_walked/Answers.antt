-- `report_walked` meets its contract: a table without entries is one of places.
-- Assumes nothing.
use Rattle.tuple_places.proofs.Places.{nothing-noted}
use Rattle.finishing.proofs.report_walked.Goals as goal

pub invariant_of-t : goal.invariant_of-t
invariant_of-t c = record { noted = ∣ nothing-noted c.args.used.now ∣₁ }
