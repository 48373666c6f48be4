-- `report_noted` meets its contract: when places are noted the table is one of places still.
-- Assumes nothing.
use Rattle.finishing.proofs.report_noted.Goals as goal

pub invariant_of-noted : goal.invariant_of-noted
invariant_of-noted c = record { noted = ∣ c.note_places.ensures.noted c.requires ∣₁ }
