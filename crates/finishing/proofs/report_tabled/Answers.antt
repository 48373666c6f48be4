-- `report_tabled` meets its contract: the table has no entry at first.
-- Assumes nothing.
use Rattle.tuple_places.proofs.Places.{zeros-noted}
use Rattle.finishing.proofs.report_tabled.Goals as goal

pub report_noted-requires : goal.report_noted-requires
report_noted-requires c = zeros-noted 65536 c.args.size c.args.used.now
