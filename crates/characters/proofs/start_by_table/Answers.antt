-- `start_by_table` meets its contract: the code's table is `start_ranges`, which is in order, and the scan answers for it.
-- Assumes nothing.
use Rattle.characters.specs.Ranges.{flat}
use Rattle.characters.specs.Names.{start_ranges, name_start}
use Rattle.characters.proofs.Tables.{start-ordered}
use Rattle.characters.proofs.start_by_table.Goals as goal

pub in_ranges-requires : goal.in_ranges-requires
unfolding start_ranges flat
in_ranges-requires c = start-ordered

pub returns : goal.returns
unfolding name_start start_ranges flat
returns c = c.in_ranges.ensures
