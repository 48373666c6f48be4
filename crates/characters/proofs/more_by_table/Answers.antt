-- `more_by_table` meets its contract: the code's table is `more_ranges`, which is in order, and the scan answers for it.
-- Assumes nothing.
use Rattle.characters.specs.Ranges.{flat}
use Rattle.characters.specs.Names.{more_ranges}
use Rattle.characters.proofs.Tables.{more-ordered}
use Rattle.characters.proofs.more_by_table.Goals as goal

pub in_ranges-requires : goal.in_ranges-requires
unfolding more_ranges flat
in_ranges-requires c = more-ordered

pub returns : goal.returns
unfolding more_ranges flat
returns c = c.in_ranges.ensures
