-- `store_find_tuple` meets its contract: 0 stands for no number.
-- Assumes nothing.
use Rattle.tuple_search.proofs.Searching.{number_found}
use Rattle.store_doors.proofs.store_find_tuple.Goals as goal

pub returns : goal.returns
returns c = number_found _ _ c.find_tuple.result _ c.find_tuple.ensures c.unwrap_or.ensures
