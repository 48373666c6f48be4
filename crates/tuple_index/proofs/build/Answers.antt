-- `build` meets its contract: a table of free slots, into which all is entered.
-- Assumes nothing.
use Rattle.tuple_index.proofs.Tables.{empty-then-entered}
use Rattle.tuple_index.proofs.build.Goals as goal

pub returns : goal.returns
returns c = let a = c.args in empty-then-entered a.table.now c.empty_for.new.table c.enter_new.new.table a.used.now c.empty_for.ensures c.enter_new.ensures
