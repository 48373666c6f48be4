-- `note_answers` meets its contract: a table of free slots, in which all is noted.
-- Assumes nothing.
use Rattle.answer_index.proofs.Tables.{empty-then-noted}
use Rattle.answer_index.proofs.note_answers.Goals as goal

pub shape_of-table : goal.shape_of-table
shape_of-table c = let a = c.args in (empty-then-noted a.classes.now a.table.now c.empty_for.new.table c.note_behind.new.table a.used.now c.empty_for.ensures c.note_behind.ensures).sized

pub returns : goal.returns
returns c = let a = c.args in empty-then-noted a.classes.now a.table.now c.empty_for.new.table c.note_behind.new.table a.used.now c.empty_for.ensures c.note_behind.ensures
