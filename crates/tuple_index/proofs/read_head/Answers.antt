-- `read_head` meets its contract: three words, where there are four and the first says something.
-- Assumes nothing.
use Rattle.std.proofs.Common.{inl, inr}
use Rattle.tuple_index.proofs.Tables.{no-head, a-head}
use Rattle.tuple_index.proofs.read_head.Goals as goal

pub returns-in-len4-up : goal.returns-in-len4-up
returns-in-len4-up c = a-head c.args.table.now c.in-len4-up.len_at_least c.if-next-ne0.true

pub returns-in_default : goal.returns-in_default
returns-in_default c = no-head c.args.table.now (inl c.in_default.len_below)

pub returns-in_default-2 : goal.returns-in_default-2
returns-in_default-2 c = no-head c.args.table.now (inr c.if-next-ne0.false)
