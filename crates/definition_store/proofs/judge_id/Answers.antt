-- `judge_id` meets its contract by its one test.
-- Assumes nothing.
use Rattle.definition_store.proofs.Judging.{id-full, id-good}
use Rattle.definition_store.proofs.judge_id.Goals as goal

pub returns-then-t-ge32 : goal.returns-then-t-ge32
returns-then-t-ge32 c = id-full c.args.t c.if-t-ge32.true

pub returns : goal.returns
returns c = id-good c.args.t c.if-t-ge32.false
