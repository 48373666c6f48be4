-- `seek_slot` meets its contract: from the first slot of the number on.
-- Assumes nothing.
use Rattle.std.proofs.Common.{refl, ap, ◌∙◌, rules}
use Rattle.lists.specs.Answers.{given}
use Rattle.tuple_index.specs.Covers.{passing}
use Rattle.tuple_index.proofs.Words.{seek-none, seek-some, seek-fits}
use Rattle.tuple_index.proofs.seek_slot.Goals as goal

pub returns-in_err-passed : goal.returns-in_err-passed
returns-in_err-passed c =
    let a = c.args in
    ap given c.from_residual.ensures
    ∙ seek-none (passing a.used.now a.sought.now) a.slots.now a.sought.now.hash _ c.first_slot-start.result refl c.first_slot-start.ensures.start c.in_err-passed.ensures

pub overflow_add-result : goal.overflow_add-result
overflow_add-result c =
    let a = c.args in
    let k = seek-fits (passing a.used.now a.sought.now) a.slots.now a.sought.now.hash _ c.first_slot-start.result refl c.first_slot-start.ensures.start c.in_ok-passed.passed c.in_ok-passed.ensures in
    search rules

pub returns : goal.returns
returns c =
    let a = c.args in
    seek-some (passing a.used.now a.sought.now) a.slots.now a.sought.now.hash _ c.first_slot-start.result refl c.first_slot-start.ensures.start c.in_ok-passed.passed c.in_ok-passed.ensures
