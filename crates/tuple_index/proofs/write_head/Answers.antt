-- `write_head` meets its contract: three words at the front, where they fit.
-- Assumes nothing.
use Rattle.std.proofs.Common.{◌∷◌, [], sym, arith}
use Rattle.lists.proofs.Writes.{put-fits, put_full}
use Rattle.tuple_index.proofs.write_head.Goals as goal

pub returns-in-Some : goal.returns-in-Some
returns-in-Some c =
    let a = c.args in
    sym (put-fits a.table.now 0 (a.head.next ∷ a.head.count ∷ a.head.entries ∷ []) (omega (arith, c.in-Some.ensures.cases.enough)))

pub returns-in_default : goal.returns-in_default
returns-in_default c =
    let a = c.args in
    sym (put_full a.table.now 0 (a.head.next ∷ a.head.count ∷ a.head.entries ∷ []) (omega (arith, c.in_default.ensures.cases)))
