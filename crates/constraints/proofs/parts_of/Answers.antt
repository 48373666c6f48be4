-- `parts_of` meets its contract: the law of all parts, with what was read of each.
-- Assumes nothing.
use Rattle.constraints.proofs.Places.{parts_whole}
use Rattle.constraints.proofs.parts_of.Goals as goal

pub returns : goal.returns
returns c =
    let kind = c.byte_at in
    let n = c.text_at-n in
    let flag = c.byte_at-flag in
    let f = c.refer_at-f in
    let t = c.text_at-t in
    let count = c.counted_at-c in
    rw c.then_some.ensures (parts_whole c.args.own.now kind.result flag.result n.result f.result t.result count.result kind.ensures n.ensures flag.ensures f.ensures t.ensures count.ensures)
