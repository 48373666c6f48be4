-- `put_tuple_head` meets its contract: the ten bytes are made first, and put one behind the other where there is room.
-- Assumes nothing.
use Rattle.std.proofs.Common.{ap, ◌∙◌}
use Rattle.lists.specs.Lists.{put}
use Rattle.tuple_search.proofs.Making.{head-made}
use Rattle.tuple_search.proofs.put_tuple_head.Goals as goal

pub returns : goal.returns
returns c =
    let a = c.args in
    c.append_bytes.ensures.leaves ∙ ap (put a.dst.now 0) (head-made a.size a.constraint a.scope a.count _ _ c.put_two.ensures c.put_four.ensures)
