-- The event that made each tuple: that of the happening by which it was kept.
-- Assumes nothing.
use Rattle.std.specs.Prelude.{ℕ, ◌-◌, length, replicate, List, [], ◌∷◌, ◌++◌}
use Rattle.tree.specs.Tree.{Item, failed, finished}
use Rattle.tree.specs.Judge.{Out, judge}

unfoldable pub event_of : Item → ℕ
event_of (failed e c t) = e
event_of (finished e s cs) = e

-- how many tuples it keeps: one, or none
unfoldable pub kept_by : Out → Item → ℕ
kept_by o i = length (judge o i).tuples - length o.tuples

-- of the happenings one after another, behind what has been put out
unfoldable pub origins_of : Out → List Item → List ℕ
origins_of o [] = []
origins_of o (i ∷ is) = replicate (kept_by o i) (event_of i) ++ origins_of (judge o i) is
