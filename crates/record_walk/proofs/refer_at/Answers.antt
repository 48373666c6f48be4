-- `refer_at` meets its contract: each return by a law of its own.
-- Assumes nothing.
use Rattle.std.proofs.Common.{rules}
use Rattle.record_walk.proofs.Members.{refer-some, refer-none}
use Rattle.record_walk.proofs.refer_at.Goals as goal

-- src/lib.rt:406:9
pub returns-then-flag-eq1 : goal.returns-then-flag-eq1
returns-then-flag-eq1 c = let a = c.args in refer-some a.s.now a.flag a.at c.text_at.result c.if-flag-eq1.true c.text_at.ensures

-- src/lib.rt:402:1
pub returns : goal.returns
returns c = let a = c.args in search (rules, refer-none a.s.now a.flag a.at c.if-flag-eq1.false)
