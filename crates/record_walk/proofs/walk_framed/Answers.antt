-- `walk_framed` meets its contract: each return by a law of its own.
-- Assumes nothing.
use mathlib.Core.Path.{◌∙◌}
use Rattle.record_walk.proofs.Framing.{cut_short, too-long, not-as-stated, as-stated}
use Rattle.record_places.specs.Checks.{mark_by}
use Rattle.record_walk.proofs.walk_framed.Goals as goal

-- src/lib.rt:646:9
pub returns-then-rec-lt4 : goal.returns-then-rec-lt4
returns-then-rec-lt4 c = let a = c.args in cut_short a.rec.now (mark_by a.m) c.if-rec-lt4.true

-- src/lib.rt:650:9
pub returns-then-stated-gt16384 : goal.returns-then-stated-gt16384
returns-then-stated-gt16384 c = let a = c.args in let n = c.from-stated in too-long a.rec.now (mark_by a.m) c.if-rec-lt4.false n.result (n.ensures ∙ c.two_at.ensures) c.if-stated-gt16384.true

-- src/lib.rt:653:9
pub returns-then-rec-stated : goal.returns-then-rec-stated
returns-then-rec-stated c = let a = c.args in let n = c.from-stated in not-as-stated a.rec.now (mark_by a.m) c.if-rec-lt4.false n.result (n.ensures ∙ c.two_at.ensures) c.if-stated-gt16384.false c.if-rec-stated.true

-- src/lib.rt:642:1
pub returns : goal.returns
returns c = let a = c.args in let n = c.from-stated in as-stated a.rec.now (mark_by a.m) c.if-rec-lt4.false n.result (n.ensures ∙ c.two_at.ensures) c.if-stated-gt16384.false c.if-rec-stated.false c.walk_body.result c.walk_body.ensures
