-- `walk_fi` meets its contract: each return by a law of its own.
-- Assumes nothing.
use Rattle.record_walk.proofs.Bodies.{fi-over, fi-walks}
use Rattle.record_walk.proofs.Framed.walk_fi.Goals as goal

pub returns-then-self-gt4 : goal.returns-then-self-gt4
returns-then-self-gt4 c = fi-over c.args.self.rec.now c.if-self-gt4.true

pub returns : goal.returns
returns c = fi-walks c.args.self.rec.now c.if-self-gt4.false
