-- `walk_body` meets its contract: each return by a law of its own.
-- Assumes nothing.
use Rattle.record_walk.proofs.Framing.{mark-is}
use Rattle.records.specs.Records.{read_body}
use Rattle.record_walk.proofs.Framed.walk_body.Goals as goal

pub returns-in-Id : goal.returns-in-Id
unfolding read_body
returns-in-Id c = mark-is c.args.self.rec.now c.args.m _ c.in-Id.is c.walk_id.result c.walk_id.ensures

pub returns-in-Ns : goal.returns-in-Ns
unfolding read_body
returns-in-Ns c = mark-is c.args.self.rec.now c.args.m _ c.in-Ns.is c.walk_ns.result c.walk_ns.ensures

pub returns-in-Es : goal.returns-in-Es
unfolding read_body
returns-in-Es c = mark-is c.args.self.rec.now c.args.m _ c.in-Es.is c.walk_es.result c.walk_es.ensures

pub returns-in-Ee : goal.returns-in-Ee
unfolding read_body
returns-in-Ee c = mark-is c.args.self.rec.now c.args.m _ c.in-Ee.is c.walk_ee.result c.walk_ee.ensures
