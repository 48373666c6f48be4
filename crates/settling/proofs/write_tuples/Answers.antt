-- `write_tuples` meets its contract: one selection after the other, and each turn appends at most one TU.
-- Assumes nothing.
use Rattle.settlements.specs.Finished.{settlement_of}
use Rattle.settling.proofs.Appending.{tuples-first, tuples-on, tuples-end}
use Rattle.settling.proofs.write_tuples.Goals as goal

pub loop-j-init : goal.loop-j-init
loop-j-init c = let a = c.args in tuples-first a.s.now a.g.now.cells.now a.g.now.first a.g.now.n a.g.now.counts.now a.g.now.simple a.g.now.key.now a.g.now.scopes a.g.now.defs.now a.store.now a.used

pub loop-j-preserved : goal.loop-j-preserved
loop-j-preserved c =
    let a = c.args in
    let l = c.loop-j in
    let w = c.write_tuple-next in
    let o = c.settled_at-one in
    let m = c.min-last in
    tuples-on a.s.now a.g.now.cells.now a.g.now.first a.g.now.n a.g.now.counts.now a.g.now.simple a.g.now.key.now a.g.now.scopes a.g.now.defs.now a.store.now a.used l.store l.next l.j l.invariant m.result (settlement_of o.result) w.result w.new.store m.ensures c.loop-j-test.true o.ensures w.auto.store w.ensures

pub returns : goal.returns
returns c =
    let a = c.args in
    let l = c.loop-j in
    let m = c.min-last in
    tuples-end a.s.now a.g.now.cells.now a.g.now.first a.g.now.n a.g.now.counts.now a.g.now.simple a.g.now.key.now a.g.now.scopes a.g.now.defs.now a.store.now a.used l.store l.next l.j l.invariant m.result m.ensures c.loop-j-test.false
