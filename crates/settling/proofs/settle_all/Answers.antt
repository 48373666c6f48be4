-- `settle_all` meets its contract: one selection after the other, and each turn remembers one more.
-- Assumes nothing.
use lib.ListN.{replicate}
use Rattle.settlements.specs.declared.Settled.TheVariants.{Nothing}
use mathlib.Core.Path.{refl}
use Rattle.settling.proofs.Turns.{walk_first, walk-on, walk_end}
use Rattle.settling.proofs.settle_all.Goals as goal

pub loop-j-init : goal.loop-j-init
loop-j-init c =
    let a = c.args in
    walk_first a.g.now.cells.now a.g.now.first a.g.now.n a.g.now.counts.now a.g.now.simple a.g.now.key.now a.g.now.scopes a.g.now.defs.now a.tuples.used.now a.tuples.marks.now (replicate 32 Nothing) refl

pub loop-j-preserved : goal.loop-j-preserved
loop-j-preserved c =
    let a = c.args in
    let l = c.loop-j in
    let s = c.settle_one-one in
    walk-on a.g.now.cells.now a.g.now.first a.g.now.n a.g.now.counts.now a.g.now.simple a.g.now.key.now a.g.now.scopes a.g.now.defs.now a.tuples.used.now a.tuples.marks.now l.each l.bytes l.reports l.j l.invariant c.min-last.result s.result c.report_or-reports.result c.min-last.ensures c.loop-j-test.true s.ensures c.report_or-reports.ensures

pub returns : goal.returns
returns c =
    let a = c.args in
    let l = c.loop-j in
    walk_end a.g.now.cells.now a.g.now.first a.g.now.n a.g.now.counts.now a.g.now.simple a.g.now.key.now a.g.now.scopes a.g.now.defs.now a.tuples.used.now a.tuples.marks.now l.each l.bytes l.reports l.j l.invariant c.min-last.result c.min-last.ensures c.loop-j-test.false
