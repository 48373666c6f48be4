-- `report_all` meets its contract. The invariant: with the reports of what is left behind those written, all are written.
-- Assumes nothing.
use Rattle.std.proofs.Common.{rules, arith, ◌≡◌}
use Rattle.std.specs.Iterator.Adapters.{enumerate_source, enumerate_count}
use Rattle.session_spec.specs.Definitions.{frame}
use Rattle.output_stores.specs.Stores.{standing}
use Rattle.frames.proofs.Walks.{standing_fits}
use Rattle.finishing.proofs.Walking.{write-first, write-end, write-on}
use Rattle.finishing.proofs.report_all.Goals as goal

pub loop-before-init : goal.loop-before-init
loop-before-init c =
    let a = c.args in
    let i = c.into_iter-before-iterator in
    let z : enumerate_count i.result ≡ 0 = search rules in
    write-first a.t.now.refs a.t.now.used.now a.event a.reports.now a.at _ (search rules) _ z

-- there are no more records than bytes
pub loop-before-init-derived : goal.loop-before-init-derived
loop-before-init-derived c = grind (arith, standing_fits)

pub loop-before-preserved : goal.loop-before-preserved
loop-before-preserved c =
    let a = c.args in
    let l = c.loop-before in
    let s = c.in-Some.ensures.steps in
    let r = c.report_lacking-end in
    write-on a.t.now.refs a.t.now.used.now a.event a.reports.now a.at l.reports (standing frame (enumerate_source l.before-iterator).0.now) (enumerate_count l.before-iterator) l.end l.invariant
    c.in-Some.front.now _ s.0 _ s.1 _ s.2 r.result r.new.reports r.ensures

pub returns : goal.returns
returns c =
    let a = c.args in
    let l = c.loop-before in
    write-end a.t.now.refs a.t.now.used.now a.event a.reports.now a.at l.reports (standing frame (enumerate_source l.before-iterator).0.now) (enumerate_count l.before-iterator) l.end l.invariant
    c.in-None.ensures.steps.0.0
