-- `run_frames` meets its contract: frame after frame, all is as those taken left it, and the tuples so far are marked. The measure is how many bytes are left.
-- Assumes nothing.
use mathlib.Core.Path.{sym, ◌∙◌}
use Rattle.session.proofs.Running.{so-far-end, so-far-refused, so_far_more, less-left}
use Rattle.session.proofs.run_frames.Goals as goal

pub returns-then-not-is_taken : goal.returns-then-not-is_taken
returns-then-not-is_taken c =
    let a = c.args in
    let l = c.loop-frame in
    let took = c.take_record-d in
    so-far-refused a.n a.list a.buffer.now a.defs.now a.tuples.now a.reports.now a.paths.now a.names.now a.cells.now a.marks.now l.numbers l.scopes l.bytes l.rest.now l.defs l.tuples l.reports l.paths l.names l.cells l.marks l.invariant c.in-Some.frame.now c.in-Some.behind.now c.in-Some.ensures took.result took.new.defs took.new.tuples took.new.reports took.new.paths took.new.names took.new.cells took.ensures (sym c.if-not-is_taken.true ∙ c.is_taken.ensures) took.auto.paths

pub loop-frame-smaller : goal.loop-frame-smaller
loop-frame-smaller c =
    let a = c.args in
    let l = c.loop-frame in
    less-left a.n a.list a.buffer.now a.defs.now a.tuples.now a.reports.now a.paths.now a.names.now a.cells.now a.marks.now l.numbers l.scopes l.bytes l.rest.now l.defs l.tuples l.reports l.paths l.names l.cells l.marks l.invariant c.in-Some.frame.now c.in-Some.behind.now c.in-Some.ensures

pub loop-frame-preserved : goal.loop-frame-preserved
loop-frame-preserved c =
    let a = c.args in
    let l = c.loop-frame in
    let took = c.take_record-d in
    so_far_more a.n a.list a.buffer.now a.defs.now a.tuples.now a.reports.now a.paths.now a.names.now a.cells.now a.marks.now l.numbers l.scopes l.bytes l.rest.now l.defs l.tuples l.reports l.paths l.names l.cells l.marks l.invariant c.in-Some.frame.now c.in-Some.behind.now c.in-Some.ensures took.result took.new.defs took.new.tuples took.new.reports took.new.paths took.new.names took.new.cells took.ensures (sym c.if-not-is_taken.false ∙ c.is_taken.ensures) took.auto.defs took.auto.tuples took.auto.reports took.auto.paths took.auto.names took.auto.cells _ c.mark_new.ensures

pub returns : goal.returns
returns c =
    let a = c.args in
    let l = c.loop-frame in
    so-far-end a.n a.list a.buffer.now a.defs.now a.tuples.now a.reports.now a.paths.now a.names.now a.cells.now a.marks.now l.numbers l.scopes l.bytes l.rest.now l.defs l.tuples l.reports l.paths l.names l.cells l.marks l.invariant c.in_default.ensures
