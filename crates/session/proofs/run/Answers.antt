-- `run` meets its contract: what is not well formed refuses the first frame, and the frames of what is are run.
-- Assumes nothing.
use mathlib.Core.Path.{sym, ◌∙◌}
use Rattle.session.proofs.Running.{unfit-none, unfit-first, found-runs}
use Rattle.session.proofs.run.Goals as goal

pub returns-in-Some : goal.returns-in-Some
returns-in-Some c =
    let a = c.args in
    unfit-first a.n a.list a.buffer.now a.defs.now a.tuples.now a.reports.now a.paths.now a.names.now a.cells.now (sym c.if-not-well_formed.true ∙ c.well_formed-2.ensures) _ _ c.in-Some.ensures

pub returns-in-None : goal.returns-in-None
returns-in-None c =
    let a = c.args in
    unfit-none a.n a.list a.buffer.now a.defs.now a.tuples.now a.reports.now a.paths.now a.names.now a.cells.now c.in-None.ensures

pub returns : goal.returns
returns c =
    let a = c.args in
    let ran = c.run_marked in
    found-runs a.n a.list a.buffer.now a.defs.now a.tuples.now a.reports.now a.paths.now a.names.now a.cells.now ran.result c.run_marked.new.defs c.run_marked.new.tuples c.run_marked.new.reports c.run_marked.new.paths c.run_marked.new.names c.run_marked.new.cells (sym c.if-not-well_formed.false ∙ c.well_formed-2.ensures) ran.ensures
