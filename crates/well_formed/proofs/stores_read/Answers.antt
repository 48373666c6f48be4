-- `stores_read` meets its contract: the tuples, and then the reports.
-- Assumes nothing.
use mathlib.Core.Path.{sym, ◌∙◌, subst}
use mathlib.Core.Bool.{Bool}
use Rattle.well_formed.specs.Parts.{StoresAre}
use Rattle.well_formed.proofs.Areas.{no-tuples, all-reports}
use Rattle.well_formed.proofs.stores_read.Goals as goal

pub returns-then-tuples_read : goal.returns-then-tuples_read
returns-then-tuples_read c =
    let a = c.args in
    all-reports a.tuples.now a.reports.now a.constraints a.opened a.most (sym c.if-tuples_read.true ∙ c.tuples_read.ensures)
    c.reports_read.result c.reports_read.ensures

pub returns-else-tuples_read : goal.returns-else-tuples_read
returns-else-tuples_read c =
    let a = c.args in
    subst (λ (b : Bool). StoresAre a.constraints a.opened a.most a.tuples.now a.reports.now b) (sym c.if-tuples_read.false)
    (no-tuples a.tuples.now a.reports.now a.constraints a.opened a.most (sym c.if-tuples_read.false ∙ c.tuples_read.ensures))
