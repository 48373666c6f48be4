-- `well_formed` meets its contract: counts, definitions, areas and output stores, one test behind the other.
-- Assumes nothing.
use native.Mathlib.Omega.{arith}
use mathlib.Core.Path.{sym, ◌∙◌}
use Rattle.session_spec.specs.Layout.{unpack}
use Rattle.open_scopes.specs.Counting.{as_counts}
use Rattle.worlds.specs.Worlds.{world_of}
use Rattle.well_formed.proofs.Decodes.{counts-unfit}
use Rattle.well_formed.proofs.Counted.{few-events}
use Rattle.well_formed.proofs.Whole.{no-definitions, no-areas, all-stores}
use Rattle.well_formed.proofs.well_formed.Goals as goal

pub returns-then-not-counts_hold : goal.returns-then-not-counts_hold
returns-then-not-counts_hold c =
    let a = c.args in
    counts-unfit (world_of a.n a.list a.paths a.defs.now a.tuples.now a.reports.now a.names.now a.cells.now) (sym c.if-not-counts_hold.true ∙ c.counts_hold.ensures)

pub returns-in_default : goal.returns-in_default
returns-in_default c =
    let a = c.args in
    no-definitions a.n a.list a.paths a.defs.now a.tuples.now a.reports.now a.names.now a.cells.now
    (as_counts c.unpack-counts.result) c.unpack-counts.ensures (sym c.if-not-counts_hold.false ∙ c.counts_hold.ensures)
    c.used_of-used.result.now c.used_of-used.ensures c.read_definitions.result c.read_definitions.ensures c.in_default.is

pub returns-then-not-areas_read : goal.returns-then-not-areas_read
returns-then-not-areas_read c =
    let a = c.args in
    no-areas a.n a.list a.paths a.defs.now a.tuples.now a.reports.now a.names.now a.cells.now
    (as_counts c.unpack-counts.result) c.unpack-counts.ensures (sym c.if-not-counts_hold.false ∙ c.counts_hold.ensures)
    c.used_of-used.result.now c.used_of-used.ensures c.read_definitions.result c.read_definitions.ensures
    _ c.in-Some.is (λ d e q. sym c.if-not-areas_read.true ∙ c.areas_read.ensures d e q)

pub overflow_mul-most : goal.overflow_mul-most
overflow_mul-most c =
    let a = c.args in
    omega (arith, few-events (world_of a.n a.list a.paths a.defs.now a.tuples.now a.reports.now a.names.now a.cells.now) (unpack a.n.running) (sym c.if-not-counts_hold.false ∙ c.counts_hold.ensures))

pub returns : goal.returns
returns c =
    let a = c.args in
    all-stores a.n a.list a.paths a.defs.now a.tuples.now a.reports.now a.names.now a.cells.now
    (as_counts c.unpack-counts.result) c.unpack-counts.ensures (sym c.if-not-counts_hold.false ∙ c.counts_hold.ensures)
    c.used_of-used.result.now c.used_of-used.ensures c.read_definitions.result c.read_definitions.ensures
    _ c.in-Some.is (λ d e q. sym c.if-not-areas_read.false ∙ c.areas_read.ensures d e q)
    c.used_of.result.now c.used_of-2.result.now c.used_of.ensures c.used_of-2.ensures c.stores_read.result c.stores_read.ensures
