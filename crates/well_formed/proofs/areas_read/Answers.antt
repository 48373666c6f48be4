-- `areas_read` meets its contract: names, scopes and selections, one test behind the other.
-- Assumes nothing.
use Rattle.std.proofs.Common.{rules}
use native.Mathlib.Omega.{arith}
use lib.ListN.{length}
use lib.Seq.{length-take-le}
use mathlib.Core.Path.{◌≡◌, sym, ◌∙◌}
use Rattle.open_scopes.specs.Counting.{as_counts}
use Rattle.open_scopes.proofs.Places.{few-open}
use Rattle.well_formed.proofs.Areas.{no_names, no-scopes, all-selections}
use Rattle.well_formed.proofs.areas_read.Goals as goal

pub returns-then-not-names_read : goal.returns-then-not-names_read
returns-then-not-names_read c =
    let a = c.args in
    no_names (as_counts a.counts) c.depth_of-depth.result c.depth_of-depth.ensures a.constraints a.scopes a.used.now a.names.now a.cells.now
    (sym c.if-not-names_read.true ∙ c.names_read.ensures)

pub returns-then-not-scopes_fit : goal.returns-then-not-scopes_fit
returns-then-not-scopes_fit c =
    let a = c.args in
    no-scopes (as_counts a.counts) c.depth_of-depth.result c.depth_of-depth.ensures a.constraints a.scopes a.used.now a.names.now a.cells.now
    (sym c.if-not-names_read.false ∙ c.names_read.ensures)
    (sym c.if-not-scopes_fit.true ∙ c.scopes_fit.ensures)

pub slice_bounds-fields-end : goal.slice_bounds-fields-end
slice_bounds-fields-end c =
    let w : length c.args.scopes.list ≡ 16 = search rules in
    omega (arith, few-open c.args.scopes w, c.count-end.ensures)

pub slice_bounds-selections_read-end : goal.slice_bounds-selections_read-end
slice_bounds-selections_read-end c =
    let n : length c.fields_of-fields.result ≡ 16 = search rules in
    let w : length c.args.scopes.list ≡ 16 = search rules in
    let few = few-open c.args.scopes w in
    let k = c.count-end.ensures in
    sym (length-take-le c.count-end.result c.fields_of-fields.result (omega arith))

pub returns : goal.returns
returns c =
    let a = c.args in
    all-selections (as_counts a.counts) c.depth_of-depth.result c.depth_of-depth.ensures a.constraints a.scopes a.used.now a.names.now a.cells.now
    (sym c.if-not-names_read.false ∙ c.names_read.ensures)
    c.selections_read.result c.fields_of-fields.result c.count-end.result c.count-end.ensures
    (sym c.if-not-scopes_fit.false ∙ c.scopes_fit.ensures)
    c.fields_of-fields.ensures c.selections_read.ensures
