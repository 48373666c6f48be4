-- `counts_hold` meets its contract: the numbers and lengths say whether the counts of the world fit.
-- Assumes nothing.
use Rattle.std.proofs.Common.{rules}
use mathlib.Core.Path.{◌≡◌}
use lib.ListN.{length}
use Rattle.session_spec.specs.Layout.{unpack}
use Rattle.open_scopes.specs.Counting.{as_counts}
use Rattle.well_formed.proofs.Counted.{counted}
use Rattle.well_formed.proofs.counts_hold.Goals as goal

pub returns : goal.returns
returns c =
    let a = c.args in
    let k : 16 ≡ length a.list = search rules in
    counted a.n a.list a.paths a.defs.now a.tuples.now a.reports.now a.names.now a.cells.now 16 k
    (as_counts c.unpack-counts.result) (unpack a.n.running) c.unpack-counts.ensures c.counts_fit.result c.counts_fit.ensures
