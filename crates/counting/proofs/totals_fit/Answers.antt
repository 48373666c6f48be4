-- `totals_fit` meets its contract: all fit exactly where each one does.
-- Assumes nothing.
use Rattle.std.proofs.Common.{rules}
use Rattle.std.proofs.lemmas.Iterator.{YieldsList-from_slice}
use Rattle.std.proofs.lemmas.Iterator.Search.{all_from_yields_List}
use Rattle.totals.specs.Totals.{fits_total, totals_fit}
use Rattle.counting.proofs.totals_fit.Goals as goal

pub returns : goal.returns
unfolding totals_fit
returns c =
    let ns = c.args.totals.now in
    all_from_yields_List fits_total _ _ c.all.result c.all.ensures.ran (YieldsList-from_slice ns c.iter.ensures.rest) (λ x b q k. (search rules, search rules))
