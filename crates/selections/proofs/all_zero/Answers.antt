-- `all_zero` meets its contract: one `or` over all bytes is 0 exactly if each is.
-- Assumes nothing.
use lib.Bits.{bit_or}
use lib.Dec.{eqb}
use mathlib.Core.Path.{ap, ◌∙◌}
use Rattle.std.proofs.Common.{rules, tests}
use Rattle.std.proofs.lemmas.Iterator.{YieldsList-from_slice}
use Rattle.std.proofs.lemmas.Iterator.Consumers.{fold_from_yields_List}
use Rattle.selections.proofs.Zeros.{zeros-or}
use Rattle.selections.proofs.all_zero.Goals as goal

pub returns : goal.returns
returns c =
    let s = c.args.s.now in
    ap (λ n. eqb n 0) (fold_from_yields_List _ bit_or 0 c.fold.result c.fold.ensures.ran (YieldsList-from_slice s cc) (λ a x b q k. search (rules, tests)))
    ∙ zeros-or 0 s
