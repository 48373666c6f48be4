-- `names_read` meets its contract: a row of names is read exactly if the name at each number is.
-- Assumes nothing.
use mathlib.Core.Path.{◌∙◌}
use Rattle.std.proofs.Common.{arith, rules, tests}
use Rattle.std.proofs.lemmas.Iterator.{YieldsList-from_range}
use Rattle.std.proofs.lemmas.Iterator.Search.{all_from_yields_List}
use Rattle.open_names.proofs.Reading.{reads-at, row-reads}
use Rattle.open_names.proofs.names_read.Goals as goal

pub returns : goal.returns
returns c =
    let s = c.args.names.now in
    let n = c.args.depth in
    all_from_yields_List (reads-at s) _ _ c.all.result c.all.ensures.ran (YieldsList-from_range 0 n n (search rules) (omega arith)) (λ x b q k. search (rules, tests))
    ∙ row-reads s n
