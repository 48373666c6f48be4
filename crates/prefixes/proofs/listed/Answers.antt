-- `listed` meets its contract: some word between the spaces spells the prefix.
-- Assumes nothing.
use lib.Dec.{eqb}
use mathlib.Core.Path.{◌∙◌}
use Rattle.std.proofs.Common.{rules, tests}
use Rattle.std.proofs.lemmas.Iterator.Search.{any_from_yields_List}
use Rattle.std.proofs.lemmas.Iterator.Splits.{YieldsList-from_slice_split}
use Rattle.texts.specs.Texts.{same}
use Rattle.utf8.specs.Utf8.{decode}
use Rattle.prefixes.proofs.Words.{words-listed}
use Rattle.prefixes.proofs.listed.Goals as goal

pub returns : goal.returns
returns c =
    let cut = YieldsList-from_slice_split _ (λ b. eqb b 32) c.args.prefixes.now (cc) (cc) (cc) (λ x b q k. search (rules, tests)) in
    any_from_yields_List (λ w. same c.args.p.now (decode w)) _ _ c.any.result c.any.ensures.ran cut (λ x b q k. search (rules, tests))
    ∙ words-listed c.args.p.now c.args.prefixes.now
