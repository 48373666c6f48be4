-- `gap_length` meets its contract: what stands first is no longer than the place of the first character that is no white space.
-- Assumes nothing.
use mathlib.Core.Path.{◌∙◌}
use mathlib.Core.Bool.{not}
use Rattle.std.proofs.Common.{rules, tests}
use Rattle.std.proofs.lemmas.Iterator.{YieldsList-from_slice}
use Rattle.std.proofs.lemmas.Iterator.Search.{position_from_yields_List}
use Rattle.characters.specs.Spaces.{xml_space}
use Rattle.tokens.proofs.Runs.{place, gap-place}
use Rattle.tokens.proofs.gap_length.Goals as goal

pub returns : goal.returns
returns c =
    let found = position_from_yields_List (λ x. not (xml_space x)) _ _ c.position.result c.position.ensures.ran (YieldsList-from_slice c.args.s.now cc) (λ x b q k. search (rules, tests)) in
    place (λ x. not (xml_space x)) c.args.s.now c.position.result _ found c.unwrap_or.ensures ∙ gap-place c.args.s.now
