-- `is_utf8` meets its contract. The loop's invariant: what is left is a text exactly if the whole is.
-- Assumes nothing.
use mathlib.Core.Path.{sym, ◌∙◌}
use native.Mathlib.Omega.{arith}
use Rattle.utf8.proofs.Walk.{turn-none, turn-fits, turn-same, turn-less, utf8-empty}
use Rattle.utf8_check.proofs.Sizes.{none-front, some-front, some-more}
use Rattle.utf8_check.proofs.is_utf8.Goals as goal

pub returns-in_default : goal.returns-in_default
returns-in_default c = turn-none _ (grind (arith, c.is_empty.ensures)) (none-front _ (sym c.in_default.is ∙ c.char_size.ensures)) ∙ c.loop-rest.invariant

pub slice_bounds-rest-count : goal.slice_bounds-rest-count
slice_bounds-rest-count c = turn-fits _ _ (grind (arith, c.is_empty.ensures)) (some-front _ _ (sym c.in-Some.is ∙ c.char_size.ensures)) (some-more _ _ (sym c.in-Some.is ∙ c.char_size.ensures))

pub slice_bounds-rest-start : goal.slice_bounds-rest-start
slice_bounds-rest-start c = turn-fits _ _ (grind (arith, c.is_empty.ensures)) (some-front _ _ (sym c.in-Some.is ∙ c.char_size.ensures)) (some-more _ _ (sym c.in-Some.is ∙ c.char_size.ensures))

pub loop-rest-smaller : goal.loop-rest-smaller
loop-rest-smaller c = turn-less _ _ (grind (arith, c.is_empty.ensures)) (some-front _ _ (sym c.in-Some.is ∙ c.char_size.ensures)) (some-more _ _ (sym c.in-Some.is ∙ c.char_size.ensures))

pub loop-rest-preserved : goal.loop-rest-preserved
loop-rest-preserved c = turn-same _ _ (grind (arith, c.is_empty.ensures)) (some-front _ _ (sym c.in-Some.is ∙ c.char_size.ensures)) (some-more _ _ (sym c.in-Some.is ∙ c.char_size.ensures)) ∙ c.loop-rest.invariant

pub returns : goal.returns
returns c = utf8-empty _ (grind (arith, c.is_empty.ensures)) ∙ c.loop-rest.invariant
