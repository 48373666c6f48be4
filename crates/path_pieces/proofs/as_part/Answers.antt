-- `as_part` meets its contract: each way it returns is a law of proofs/Parts.antt.
-- Assumes nothing.
use mathlib.Core.Path.{refl, sym, ◌∙◌}
use Rattle.path_pieces.proofs.Parts.{part_at, part-attribute, part-self, part-child}
use Rattle.path_pieces.proofs.as_part.Goals as goal

pub returns-in-Some : goal.returns-in-Some
returns-in-Some c = part_at _ _ c.in-Some.ensures

pub returns-in-Some-behind : goal.returns-in-Some-behind
returns-in-Some-behind c = part-attribute _ c.in_default.ensures _ c.in-Some-behind.ensures

pub returns-then-same : goal.returns-then-same
returns-then-same c = part-self _ c.in_default.ensures c.in_default-behind.ensures (sym c.same.ensures ∙ c.if-same.true)

pub returns-else-same : goal.returns-else-same
returns-else-same c =
    part-child _ c.in_default.ensures c.in_default-behind.ensures (sym c.same.ensures ∙ c.if-same.false) _ _ _ c.behind-else-same.ensures refl c.unwrap_or.ensures
