-- `outcome_of` meets its contract: the first Multiple, else the first NotSimple, else the first Unset, else the first that is marked, else none of them.
-- Assumes nothing.
use Rattle.outcomes.proofs.Outcomes.{answer-several, answer-not-simple, answer-missing, answer-nillable, answer-complete}
use Rattle.outcomes.proofs.outcome_of.Goals as goal

pub returns-then-is_some : goal.returns-then-is_some
returns-then-is_some c = answer-several _ _ c.args.cells.now c.min-n.ensures _ c.first_with.ensures c.if-is_some.ensures

pub returns-then-is_some-2 : goal.returns-then-is_some-2
returns-then-is_some-2 c =
    answer-not-simple _ _ c.args.cells.now c.min-n.ensures _ c.first_with.ensures c.if-is_some.ensures _ c.first_with-2.ensures
    c.if-is_some-2.ensures

pub returns-in-Some : goal.returns-in-Some
returns-in-Some c =
    answer-missing _ _ c.args.cells.now c.min-n.ensures _ c.first_with.ensures c.if-is_some.ensures _ c.first_with-2.ensures
    c.if-is_some-2.ensures _ c.in-Some.ensures

pub returns-in-Some-first_with : goal.returns-in-Some-first_with
returns-in-Some-first_with c =
    answer-nillable _ _ c.args.cells.now c.min-n.ensures _ c.first_with.ensures c.if-is_some.ensures _ c.first_with-2.ensures
    c.if-is_some-2.ensures c.in_default.ensures _ c.in-Some-first_with.ensures

pub returns : goal.returns
returns c =
    answer-complete _ _ c.args.cells.now c.min-n.ensures _ c.first_with.ensures c.if-is_some.ensures _ c.first_with-2.ensures
    c.if-is_some-2.ensures c.in_default.ensures c.in_default-first_with.ensures
