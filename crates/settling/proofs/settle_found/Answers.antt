-- `settle_found` meets its contract: none is found, or one, and one that four bytes do not hold is told as the largest.
-- Assumes nothing.
use mathlib.Core.Path.{sym, ap, ◌∙◌}
use Rattle.constraints.proofs.Sets.{narrowed}
use Rattle.lists.specs.Answers.{given}
use Rattle.settling.proofs.Answers.{found_none, found-some}
use Rattle.settling.proofs.settle_found.Goals as goal

pub returns-in-None : goal.returns-in-None
returns-in-None c = λ tail tuples found. found_none tail tuples (sym (ap given c.in-None.is) ∙ found)

pub returns-in-Some : goal.returns-in-Some
returns-in-Some c = λ tail tuples found.
    let n = c.in-Some.number in
    let m = c.unwrap_or-tuple in
    c.answer.ensures ∙ found-some tail tuples n m.result (sym (ap given c.in-Some.is) ∙ found) (narrowed n c.try_from.result c.try_from.ensures m.result m.ensures)
