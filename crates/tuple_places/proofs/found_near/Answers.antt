-- `found_near` meets its contract: what is found, an entry says.
-- Assumes nothing.
use Rattle.std.proofs.Common.{arith, rules, tests, ◌≡◌, ◌∙◌, drop, true, false}
use Rattle.std.proofs.lemmas.Grind.{common_steps}
use Rattle.std.proofs.lemmas.Iterator.{YieldsList-from_slice, YieldsList-from_take, cases_from_any}
use Rattle.std.proofs.lemmas.Iterator.Consumers.{YieldsList-at}
use Rattle.tuple_places.specs.Places.{answers_at}
use Rattle.tuple_places.proofs.Places.{entries_found}
use Rattle.tuple_places.proofs.found_near.Goals as goal

pub returns : goal.returns
returns c =
    let a = c.args in
    let r : c.unwrap_or-own.result.now ≡ drop c.start_of-start.result a.places.now = grind (arith, common_steps) in
    let road = YieldsList-from_take 8 (YieldsList-at c.take.ensures.source (YieldsList-from_slice (drop c.start_of-start.result a.places.now) (c.iter.ensures.rest ∙ r))) c.take.ensures.count in
    entries_found a.used.now a.named a.texts.now a.places.now c.start_of-start.result 8 c.any.result
    (cases_from_any _ _ c.any.result (λ e. true ≡ answers_at a.used.now e a.named a.texts.now) (λ e. false ≡ answers_at a.used.now e a.named a.texts.now) c.any.ensures.ran road
    (λ x q k. search (rules, tests)) (λ x q k. search (rules, tests)))
