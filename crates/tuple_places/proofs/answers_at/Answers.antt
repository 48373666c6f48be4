-- `answers_at` meets its contract: the record that is split off at the place.
-- Assumes nothing.
use Rattle.std.proofs.Common.{arith, rules, tests, ◌≡◌, ◌<◌, ◌-◌, ◌∙◌, drop}
use Rattle.std.proofs.lemmas.Grind.{common_steps}
use Rattle.tuple_places.proofs.Places.{no-entry, split_there, asked}
use Rattle.tuple_places.proofs.answers_at.Goals as goal

pub returns-in_default : goal.returns-in_default
returns-in_default c =
    let n : c.args.entry < 1 = grind (arith, common_steps) in
    no-entry c.args.used.now c.args.named c.args.texts.now c.args.entry (omega arith)

pub returns : goal.returns
returns c =
    let a = c.args in
    let n = c.in-Some.ensures.0 in
    let r : c.unwrap_or-rest.result.now ≡ drop (a.entry - 1) a.used.now = grind (arith, common_steps) in
    asked a.used.now a.named a.texts.now c.split-split.result c.is_some_and.result c.is_some_and.ensures (λ q k. search (rules, tests))
    ∙ split_there a.used.now a.named a.texts.now a.entry c.unwrap_or-rest.result.now (λ z. omega arith) r c.split-split.result c.split-split.ensures.cuts
