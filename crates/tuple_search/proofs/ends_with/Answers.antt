-- `ends_with` meets its contract: the bytes from the place on are compared, and past the end there are none.
-- Assumes nothing.
use Rattle.std.proofs.Common.{◌≡◌, ◌∙◌, ap, arith, drop, length}
use Rattle.std.proofs.lemmas.Grind.{common_steps}
use Rattle.texts.specs.Texts.{same}
use Rattle.records.specs.Readers.{Bytes}
use Rattle.tuple_search.proofs.Searching.{past_end}
use Rattle.tuple_search.proofs.ends_with.Goals as goal

pub returns-in-Some : goal.returns-in-Some
returns-in-Some c =
    let f = c.args.front.now in
    let e : c.in-Some.end.now ≡ drop c.args.at f = grind (arith, common_steps) in
    c.same.ensures ∙ ap (λ (l : Bytes). same l c.args.bytes.now) e

pub returns-in-None : goal.returns-in-None
returns-in-None c = c.is_empty.ensures ∙ past_end c.args.front.now c.args.at c.args.bytes.now (grind (arith, common_steps))
