-- `is_answer` meets its contract: the set first, then the texts.
-- Assumes nothing.
use Rattle.std.proofs.Common.{rules, ◌≡◌, ◌∙◌, false}
use Rattle.tuple_search.proofs.Searching.{not_named, if-named}
use Rattle.tuple_search.proofs.is_answer.Goals as goal

pub returns-then-has : goal.returns-then-has
returns-then-has c = if-named c.args.named c.args.texts.now c.args.front.now c.byte_at.result c.has.result c.byte_at.ensures c.has.ensures c.ends_with.result (search rules) c.ends_with.ensures

pub returns-else-has : goal.returns-else-has
returns-else-has c =
    let f : c.has.result ≡ false = search rules in
    f ∙ not_named c.args.named c.args.texts.now c.args.front.now c.byte_at.result c.has.result c.byte_at.ensures c.has.ensures f
