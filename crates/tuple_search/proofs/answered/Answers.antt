-- `answered` meets its contract: the records are asked one after the other.
-- Assumes nothing.
use Rattle.std.proofs.Common.{rules, tests}
use Rattle.std.proofs.lemmas.Iterator.Search.{any_from_yields_List}
use Rattle.tuple_search.specs.Search.{is_answer, answered_by}
use Rattle.tuple_search.proofs.Searching.{walk}
use Rattle.tuple_search.proofs.answered.Goals as goal

pub returns : goal.returns
unfolding answered_by
returns c =
    any_from_yields_List (is_answer c.args.named c.args.texts.now) c.any.new.self _ c.any.result c.any.ensures.ran
    (walk _) (λ x b q k. search (rules, tests))
