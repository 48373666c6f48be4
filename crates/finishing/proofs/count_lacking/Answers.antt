-- `count_lacking` meets its contract: the chain counts the records that pass.
-- Assumes nothing.
use Rattle.std.proofs.Common.{rules, tests, ◌∙◌, ap, length}
use Rattle.std.proofs.lemmas.Iterator.Consumers.{YieldsList-at, YieldsList-from_filter, count_from_yields_List}
use Rattle.session_spec.specs.Definitions.{frame}
use Rattle.output_stores.specs.Stores.{standing}
use Rattle.tuple_search.proofs.Searching.{walk}
use Rattle.event_answers.specs.Fives.{is_lacking}
use Rattle.finishing.proofs.count_lacking.Goals as goal
use Rattle.lists.proofs.Folds.{filter_passing}

pub returns : goal.returns
returns c =
    count_from_yields_List c.filter.result c.count.result c.count.ensures.ran
    (YieldsList-from_filter _ (is_lacking c.args.t.now.refs c.args.t.now.used.now) (YieldsList-at c.filter.ensures.source (walk _)) c.filter.ensures.closure (λ x b q k. search (rules, tests)))
    ∙ ap length (filter_passing (is_lacking c.args.t.now.refs c.args.t.now.used.now) (standing frame c.args.t.now.used.now))
