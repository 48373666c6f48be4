-- `constraint_count` meets its contract: as many as the chain over the records passes on; there are no more records than bytes.
-- Assumes nothing.
use Rattle.std.proofs.Common.{rules, tests, arith, ap, ◌∙◌, length, min}
use Rattle.std.proofs.lemmas.Iterator.Consumers.{YieldsList-from_first, YieldsList-from_filter, count_from_yields_List}
use Rattle.bindings.specs.Bindings.{frames_in}
use Rattle.bindings.specs.Own.{is_id}
use Rattle.frames.proofs.Walks.{standing_fits}
use Rattle.constraints.specs.Constraints.{count_in}
use Rattle.constraints.proofs.Sets.{ids_are, narrowed}
use Rattle.constraints.proofs.constraint_count.Goals as goal

pub count-requires-clause-fits : goal.count-requires-clause-fits
count-requires-clause-fits c = grind (arith, standing_fits)

pub returns : goal.returns
unfolding count_in
returns c =
    let records = YieldsList-from_first (λ b. b.now) (λ s. frames_in s.0.now) (frames_in c.args.used.now) (ap (λ s. frames_in s.0.now) c.filter-ids.ensures.source) in
    let n = count_from_yields_List c.filter-ids.result _ c.count.ensures.ran (YieldsList-from_filter _ is_id records c.filter-ids.ensures.closure (λ x r q k. search (rules, tests))) in
    narrowed c.count.result c.try_from.result c.try_from.ensures c.unwrap_or.result c.unwrap_or.ensures ∙ ap (λ k. min k 4294967295) (n ∙ ap length (ids_are c.args.used.now))
