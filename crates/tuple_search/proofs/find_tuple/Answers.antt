-- `find_tuple` meets its contract: the records are compared one after the other; there are no more than bytes.
-- Assumes nothing.
use Rattle.std.proofs.Common.{rules, tests, arith, ◌∙◌, ◌≡◌, ap, drop}
use Rattle.std.proofs.lemmas.Iterator.Search.{position_from_yields_List}
use Rattle.std.specs.declared.option.Option.TheVariants.{None}
use Rattle.lists.specs.Answers.{given}
use Rattle.session_spec.specs.Definitions.{frame}
use Rattle.texts.specs.Texts.{same}
use Rattle.output_stores.specs.Stores.{standing}
use Rattle.frames.proofs.Walks.{standing_fits}
use Rattle.tuple_search.proofs.Searching.{walk, found_none, found_at, found_below}
use Rattle.tuple_search.proofs.find_tuple.Goals as goal

pub position-requires-clause-fits : goal.position-requires-clause-fits
position-requires-clause-fits c = grind (arith, standing_fits)

pub returns-in_err-before : goal.returns-in_err-before
returns-in_err-before c =
    let p = position_from_yields_List (λ f. same (drop 5 f) c.args.tail.now) c.position.new.self _ c.position.result c.position.ensures.ran (walk _) (λ x b q k. search (rules, tests)) in
    let e : c.from_residual.result ≡ None = search rules in
    ap given e ∙ found_none c.args.tail.now (standing frame c.args.used.now) c.position.result p (search rules)

pub overflow_add-result : goal.overflow_add-result
overflow_add-result c =
    let p = position_from_yields_List (λ f. same (drop 5 f) c.args.tail.now) c.position.new.self _ c.position.result c.position.ensures.ran (walk _) (λ x b q k. search (rules, tests)) in
    let h = found_below c.args.tail.now (standing frame c.args.used.now) c.position.result p c.in_ok-before.before c.in_ok-before.was in
    let l = standing_fits c.args.used.now in
    omega arith

pub returns : goal.returns
returns c =
    let p = position_from_yields_List (λ f. same (drop 5 f) c.args.tail.now) c.position.new.self _ c.position.result c.position.ensures.ran (walk _) (λ x b q k. search (rules, tests)) in
    found_at c.args.tail.now (standing frame c.args.used.now) c.position.result p c.in_ok-before.before c.in_ok-before.was
