-- `enter` meets its contract: the free entry that is found is one of the table.
-- Assumes nothing.
use Rattle.std.proofs.Common.{arith, rules, tests}
use Rattle.std.proofs.lemmas.Iterator.{first_from_Range}
use Rattle.std.specs.declared.option.Option.TheVariants.{Some}
use Rattle.tuple_places.proofs.enter.Goals as goal

pub offset_bounds-places-at : goal.offset_bounds-places-at
offset_bounds-places-at c =
    let i = first_from_Range _ _ _ (Some c.in-Some.at) (λ x. Unit {0}) (λ x. Unit {0}) c.in-Some.ensures.ran (λ x q k. tt) (λ x q k. (search (rules, tests), tt)) in
    omega (arith, i.1)

pub bounds-places-at : goal.bounds-places-at
bounds-places-at c =
    let i = first_from_Range _ _ _ (Some c.in-Some.at) (λ x. Unit {0}) (λ x. Unit {0}) c.in-Some.ensures.ran (λ x q k. tt) (λ x q k. (search (rules, tests), tt)) in
    omega (arith, i.1)
