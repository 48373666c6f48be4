-- `until_id` meets its contract: the records before the next ID are added up by their sizes, which fit in the bytes.
-- Assumes nothing.
use lib.ListN.{length}
use mathlib.Core.Path.{ap}
use mathlib.Core.Bool.{not}
use denote.Ref.{Bor}
use native.Mathlib.Omega.{arith}
use Rattle.std.proofs.Common.{rules, tests}
use Rattle.std.proofs.lemmas.Iterator.{YieldsList-from_map}
use Rattle.std.proofs.lemmas.Iterator.Search.{YieldsList-from_take_while}
use Rattle.std.proofs.lemmas.Iterator.Consumers.{YieldsList-from_first, YieldsList-at, sum_by_from_yields_List, fits_by_from_yields_list}
use Rattle.records.specs.Readers.{Bytes}
use Rattle.bindings.specs.Bindings.{frames_in}
use Rattle.bindings.specs.Own.{is_id}
use Rattle.constraints.proofs.Owns.{before, until-fits, until-ends}
use Rattle.constraints.proofs.until_id.Goals as goal

pub sum-requires-clause-fits : goal.sum-requires-clause-fits
sum-requires-clause-fits c =
    let s = c.args.s.now in
    fits_by_from_yields_list length (before s) _ 18446744073709551616
    (YieldsList-from_map {v = λ (b : Bor Bytes). b.now} _ length (YieldsList-at c.map.ensures.source
    (YieldsList-from_take_while _ (λ f. not (is_id f)) (YieldsList-from_first (λ (b : Bor Bytes). b.now) (λ s. frames_in s.0.now) (frames_in s) (ap (λ s. frames_in s.0.now) c.take_while.ensures.source))
    c.take_while.ensures.closure c.take_while.ensures.done (λ x r q k. search (rules, tests)))) c.map.ensures.closure (λ x r q k. (search rules, search (rules, tests))))
    (omega (arith, until-fits s, c.type_inv.s))

pub returns : goal.returns
returns c =
    let s = c.args.s.now in
    until-ends s c.sum.result (sum_by_from_yields_List length (before s) _ c.sum.result c.sum.ensures.ran
    (YieldsList-from_map {v = λ (b : Bor Bytes). b.now} _ length (YieldsList-at c.map.ensures.source
    (YieldsList-from_take_while _ (λ f. not (is_id f)) (YieldsList-from_first (λ (b : Bor Bytes). b.now) (λ s. frames_in s.0.now) (frames_in s) (ap (λ s. frames_in s.0.now) c.take_while.ensures.source))
    c.take_while.ensures.closure c.take_while.ensures.done (λ x r q k. search (rules, tests)))) c.map.ensures.closure (λ x r q k. (search rules, search (rules, tests)))))
