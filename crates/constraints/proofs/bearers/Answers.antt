-- `bearers` meets its contract: the bits are gathered over the first 32 IDs, each above those before it, whatever the test.
-- Assumes nothing.
use Rattle.std.proofs.Common.{rules, tests, ap}
use Rattle.std.proofs.lemmas.Iterator.{YieldsList-from_take}
use Rattle.std.proofs.lemmas.Iterator.Consumers.{YieldsList-from_first, YieldsList-from_filter, YieldsList-from_enumerate, YieldsList-at, fold_from_yields_List}
use Rattle.bindings.specs.Bindings.{frames_in}
use Rattle.bindings.specs.Own.{is_id}
use Rattle.constraints.proofs.Sets.{one_more, bits-are}
use Rattle.constraints.proofs.bearers.Goals as goal

pub returns : goal.returns
returns g c =
    let road =
    YieldsList-from_enumerate (YieldsList-at c.enumerate.ensures.source (YieldsList-from_take 32 (YieldsList-at c.take.ensures.source
    (YieldsList-from_filter _ is_id (YieldsList-from_first (λ b. b.now) (λ s. frames_in s.0.now) (frames_in c.args.used.now) (ap (λ s. frames_in s.0.now) c.filter.ensures.source))
    c.filter.ensures.closure (λ x r q k. search (rules, tests)))) c.take.ensures.count)) c.enumerate.ensures.count in
    λ t h. bits-are t c.args.used.now c.fold.result
    (fold_from_yields_List _ (one_more t) 0 c.fold.result c.fold.ensures.ran road (λ a x b q k. search (rules, tests, h)))
