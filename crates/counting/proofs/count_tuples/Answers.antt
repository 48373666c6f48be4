-- `count_tuples` meets its contract: one record after the other, until no whole one stands there.
-- Assumes nothing.
use Rattle.std.proofs.Common.{◌∙◌}
use Rattle.counting.proofs.Raising.{all-raised, one-raised, tuples-more, tuples-end}
use Rattle.counting.specs.Places.{tuple_places}
use Rattle.counting.proofs.count_tuples.Goals as goal

pub loop-front-preserved : goal.loop-front-preserved
loop-front-preserved c =
    let a = c.args in
    let l = c.loop-front in
    one-raised a.totals.now (tuple_places a.new.now) l.totals (tuple_places l.front-iterator.0.now) l.invariant _ _
    (tuples-more l.front-iterator.0.now _ _ c.in-Some.ensures.steps _ (c.from-constraint.ensures ∙ c.byte_at.ensures)) _ c.raise.ensures

pub returns : goal.returns
returns c =
    let a = c.args in
    let l = c.loop-front in
    all-raised a.totals.now (tuple_places a.new.now) l.totals (tuple_places l.front-iterator.0.now) l.invariant (tuples-end l.front-iterator.0.now c.in-None.ensures.steps.0)
