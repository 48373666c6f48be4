-- `look_up` meets its contract. The loop's invariant: the records that are left stand from the place on, and bind the prefix to what all of them bind it to.
-- Assumes nothing.
use Rattle.std.proofs.Common.{◌∙◌}
use Rattle.session_spec.specs.Definitions.{frame}
use Rattle.output_stores.specs.Stores.{standing}
use Rattle.frames.proofs.Walks.{walk-next}
use Rattle.bindings.proofs.Frames.{search-end, search-on, hit}
use Rattle.bindings.proofs.look_up.Goals as goal

pub returns-in-Some-bound_in : goal.returns-in-Some-bound_in
returns-in-Some-bound_in c =
    let a = c.args in
    let l = c.loop-record in
    hit a.s.now a.target a.prefix.now (standing frame l.record-iterator.0.now) l.before l.invariant.0 _ _ c.in-Some.ensures.steps c.in-Some-bound_in.uri c.in-Some-bound_in.ensures l.invariant.1

pub loop-record-preserved : goal.loop-record-preserved
loop-record-preserved c =
    let a = c.args in
    let l = c.loop-record in (
      walk-next a.s.now (standing frame l.record-iterator.0.now) l.before l.invariant.0 _ _ c.in-Some.ensures.steps,
      search-on a.s.now a.target a.prefix.now (standing frame l.record-iterator.0.now) l.before l.invariant.0 _ _ c.in-Some.ensures.steps c.in_default.ensures ∙ l.invariant.1,
    )

pub returns : goal.returns
returns c =
    let a = c.args in
    let l = c.loop-record in
    search-end a.s.now a.target a.prefix.now (standing frame l.record-iterator.0.now) l.before l.invariant.0 c.in-None.ensures.steps.0 l.invariant.1
