-- `from_id` meets its contract. The loop's invariant: the records of the constraint that is still sought among those left are those that are sought in the whole.
-- Assumes nothing.
use mathlib.Core.Path.{sym, subst}
use Rattle.std.proofs.lemmas.List.{take_rest}
use Rattle.std.proofs.Common.{rules}
use Rattle.session_spec.specs.Definitions.{frame}
use Rattle.output_stores.specs.Stores.{standing}
use Rattle.frames.proofs.Walks.{walk-next}
use Rattle.constraints.specs.Walks.{StartsAt}
use Rattle.constraints.proofs.Owns.{from_end, from_found, from_on}
use Rattle.constraints.proofs.from_id.Goals as goal

pub returns-then-left-one : goal.returns-then-left-one
returns-then-left-one c =
    let a = c.args in
    let l = c.loop-record in
    subst (StartsAt a.used.now a.number) (sym (take_rest a.used.now l.before))
    (from_found a.used.now a.number (standing frame l.record-iterator.0.now) l.before l.invariant.0 l.left l.invariant.1 _ _ c.in-Some.ensures.steps
    c.from-one.result (search rules) c.if-left-one.true)

pub loop-record-preserved : goal.loop-record-preserved
loop-record-preserved c =
    let a = c.args in
    let l = c.loop-record in (
      walk-next a.used.now (standing frame l.record-iterator.0.now) l.before l.invariant.0 _ _ c.in-Some.ensures.steps,
      from_on a.used.now a.number (standing frame l.record-iterator.0.now) l.before l.invariant.0 l.left l.invariant.1 _ _ c.in-Some.ensures.steps
          c.from-one.result (search rules) c.if-left-one.false,
    )

pub returns : goal.returns
returns c =
    let a = c.args in
    let l = c.loop-record in
    from_end a.used.now a.number (standing frame l.record-iterator.0.now) l.before l.invariant.0 l.left l.invariant.1 c.in-None.ensures.steps.0
