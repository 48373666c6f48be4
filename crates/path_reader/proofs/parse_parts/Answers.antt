-- `parse_parts` meets its contract: each turn reads the part before the slash, and the last part stands behind the loop.
-- Assumes nothing.
use Rattle.std.proofs.Common.{rules}
use mathlib.Core.Path.{refl}
use Rattle.path_reader.proofs.Walking.{walking_start, walking-none, walking-some, walking-last}
use Rattle.path_reader.proofs.parse_parts.Goals as goal

pub loop-first-init : goal.loop-first-init
loop-first-init c = (refl, walking_start c.args.field c.args.s.now c.args.area.now c.args.start)

pub returns-in_err-steps : goal.returns-in_err-steps
returns-in_err-steps c =
    let loop = c.loop-first in
    let args = c.args in
    let step = c.parse_step in
    rw c.from_residual.ensures (walking-none args.field args.s.now args.area.now args.start loop.area loop.rest.now loop.steps.end loop.steps.count loop.invariant.1 c.requires c.in-Some.first.now c.in-Some.behind.now c.in-Some.ensures c.as_part.result c.as_part.ensures step.new.area step.result step.ensures c.in_err-steps.was)

pub loop-first-preserved : goal.loop-first-preserved
loop-first-preserved c =
    let loop = c.loop-first in
    let args = c.args in
    let step = c.parse_step in
    (search rules, walking-some args.field args.s.now args.area.now args.start loop.area loop.rest.now loop.steps.end loop.steps.count loop.invariant.1 c.requires c.in-Some.first.now c.in-Some.behind.now c.in-Some.ensures c.as_part.result c.as_part.ensures step.new.area step.result step.ensures c.in_ok-steps.steps c.in_ok-steps.was)

pub returns : goal.returns
returns c =
    let loop = c.loop-first in
    let args = c.args in
    let last = c.parse_last in
    walking-last args.field args.s.now args.area.now args.start loop.area loop.rest.now loop.steps.end loop.steps.count loop.invariant.1 c.requires c.in_default.ensures last.new.area last.result last.ensures
