-- `parse_alternatives` meets its contract: each turn reads the alternative before the bar, and the last one stands behind the loop.
-- Assumes nothing.
use Rattle.std.proofs.Common.{rules}
use native.Mathlib.Omega.{arith}
use mathlib.Core.Path.{refl}
use Rattle.path_reader.proofs.Alternatives.{alternating-start, alternating-none, alternating-some, end_none, count_fits, end-some}
use Rattle.path_reader.proofs.parse_alternatives.Goals as goal

pub loop-first-init : goal.loop-first-init
loop-first-init c = (refl, alternating-start c.args.field c.args.s.now c.args.area.now)

pub returns-in_err-at : goal.returns-in_err-at
returns-in_err-at c =
    let loop = c.loop-first in
    let args = c.args in
    let alternative = c.parse_alternative in
    rw c.from_residual.ensures (alternating-none args.field args.s.now args.area.now loop.area loop.rest.now loop.at loop.count loop.invariant.1 c.requires.short c.requires.wide c.in-Some.first.now c.in-Some.behind.now c.in-Some.ensures alternative.new.area alternative.result alternative.ensures c.in_err-at.was)

pub loop-first-preserved : goal.loop-first-preserved
loop-first-preserved c =
    let loop = c.loop-first in
    let args = c.args in
    let alternative = c.parse_alternative in
    (search rules, alternating-some args.field args.s.now args.area.now loop.area loop.rest.now loop.at loop.count loop.invariant.1 c.requires.short c.requires.wide c.in-Some.first.now c.in-Some.behind.now c.in-Some.ensures alternative.new.area alternative.result alternative.ensures c.in_ok-at.at c.in_ok-at.was)

pub returns-in_err-end : goal.returns-in_err-end
returns-in_err-end c =
    let loop = c.loop-first in
    let args = c.args in
    let last = c.parse_alternative-2 in
    rw c.from_residual-in_err-end.ensures (end_none args.field args.s.now args.area.now loop.area loop.rest.now loop.at loop.count loop.invariant.1 c.requires.short c.requires.wide c.in_default.ensures last.new.area last.result last.ensures c.in_err-end.was)

pub overflow_cast-count : goal.overflow_cast-count
overflow_cast-count c =
    let loop = c.loop-first in
    let args = c.args in
    let last = c.parse_alternative-2 in
    let fits = count_fits args.field args.s.now args.area.now loop.area loop.rest.now loop.at loop.count loop.invariant.1 c.requires.short c.requires.wide c.in_default.ensures last.new.area last.result last.ensures c.in_ok-end.end c.in_ok-end.was in
    omega arith

pub returns : goal.returns
returns c =
    let loop = c.loop-first in
    let args = c.args in
    let last = c.parse_alternative-2 in
    let number = c.put_byte in
    end-some args.field args.s.now args.area.now loop.area loop.rest.now loop.at loop.count loop.invariant.1 c.requires.short c.requires.wide c.in_default.ensures last.new.area last.result last.ensures c.in_ok-end.end c.in_ok-end.was number.new.area number.result number.ensures
