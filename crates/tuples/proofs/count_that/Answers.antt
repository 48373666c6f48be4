-- `count_that` meets its contract: one TU after the other, to the very end, each counted on those before it, and none
-- where one more stands than the most.
-- Assumes nothing.
use Rattle.std.proofs.Common.{◌<◌, ◌≤◌, ap, sym, ◌∙◌, arith, length, get_or}
use Rattle.std.proofs.lemmas.Grind.{common_steps}
use Rattle.lists.specs.Answers.{given}
use Rattle.records.specs.Readers.{reads}
use Rattle.session_spec.specs.Layout.{read_tu}
use Rattle.tuples.specs.Tuples.{counted, within}
use Rattle.tuples.proofs.Walking.{reach, fewer, none-yet, counted-end, counted-stop, counted-fails, counted-on, rest_at, within-none, within-some, within-past}
use Rattle.tuples.proofs.count_that.Goals as goal

pub loop-rest-init : goal.loop-rest-init
loop-rest-init g c = record { short = omega arith; few = omega arith; counts = λ t h. none-yet (counted t (reads read_tu c.args.used.now)) }

pub returns-in_err-behind : goal.returns-in_err-behind
returns-in_err-behind g c =
    let l = c.loop-rest in
    let n : 0 < length l.rest.now = grind (arith, common_steps) in
    λ t h. ap given c.from_residual.ensures
    ∙ within-none c.args.most _ (sym (l.invariant.counts t h) ∙ counted-stop t l.rest.now l.taken n c.in_err-behind.ensures)

pub returns-then-most-taken : goal.returns-then-most-taken
returns-then-most-taken g c =
    let l = c.loop-rest in
    λ t h. within-past t l.rest.now c.in_ok-behind.behind.now c.in_ok-behind.ensures c.args.most l.taken (omega arith) ∙ ap (within c.args.most) (l.invariant.counts t h)

pub bounds-rest-4 : goal.bounds-rest-4
bounds-rest-4 g c = let n = reach c.loop-rest.rest.now c.in_ok-behind.behind.now c.in_ok-behind.ensures in omega arith

pub returns-then-not-test : goal.returns-then-not-test
returns-then-not-test g c =
    let l = c.loop-rest in
    λ t h. within-none c.args.most _ (sym (l.invariant.counts t h) ∙ counted-fails t l.rest.now c.in_ok-behind.behind.now c.in_ok-behind.ensures l.taken
    (ap (t (get_or l.rest.now 4 0)) (sym c.four_at.ensures) ∙ sym (h _ _ _ c.test.ensures) ∙ c.if-not-test.true))

pub overflow_sub-rest : goal.overflow_sub-rest
overflow_sub-rest g c = let n = fewer c.loop-rest.rest.now c.in_ok-behind.behind.now c.in_ok-behind.ensures in omega arith

pub loop-rest-smaller : goal.loop-rest-smaller
loop-rest-smaller g c =
    let r = rest_at c.loop-rest.rest.now c.in_ok-behind.behind.now c.in_ok-behind.ensures in
    rw r (fewer c.loop-rest.rest.now c.in_ok-behind.behind.now c.in_ok-behind.ensures)

pub loop-rest-preserved : goal.loop-rest-preserved
loop-rest-preserved g c =
    let l = c.loop-rest in
    let f = fewer l.rest.now c.in_ok-behind.behind.now c.in_ok-behind.ensures in
    let s = l.invariant.short in
    rw (rest_at l.rest.now c.in_ok-behind.behind.now c.in_ok-behind.ensures) record {
      short = omega arith;
      few = omega arith;
      counts = λ t h. sym (counted-on t l.rest.now c.in_ok-behind.behind.now c.in_ok-behind.ensures l.taken
          (ap (t (get_or l.rest.now 4 0)) (sym c.four_at.ensures) ∙ sym (h _ _ _ c.test.ensures) ∙ c.if-not-test.false)) ∙ l.invariant.counts t h;
    }

pub returns : goal.returns
returns g c =
    let l = c.loop-rest in
    let n : length l.rest.now ≤ 0 = grind (arith, common_steps) in
    λ t h. within-some c.args.most l.taken _ (sym (l.invariant.counts t h) ∙ counted-end t l.rest.now l.taken n) l.invariant.few
