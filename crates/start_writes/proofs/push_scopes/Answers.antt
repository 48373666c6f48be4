-- `push_scopes` meets its contract. The invariant: the scopes of the places passed are pushed, and `last` is the number of the latest one.
-- Assumes nothing.
use Rattle.std.proofs.Common.{rules}
use native.Mathlib.Omega.{arith}
use lib.ListN.{get_or, take}
use mathlib.Core.Path.{◌≡◌, refl, sym, subst, ◌∙◌}
use Rattle.output_stores.specs.Stores.{in_mask}
use Rattle.start_pass.proofs.Walked.{walk-starts, walk-next}
use Rattle.start_writes.specs.Writes.{PushedBy}
use Rattle.start_writes.proofs.Pushes.{LastNumber, none-pushed, none-numbered, not-pushed, one-pushed, not-counted, counted, push-turn}
use Rattle.start_writes.proofs.push_scopes.Goals as goal

pub loop-j-init : goal.loop-j-init
loop-j-init c =
    let a = c.args in
    let it = c.into_iter-j-iterator.result in
    let none : it.count ≡ 0 = search rules in (
      walk-starts a.numbers.now it.iter.n it.count it.iter.iter.rest.now (search rules) none (search rules),
      subst (λ i. LastNumber (take i a.numbers.now) a.mask a.opened a.opened) (sym none) (none-numbered a.numbers.now a.mask a.opened),
      subst (λ i. PushedBy a.scopes (take i a.numbers.now) a.mask a.opened a.depth a.scopes) (sym none) (none-pushed a.scopes a.numbers.now a.mask a.opened a.depth),
    )

pub loop-j-preserved-then-has : goal.loop-j-preserved-then-has
loop-j-preserved-then-has c =
    let l = c.loop-j in
    let a = c.args in
    let has = c.has in
    let it = l.j-iterator in
    let j = it.count in
    let s = c.in-Some.ensures.steps in
    let next = walk-next a.numbers.now it.iter.n j it.iter.iter.rest.now l.invariant.0 _ _ _ _ s.0.0 s.0.1 s.2 in
    let number = get_or a.numbers.now j 0 in
    let marked : has.result ≡ in_mask a.mask j = subst (λ i. has.result ≡ in_mask a.mask i) s.1 has.ensures in
    let held = c.push-held.result in
    let last = c.saturating_add-last.result in
    let turn =
    push-turn a.scopes l.held held a.numbers.now a.mask a.opened a.depth l.last last j has.result next.inside next.low marked l.invariant.1
    (counted l.held held has.result l.last last number a.depth c.if-has.true (λ h. omega (arith, c.saturating_add-last.ensures)))
    l.invariant.2
    (one-pushed l.held held has.result l.last last number a.depth c.from.result last c.if-has.true refl (c.from.ensures ∙ next.number) c.push-held.ensures) in (
      next.behind,
      subst (λ i. LastNumber (take i a.numbers.now) a.mask a.opened last) (sym s.2) turn.0,
      subst (λ i. PushedBy a.scopes (take i a.numbers.now) a.mask a.opened a.depth held) (sym s.2) turn.1,
    )

pub loop-j-preserved : goal.loop-j-preserved
loop-j-preserved c =
    let l = c.loop-j in
    let a = c.args in
    let has = c.has in
    let it = l.j-iterator in
    let j = it.count in
    let s = c.in-Some.ensures.steps in
    let next = walk-next a.numbers.now it.iter.n j it.iter.iter.rest.now l.invariant.0 _ _ _ _ s.0.0 s.0.1 s.2 in
    let number = get_or a.numbers.now j 0 in
    let marked : has.result ≡ in_mask a.mask j = subst (λ i. has.result ≡ in_mask a.mask i) s.1 has.ensures in
    let turn =
    push-turn a.scopes l.held l.held a.numbers.now a.mask a.opened a.depth l.last l.last j has.result next.inside next.low marked l.invariant.1
    (not-counted l.held l.held has.result l.last l.last number a.depth c.if-has.false refl)
    l.invariant.2
    (not-pushed l.held l.held has.result l.last l.last number a.depth c.if-has.false refl) in (
      next.behind,
      subst (λ i. LastNumber (take i a.numbers.now) a.mask a.opened l.last) (sym s.2) turn.0,
      subst (λ i. PushedBy a.scopes (take i a.numbers.now) a.mask a.opened a.depth l.held) (sym s.2) turn.1,
    )
