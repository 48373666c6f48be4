-- `write_sixes` meets its contract. The invariant: the reports of the places passed are written.
-- Assumes nothing.
use Rattle.std.proofs.Common.{rules}
use lib.ListN.{get_or, take}
use mathlib.Core.Path.{◌≡◌, refl, sym, subst}
use Rattle.output_stores.specs.Stores.{in_mask}
use Rattle.start_pass.proofs.Walked.{walk-starts, walk-next}
use Rattle.start_writes.specs.Writes.{Sixes}
use Rattle.start_writes.proofs.Filling.{no-sixes, no_six, some-six, six-turn}
use Rattle.start_writes.proofs.write_sixes.Goals as goal

pub loop-j-init : goal.loop-j-init
loop-j-init c =
    let a = c.args in
    let it = c.into_iter-j-iterator.result in
    let none : it.count ≡ 0 = search rules in (
      walk-starts a.numbers.now it.iter.n it.count it.iter.iter.rest.now (search rules) none (search rules),
      subst (λ i. Sixes a.reports.now a.used (take i a.numbers.now) a.mask a.event a.used a.reports.now) (sym none) (no-sixes a.reports.now a.used a.numbers.now a.mask a.event),
    )

pub loop-j-preserved-then-has : goal.loop-j-preserved-then-has
loop-j-preserved-then-has c =
    let l = c.loop-j in
    let a = c.args in
    let has = c.has in
    let it = l.j-iterator in
    let j = it.count in
    let s = c.in-Some.ensures.steps in
    let next = walk-next a.numbers.now it.iter.n j it.iter.iter.rest.now l.invariant.0 _ _ _ _ s.0.0 s.0.1 s.2 in
    let number = get_or a.numbers.now j 0 in
    let marked : has.result ≡ in_mask a.mask j = subst (λ i. has.result ≡ in_mask a.mask i) s.1 has.ensures in
    let six = c.six_one-at in
    let turn =
    six-turn a.reports.now l.reports six.new.reports a.used l.at six.result a.numbers.now a.mask a.event j has.result next.inside next.low marked l.invariant.1
    (some-six l.reports six.new.reports l.at six.result a.event has.result number six.new.reports six.result _ c.if-has.true refl refl next.number six.ensures) in
    (next.behind, subst (λ i. Sixes a.reports.now a.used (take i a.numbers.now) a.mask a.event six.result six.new.reports) (sym s.2) turn)

pub loop-j-preserved : goal.loop-j-preserved
loop-j-preserved c =
    let l = c.loop-j in
    let a = c.args in
    let has = c.has in
    let it = l.j-iterator in
    let j = it.count in
    let s = c.in-Some.ensures.steps in
    let next = walk-next a.numbers.now it.iter.n j it.iter.iter.rest.now l.invariant.0 _ _ _ _ s.0.0 s.0.1 s.2 in
    let number = get_or a.numbers.now j 0 in
    let marked : has.result ≡ in_mask a.mask j = subst (λ i. has.result ≡ in_mask a.mask i) s.1 has.ensures in
    let turn =
    six-turn a.reports.now l.reports l.reports a.used l.at l.at a.numbers.now a.mask a.event j has.result next.inside next.low marked l.invariant.1
    (no_six l.reports l.reports l.at l.at a.event has.result number c.if-has.false refl refl) in
    (next.behind, subst (λ i. Sixes a.reports.now a.used (take i a.numbers.now) a.mask a.event l.at l.reports) (sym s.2) turn)
