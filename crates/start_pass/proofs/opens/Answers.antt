-- `opens` meets its contract. The loop's invariant: of the places that are passed by, those that read are in the set.
-- Assumes nothing.
use Rattle.std.proofs.Common.{rules}
use native.Mathlib.Omega.{arith}
use Prim.Native.Nat.{◌+◌, ◌^◌}
use mathlib.Core.Path.{◌≡◌, sym, subst}
use mathlib.Core.Bool.{cond}
use Rattle.start_places.specs.Turns.{OpensOne}
use Rattle.start_pass.proofs.Opening.{OpenedTo, opened-none, opened-all, opened-on}
use Rattle.start_pass.proofs.Walked.{walk-starts, walk-next, walk-ends}
use Rattle.start_pass.proofs.opens.Goals as goal

pub loop-j-init : goal.loop-j-init
loop-j-init c =
    let args = c.args in
    let it = c.into_iter-j-iterator.result in
    let none : it.count ≡ 0 = search rules in (
      walk-starts args.numbers.now it.iter.n it.count it.iter.iter.rest.now (search rules) none (search rules),
      subst (λ i. OpenedTo args.defs.now args.numbers.now args.area.now 0 i args.area.now) (sym none) (opened-none args.defs.now args.numbers.now args.area.now),
    )

pub loop-j-preserved : goal.loop-j-preserved
loop-j-preserved c =
    let args = c.args in
    let loop = c.loop-j in
    let it = loop.j-iterator in
    let s = c.in-Some.ensures.steps in
    let next = walk-next args.numbers.now it.iter.n it.count it.iter.iter.rest.now loop.invariant.0 _ _ _ _ s.0.0 s.0.1 s.2 in
    let one = c.opens_one-here in
    let with = c.with_place-set in (
      next.behind,
      subst (λ i. OpenedTo args.defs.now args.numbers.now args.area.now with.result i one.new.area) (sym s.2)
          (opened-on args.defs.now args.numbers.now args.area.now loop.set it.count loop.area loop.invariant.1 (omega (arith, next.low)) next.inside one.result one.new.area
          (subst (λ n. OpensOne args.defs.now n loop.area one.result one.new.area) next.number one.ensures)
          with.result (subst (λ i. with.result ≡ loop.set + cond one.result (2 ^ i) 0) s.1 with.ensures)),
    )

pub returns : goal.returns
returns c =
    let args = c.args in
    let loop = c.loop-j in
    let it = loop.j-iterator in
    let ends = walk-ends args.numbers.now it.iter.n it.count it.iter.iter.rest.now loop.invariant.0 (λ more. (c.in-None.ensures.steps.0 more).0) in
    opened-all args.defs.now args.numbers.now args.area.now loop.set it.count loop.area loop.invariant.1 (λ few. omega (arith, ends))
