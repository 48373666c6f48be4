-- `tells` meets its contract. The loop's invariant: the reports of the places that are passed by, and those of the rest, are those of all.
-- Assumes nothing.
use Rattle.std.proofs.Common.{rules}
use native.Mathlib.Omega.{arith}
use Prim.Native.Nat.{◌+◌, ◌^◌}
use lib.ListN.{get_or}
use mathlib.Core.Path.{◌≡◌, sym, subst}
use mathlib.Core.Bool.{cond}
use Rattle.start_places.specs.Turns.{NamedAs, TellsOne, SaidAfter}
use Rattle.start_pass.proofs.Telling.{ToldTo, told_none, told-all, told-on}
use Rattle.start_pass.proofs.Stands.{said_same, said_more}
use Rattle.start_pass.proofs.Walked.{walk-starts, walk-next, walk-ends}
use Rattle.start_pass.proofs.tells.Goals as goal
use Rattle.start_pass.proofs.tells.Goals.{then-here, else-here}

pub loop-j-init : goal.loop-j-init
loop-j-init c =
    let args = c.args in
    let it = c.into_iter-j-iterator.result in
    let none : it.count ≡ 0 = search rules in (
      walk-starts args.numbers.now it.iter.n it.count it.iter.iter.rest.now (search rules) none (search rules),
      subst (λ i. ToldTo args.defs.now args.numbers.now args.opened args.reports.now 0 0 i) (sym none) (told_none args.defs.now args.numbers.now args.opened args.reports.now),
    )

pub loop-j-preserved : goal.loop-j-preserved
loop-j-preserved c =
    let args = c.args in
    let loop = c.loop-j in
    let it = loop.j-iterator in
    let s = c.in-Some.ensures.steps in
    let next = walk-next args.numbers.now it.iter.n it.count it.iter.iter.rest.now loop.invariant.0 _ _ _ _ s.0.0 s.0.1 s.2 in
    let one = c.tells_one-here in
    let with = c.with_place-set in
    let number = get_or args.numbers.now it.count 0 in
    let said : SaidAfter args.defs.now number loop.said one.result c.if-here.said =
    elim c.if-here.branch [
      | then-here w ↦
          subst (SaidAfter args.defs.now number loop.said one.result) (sym w.said-is)
          (said_more args.defs.now number loop.said one.result w.if-here.true w.named_as-said.result (subst (λ n. NamedAs args.defs.now n w.named_as-said.result) next.number w.named_as-said.ensures))
      | else-here w ↦ subst (SaidAfter args.defs.now number loop.said one.result) (sym w.said-is) (said_same args.defs.now number loop.said one.result w.if-here.false)
    ] in (
      next.behind,
      subst (λ i. ToldTo args.defs.now args.numbers.now args.opened args.reports.now with.result c.if-here.said i) (sym s.2)
          (told-on args.defs.now args.numbers.now args.opened args.reports.now loop.set loop.said it.count loop.invariant.1 (omega (arith, next.low)) next.inside one.result
          (subst (λ n. TellsOne args.defs.now n it.count args.opened loop.said args.reports.now one.result) next.number
          (subst (λ i. TellsOne args.defs.now c.in-Some.field-0-1.now i args.opened loop.said args.reports.now one.result) s.1 one.ensures)) c.if-here.said said
          with.result (subst (λ i. with.result ≡ loop.set + cond one.result (2 ^ i) 0) s.1 with.ensures)),
    )

pub returns : goal.returns
returns c =
    let args = c.args in
    let loop = c.loop-j in
    let it = loop.j-iterator in
    let ends = walk-ends args.numbers.now it.iter.n it.count it.iter.iter.rest.now loop.invariant.0 (λ more. (c.in-None.ensures.steps.0 more).0) in
    told-all args.defs.now args.numbers.now args.opened args.reports.now loop.set loop.said it.count loop.invariant.1 (λ few. omega (arith, ends))
