-- `compare` meets its contract. The loop's invariant: behind the place both texts are the same, and the pairs looked at so far
-- with those from the place back are all.
-- Assumes nothing.
use Prim.Native.Nat.{◌-◌}
use native.Mathlib.Omega.{arith}
use lib.ListN.{length, get_or}
use mathlib.Core.Path.{ap, sym, ◌∙◌}
use Rattle.texts.specs.Texts.{pairs_back}
use Rattle.texts.proofs.Sameness.{same-differ, same_end}
use Rattle.texts.proofs.Pairs.{pairs-on, pairs_end, pairs-apart, pairs-all, same_back, same-front, pairs-front}
use Rattle.texts.proofs.compare.Goals as goal

pub returns-then-a-b : goal.returns-then-a-b
returns-then-a-b c = (sym (same-differ _ _ (λ e. c.if-a-b.true (ap length e))), sym (pairs-apart _ _ c.if-a-b.true))

pub loop-i-init : goal.loop-i-init
loop-i-init c =
    let a = c.args.a.now in
    record {
      counted = omega arith;
      looked = omega arith;
      behind = same_end a c.args.b.now (length a) (omega arith) (omega (arith, c.if-a-b.false));
    }

pub overflow_add-pairs : goal.overflow_add-pairs
overflow_add-pairs c = omega (arith, c.loop-i.invariant.counted)

pub returns-then-a-i : goal.returns-then-a-i
returns-then-a-i c =
    let l = c.loop-i in
    let a = c.args.a.now in
    let b = c.args.b.now in
    let n = c.loop-i-test.true in
    let e = pairs_end a b l.i (l.i - 1) (omega arith) c.if-a-i.true in
    (sym (same-differ a b (λ q. c.if-a-i.true (ap (λ z. get_or z (l.i - 1) 0) q))), omega (arith, e, l.invariant.looked) ∙ pairs-all a b c.if-a-b.false)

pub loop-i-preserved : goal.loop-i-preserved
loop-i-preserved c =
    let l = c.loop-i in
    let a = c.args.a.now in
    let b = c.args.b.now in
    let n = c.loop-i-test.true in
    let e = pairs-on a b l.i (l.i - 1) (omega arith) c.if-a-i.false in
    record {
      counted = omega (arith, l.invariant.counted);
      looked = omega (arith, e, l.invariant.looked);
      behind = same_back a b l.i (l.i - 1) (omega arith) (omega (arith, l.invariant.counted)) c.if-a-b.false c.if-a-i.false l.invariant.behind;
    }

pub returns : goal.returns
returns c =
    let l = c.loop-i in
    let a = c.args.a.now in
    let b = c.args.b.now in
    let n = c.loop-i-test.false in (
      same-front a b l.i (omega arith) l.invariant.behind,
      pairs-front a b l.i l.pairs (pairs_back (length a) a b) (omega arith) l.invariant.looked ∙ pairs-all a b c.if-a-b.false,
    )
