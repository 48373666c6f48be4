-- `split` meets its contract: no head, or fewer bytes than the length says, is no record; else it is as long as this says.
-- Assumes nothing.
use Rattle.std.proofs.Common.{arith, sym}
use Rattle.frames.proofs.Fronts.{frame-none, split-there, stands}
use Rattle.frames.proofs.split.Goals as goal
use Rattle.std.specs.declared.option.Option.TheVariants.{None}

pub returns-then-s-lt4 : goal.returns-then-s-lt4
returns-then-s-lt4 c =
    let e = sym (frame-none c.args.s.now (omega arith)) in
    record { cuts = e; stands = stands c.args.s.now None e }

pub returns : goal.returns
returns c =
    let e = split-there c.args.s.now _ c.split_at_checked.result (omega arith) c.split_at_checked.ensures.cases in
    record { cuts = e; stands = stands c.args.s.now c.split_at_checked.result e }
