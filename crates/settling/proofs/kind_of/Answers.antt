-- `kind_of` meets its contract, byte by byte.
-- Assumes nothing.
use native.Mathlib.Omega.{arith}
use Rattle.settling.proofs.Answers.{byte-unique, byte-key, byte-keyref}
use Rattle.settling.proofs.kind_of.Goals as goal

pub returns-in-0 : goal.returns-in-0
returns-in-0 c = byte-unique c.args.byte c.in-0.is

pub returns-in-1 : goal.returns-in-1
returns-in-1 c = byte-key c.args.byte c.in-1.is

pub returns-in_default : goal.returns-in_default
returns-in_default c = byte-keyref c.args.byte (omega (arith, c.in_default))
