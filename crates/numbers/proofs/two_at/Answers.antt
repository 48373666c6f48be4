-- `two_at` meets its contract: the library reads a number so from its two bytes, and past the end both bytes count as 0.
-- Assumes nothing.
use native.Mathlib.Omega.{arith}
use mathlib.Core.Path.{sym}
use Rattle.numbers.specs.Numbers.{two}
use Rattle.numbers.proofs.RoundTrip.{two_past}
use Rattle.numbers.proofs.two_at.Goals as goal

pub returns-in-Some : goal.returns-in-Some
unfolding two
returns-in-Some c = grind (arith, c.in-Some.ensures.lookup, c.byte_at.ensures, c.from_le_bytes.ensures)

pub returns-in-None : goal.returns-in-None
returns-in-None c = sym (two_past c.args.s.now c.args.at (omega (arith, c.in-None.ensures.lookup)))
