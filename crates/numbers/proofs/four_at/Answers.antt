-- `four_at` meets its contract. Each half is a two-byte number; past the end all four bytes count as 0.
-- Assumes nothing.
use native.Mathlib.Omega.{arith}
use mathlib.Core.Path.{sym}
use Rattle.numbers.specs.Numbers.{four}
use Rattle.numbers.proofs.RoundTrip.{four-past}
use Rattle.numbers.proofs.four_at.Goals as goal

pub returns-then-at-s : goal.returns-then-at-s
unfolding four
returns-then-at-s c = omega (arith, c.two_at.ensures, c.from.ensures, c.two_at-then-at-s.ensures, c.from-then-at-s.ensures)

pub returns-else-at-s : goal.returns-else-at-s
returns-else-at-s c = sym (four-past c.args.s.now c.args.at c.if-at-s.false)
