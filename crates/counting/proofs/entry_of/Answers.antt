-- `entry_of` meets its contract: the three numbers of the entry, where all three are there.
-- Assumes nothing.
use Rattle.std.proofs.Common.{rules, ◌≡◌, ◌∙◌}
use Rattle.totals.specs.Totals.{nothing}
use Rattle.counting.specs.Readings.{total_in}
use Rattle.counting.proofs.Answering.{entry-none, entry-there}
use Rattle.counting.proofs.entry_of.Goals as goal

pub returns-then-totals-at : goal.returns-then-totals-at
returns-then-totals-at c =
    let z : total_in c.default.result ≡ nothing = search rules in
    z ∙ entry-none c.args.totals.now c.args.number c.if-totals-at.true

pub returns : goal.returns
returns c = entry-there c.args.totals.now c.args.number c.if-totals-at.false
