-- `six_one` meets its contract: the report that it appends is the one of kind 6.
-- Assumes nothing.
use mathlib.Core.Path.{refl}
use Rattle.tree.specs.Judge.{kind_six}
use Rattle.start_writes.proofs.Filling.{one-six}
use Rattle.start_writes.proofs.six_one.Goals as goal

pub returns : goal.returns
unfolding kind_six
returns c =
    let call = c.append_report in
    let a = c.args in
    one-six a.reports.now call.new.store a.used call.result a.event a.constraint _ refl call.ensures
