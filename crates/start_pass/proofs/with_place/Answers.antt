-- `with_place` meets its contract: the place lies above all that are in the set.
-- Assumes nothing.
use Rattle.std.proofs.Common.{rules, tests}
use Rattle.output_stores.proofs.Masks.{with-bit}
use Rattle.start_pass.proofs.with_place.Goals as goal

pub returns : goal.returns
returns c =
    let a = c.args in
    with-bit a.set a.j c.from.result a.here c.requires.few c.requires.low (search (rules, tests))
