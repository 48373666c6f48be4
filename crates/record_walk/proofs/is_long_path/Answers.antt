-- `is_long_path` meets its contract: the two tests are those of the definition.
-- Assumes nothing.
use borrow.Author.Tests.{lt-ltb}
use mathlib.Core.Path.{◌∙◌}
use Rattle.record_walk.proofs.Paths.{long-bars, long-slashes}
use Rattle.record_walk.proofs.is_long_path.Goals as goal

pub returns-then-count_of-gt7 : goal.returns-then-count_of-gt7
returns-then-count_of-gt7 c = lt-ltb 7 c.count_of.result c.if-count_of-gt7.true ∙ long-bars c.args.s.now c.count_of.result c.count_of.ensures c.if-count_of-gt7.true

pub returns-else-count_of-gt7 : goal.returns-else-count_of-gt7
returns-else-count_of-gt7 c =
    let k = c.count_of-else-count_of-gt7 in
    long-slashes c.args.s.now c.count_of.result k.result c.count_of.ensures c.if-count_of-gt7.false k.ensures
