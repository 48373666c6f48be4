-- `tuples_read` meets its contract: each TU passes both tests, and they are not too many.
-- Assumes nothing.
use Rattle.std.proofs.Common.{ltb, leb, ◌&&◌, ◌∙◌, rules, tests}
use Rattle.records.specs.Readers.{reads}
use Rattle.session_spec.specs.Layout.{read_tu}
use Rattle.output_stores.specs.Stores.{reads_as}
use Rattle.tuples.proofs.Walking.{read-fit}
use Rattle.tuples.proofs.tuples_read.Goals as goal

pub returns : goal.returns
unfolding reads_as
returns c =
    let a = c.args in
    c.is_some.ensures ∙ read-fit a.constraints a.opened a.most (reads read_tu a.used.now) c.count_that-taken.result
    (c.count_that-taken.ensures (λ x s. ltb x a.constraints && leb s a.opened) (λ x s b q. search (rules, tests)))
