-- `at_most` meets its contract. Not more lack an answer than there are of keyrefs.
-- Assumes nothing.
use borrow.Author.Tests.{le-leb}
use mathlib.Core.Path.{◌∙◌}
use Rattle.finishing.proofs.Walking.{few-keyrefs}
use Rattle.finishing.proofs.at_most.Goals as goal

pub returns-then-count_keyrefs-most : goal.returns-then-count_keyrefs-most
returns-then-count_keyrefs-most c =
    let a = c.args in
    let k = c.count_keyrefs in
    le-leb k.result a.most c.if-count_keyrefs-most.true ∙ few-keyrefs a.t.now.refs a.t.now.used.now k.result a.most k.ensures c.if-count_keyrefs-most.true
