-- `field_count` meets its contract: the count that the ID of the constraint says, which is always a byte.
-- Assumes nothing.
use Rattle.well_formed.proofs.Fields.{as-byte}
use Rattle.well_formed.proofs.field_count.Goals as goal

pub returns : goal.returns
returns c =
    let a = c.args in
    let n = c.numbered in
    as-byte a.used.now n.result.own.now a.number n.result.parts n.ensures.records n.ensures.parts c.try_from.result c.try_from.ensures
    c.unwrap_or.result c.unwrap_or.ensures
