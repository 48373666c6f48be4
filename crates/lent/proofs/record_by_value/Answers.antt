-- `record_by_value` meets its contract: locals that are lent for one call make the world of their values.
-- Assumes nothing.
use Rattle.std.proofs.Common.{rules, ◌≡◌, length}
use Rattle.lent.proofs.Values.{by_value}
use Rattle.lent.proofs.record_by_value.Goals as goal

pub returns : goal.returns
returns c =
    let a = c.args in
    let call = c.record_lent-reply in
    let n = call.new in
    let before : length a.list ≡ 16 = search rules in
    let after : length n.scopes ≡ 16 = search rules in
    by_value a.n a.list a.rec.now a.defs.now a.tuples.now a.reports.now a.paths.now a.names.now a.cells.now call.result n.s n.scopes n.defs n.tuples n.reports n.paths n.names n.cells before after call.ensures
