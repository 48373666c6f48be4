-- `write_tuple` meets its contract: one TU or none.
-- Assumes nothing.
use Rattle.settlements.specs.Finished.{settlement_of}
use Rattle.settling.proofs.Answers.{not-kept, is-kept}
use Rattle.settling.proofs.Writes.{tuple-none, tuple-one}
use borrow.Enum.Refused.{opened}
use Rattle.settling.proofs.write_tuple.Goals as goal

pub returns-in_default : goal.returns-in_default
returns-in_default c =
    let a = c.args in
    tuple-none (settlement_of a.s) a.g.now.cells.now a.j a.g.now.counts.now a.g.now.simple a.g.now.key.now a.g.now.scopes a.g.now.defs.now a.store.now a.used (not-kept a.s (opened c.in_default.in_default-own.keys2))

pub returns : goal.returns
returns c =
    let a = c.args in
    let h = c.home_of-home in
    let f = c.fed_selection-bytes in
    let m = c.make_tuple-made in
    let t = c.clipped-tuple in
    let r = c.append_bytes in
    tuple-one (settlement_of a.s) a.g.now.cells.now a.j a.g.now.counts.now a.g.now.simple a.g.now.key.now a.g.now.scopes a.g.now.defs.now a.store.now a.used
    h.result f.result m.result t.result.now r.result r.new.store (is-kept a.s c.in-Kept.is) h.ensures f.ensures m.ensures t.ensures r.ensures
