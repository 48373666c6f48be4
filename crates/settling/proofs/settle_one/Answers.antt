-- `settle_one` meets its contract: the fed selection is settled, and where it is kept its TU is measured.
-- Assumes nothing.
use Rattle.settling.proofs.One.{one-settles}
use Rattle.settling.proofs.settle_one.Goals as goal

pub returns : goal.returns
returns c =
    let a = c.args in
    let h = c.home_of-home in
    let f = c.fed_selection-bytes in
    let s = c.settle-settled in
    let z = c.kept_size-size in
    one-settles a.g.now.cells.now a.j a.g.now.counts.now a.g.now.simple a.g.now.key.now a.g.now.scopes a.g.now.defs.now a.tuples.used.now a.tuples.marks.now h.result f.result s.result z.result
    h.ensures f.ensures s.ensures z.ensures a.tuples.bytes
