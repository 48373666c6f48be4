-- `bytes` meets its contract. Two copies into zeros, head and key, are one write, and zeros stay behind it.
-- Assumes nothing.
use Prim.Native.Nat.{◌%◌}
use mathlib.Core.Path.{refl, ◌∙◌}
use lib.ListN.{length}
use Rattle.cells.specs.Cells.{cell_of}
use Rattle.cells.proofs.Values.{written}
use Rattle.cells.proofs.Cell.bytes.Goals as goal

pub returns : goal.returns
returns c =
    let key = c.key-key in
    written (cell_of c.args.self) (c.args.more % 32) (length key.result.now) c.number.result key.result.now c.put_bytes.new.store c.put_bytes-2.new.store
    (c.number.ensures ∙ c.state.ensures) refl key.ensures.is key.ensures.fits c.put_bytes.ensures c.put_bytes-2.ensures
