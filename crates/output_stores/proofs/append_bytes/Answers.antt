-- `append_bytes` meets its contract: no room is no change; else the bytes are put behind the used ones.
-- Assumes nothing.
use Prim.Native.Nat.{◌+◌}
use lib.ListN.{length}
use borrow.Author.Tests.{le-leb}
use native.Mathlib.Omega.{arith}
use Rattle.output_stores.specs.Stores.{used_after}
use Rattle.output_stores.proofs.Appends.{not-appended}
use Rattle.output_stores.proofs.append_bytes.Goals.{then-store-bytes-via-then-store-bytes, then-store-bytes-via-else-store-bytes+then-store-bytes-2}
use Rattle.output_stores.proofs.append_bytes.Goals as goal

pub returns-then-store-bytes : goal.returns-then-store-bytes
returns-then-store-bytes c =
    let args = c.args in
    elim c.then-store-bytes.branch [
      | then-store-bytes-via-then-store-bytes w ↦ not-appended args.store.now args.used args.bytes.now (omega arith)
      | then-store-bytes-via-else-store-bytes+then-store-bytes-2 w ↦ not-appended args.store.now args.used args.bytes.now (omega arith)
    ]

pub returns : goal.returns
unfolding used_after
returns c =
    let a = c.args in
    record { answers = rw (le-leb (a.used + length a.bytes.now) (length a.store.now) (omega arith)); leaves = c.put_bytes.ensures }
