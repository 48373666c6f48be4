-- `put_bytes` meets its contract: where the bytes fit they are copied one after the other, and where they do not there is
-- no room.
-- Assumes nothing.
use native.Mathlib.Omega.{arith}
use mathlib.Core.Path.{sym}
use Rattle.lists.proofs.Writes.{put_full}
use Rattle.numbers.proofs.Copies.{none-copied, one-copied, all-copied}
use Rattle.numbers.proofs.put_bytes.Goals.{else-bytes-store-via-then-bytes-store+else-at-store, else-bytes-store-via-else-bytes-store}
use Rattle.numbers.proofs.put_bytes.Goals as goal

pub loop-i-init : goal.loop-i-init
loop-i-init c = let a = c.args in none-copied a.store.now a.at a.bytes.now (omega arith)

pub loop-i-preserved : goal.loop-i-preserved
loop-i-preserved c =
    let a = c.args in
    let l = c.loop-i in
    one-copied a.store.now a.at a.bytes.now l.store l.i l.invariant c.loop-i-test.true

pub returns-after-loop-i : goal.returns-after-loop-i
returns-after-loop-i c =
    let a = c.args in
    let l = c.loop-i in
    all-copied a.store.now a.at a.bytes.now l.store l.i l.invariant c.loop-i-test.false

pub returns-else-bytes-store : goal.returns-else-bytes-store
returns-else-bytes-store c =
    let a = c.args in
    elim c.else-bytes-store.branch [
      | else-bytes-store-via-then-bytes-store+else-at-store w ↦ sym (put_full a.store.now a.at a.bytes.now (omega arith))
      | else-bytes-store-via-else-bytes-store w ↦ sym (put_full a.store.now a.at a.bytes.now (omega arith))
    ]
