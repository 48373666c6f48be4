-- `append_key` meets its contract: no change where there is no room; else the key's length is put behind the used bytes, and the key behind it. A key has at most
-- 126 bytes, so that its length fits.
-- Assumes nothing.
use native.Mathlib.Omega.{arith}
use Rattle.tuple_search.proofs.Making.{key-at-short, key-not, key-appended}
use Rattle.tuple_search.proofs.append_key.Goals as goal

pub returns-then-dst-whole : goal.returns-then-dst-whole
returns-then-dst-whole c =
    let key-at = c.key_at-key in
    let args = c.args in
    key-not args.dst.now args.used args.cells.now args.place key-at.result.now key-at.ensures (omega arith)

pub overflow_cast-key : goal.overflow_cast-key
overflow_cast-key c =
    let key-at = c.key_at-key in
    let args = c.args in
    omega (arith, key-at-short args.cells.now args.place key-at.result.now key-at.ensures)

pub returns : goal.returns
returns c =
    let append-bytes = c.append_bytes in
    let put_two = c.put_two in
    let key-at = c.key_at-key in
    let args = c.args in
    key-appended args.dst.now args.used args.cells.now args.place key-at.result.now key-at.ensures
    put_two.new.store append-bytes.result append-bytes.new.store (omega arith) put_two.ensures append-bytes.ensures
