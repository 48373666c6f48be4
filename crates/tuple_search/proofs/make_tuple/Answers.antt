-- `make_tuple` meets its contract: key after key is appended to the array, which has room for four, and the head is put before them.
-- Assumes nothing.
use Rattle.std.proofs.Common.{rules, arith, ◌≡◌, min}
use Rattle.tuple_search.proofs.Making.{blank, put_first, put_on, put-size, put-end, made}
use Rattle.tuple_search.proofs.make_tuple.Goals as goal

pub loop-i-init : goal.loop-i-init
unfolding blank
loop-i-init c =
    let args = c.args in
    let e : c.min-count.result ≡ min 4 args.fields = search rules in
    put_first args.cells.now c.min-count.result (omega arith)

pub loop-i-preserved : goal.loop-i-preserved
loop-i-preserved c =
    let append-key = c.append_key-size in
    let loop = c.loop-i in
    let few = c.min-count in
    let args = c.args in
    put_on args.cells.now few.result loop.bytes loop.size loop.i append-key.result append-key.new.dst loop.invariant
    c.loop-i-test.true append-key.ensures

pub overflow_sub-size : goal.overflow_sub-size
overflow_sub-size c =
    let loop = c.loop-i in
    let few = c.min-count in
    let args = c.args in
    omega (arith, put-size args.cells.now few.result loop.bytes loop.size loop.i loop.invariant)

pub overflow_cast-size : goal.overflow_cast-size
overflow_cast-size c =
    let loop = c.loop-i in
    let few = c.min-count in
    let args = c.args in
    omega (arith, put-size args.cells.now few.result loop.bytes loop.size loop.i loop.invariant)

pub returns : goal.returns
returns c =
    let put-tuple-head = c.put_tuple_head in
    let loop = c.loop-i in
    let few = c.min-count in
    let args = c.args in
    let e : few.result ≡ min 4 args.fields = search rules in
    made args.cells.now args.fields loop.bytes loop.size
    (put-end args.cells.now few.result loop.bytes loop.size loop.i args.fields loop.invariant (omega arith) e)
    args.constraint args.scope few.result put-tuple-head.new.dst e put-tuple-head.ensures
