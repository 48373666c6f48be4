-- `Line::word` meets its contract: no change where there is no room; else the digits are appended, and the byte behind them.
-- Assumes nothing.
use lib.ListN.{take}
use Rattle.lines.proofs.Words.{at-most-twenty, word-not, word-appended}
use native.Mathlib.Omega.{arith}
use Rattle.lines.proofs.Line.word.Goals as goal

pub overflow_add-whole : goal.overflow_add-whole
overflow_add-whole c = omega (arith, at-most-twenty c.args.n c.decimal-size.result c.decimal-size.ensures.len (omega (arith, c.ranges.n)))

pub returns-then-whole-self : goal.returns-then-whole-self
returns-then-whole-self c =
    let decimal = c.decimal-size in
    let args = c.args in
    let k = at-most-twenty args.n decimal.result decimal.ensures.len (omega (arith, c.ranges.n)) in
    word-not args.self.now.bytes args.self.now.size args.n args.end decimal.result (take decimal.result decimal.new.out) decimal.ensures.len k decimal.ensures.digits (omega arith)

pub returns : goal.returns
returns c =
    let append-bytes2 = c.append_bytes-self in
    let append-bytes = c.append_bytes-at in
    let decimal = c.decimal-size in
    let args = c.args in
    let k = at-most-twenty args.n decimal.result decimal.ensures.len (omega (arith, c.ranges.n)) in
    word-appended args.self.now.bytes args.self.now.size args.n args.end decimal.result (take decimal.result decimal.new.out) decimal.ensures.len k decimal.ensures.digits append-bytes.result append-bytes.new.store append-bytes2.result append-bytes2.new.store (omega arith) append-bytes.ensures append-bytes2.ensures
