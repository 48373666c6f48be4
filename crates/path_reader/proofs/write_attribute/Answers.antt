-- `write_attribute` meets its contract: the flag, and the name test behind it.
-- Assumes nothing.
use native.Mathlib.Omega.{arith}
use Rattle.path_reader.proofs.Parts.{attribute-none, attribute-some}
use Rattle.path_reader.proofs.write_attribute.Goals as goal

pub returns-in_err-end : goal.returns-in_err-end
returns-in_err-end c =
    let test = c.write_test in
    let put_byte = c.put_byte-test in
    let before = c.args.before in
    let room = c.requires in
    rw c.from_residual.ensures
    (attribute-none c.args.t.now c.args.area.now put_byte.new.area test.new.area before.end put_byte.result before.count put_byte.ensures test.result test.ensures room.wide (omega arith) c.in_err-end.was)

pub returns : goal.returns
returns c =
    let test = c.write_test in
    let put_byte = c.put_byte-test in
    let before = c.args.before in
    let room = c.requires in
    attribute-some c.args.t.now c.args.area.now put_byte.new.area test.new.area before.end put_byte.result before.count put_byte.ensures test.result test.ensures (omega arith) c.in_ok-end.end c.in_ok-end.was
