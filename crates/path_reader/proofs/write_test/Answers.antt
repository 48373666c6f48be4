-- `write_test` meets its contract: the prefix and the local part, one behind the other. A test that reads has a byte at least, so three bytes for each of its bytes are room enough.
-- Assumes nothing.
use native.Mathlib.Omega.{arith}
use Rattle.path_reader.proofs.Parts.{prefix_length, test-room, test-written}
use Rattle.path_reader.proofs.write_test.Goals as goal

pub write_prefix-name-requires : goal.write_prefix-name-requires
write_prefix-name-requires c =
    let fits = test-room c.args.t.now c.name_test.result c.name_test.ensures c.in_ok-test.test c.in_ok-test.was in
    let room = c.requires in
    (omega arith, omega arith)

pub write_local-requires : goal.write_local-requires
write_local-requires c =
    let fits = test-room c.args.t.now c.name_test.result c.name_test.ensures c.in_ok-test.test c.in_ok-test.was in
    let size = prefix_length c.in_ok-test.test.prefix in
    let room = c.requires in
    (omega arith, omega (arith, c.write_prefix-name.ensures.0))

pub returns : goal.returns
returns c =
    let prefix = c.write_prefix-name in
    let local = c.write_local in
    test-written c.args.t.now c.name_test.result c.name_test.ensures c.in_ok-test.test c.in_ok-test.was c.args.area.now prefix.new.area local.new.area c.args.at prefix.result local.result (omega arith) prefix.ensures local.ensures
