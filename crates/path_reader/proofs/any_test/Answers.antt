-- `any_test` meets its contract: each way it returns is a law of proofs/Tests.antt.
-- Assumes nothing.
use mathlib.Core.Path.{refl, sym, ◌∙◌}
use Rattle.path_reader.proofs.Tests.{test-bytes, test-start, test-whole, test-local}
use Rattle.path_reader.proofs.any_test.Goals as goal
use Rattle.path_reader.proofs.any_test.Goals.{then-not-all_test_bytes-via-then-not-all_test_bytes, then-not-all_test_bytes-via-else-not-all_test_bytes+then-not-starts_well}

pub returns-then-not-all_test_bytes : goal.returns-then-not-all_test_bytes
returns-then-not-all_test_bytes c =
    elim c.then-not-all_test_bytes.branch [
      | then-not-all_test_bytes-via-then-not-all_test_bytes w ↦ test-bytes c.args.t.now (sym c.all_test_bytes.ensures ∙ w.if-not-all_test_bytes.true)
      | then-not-all_test_bytes-via-else-not-all_test_bytes+then-not-starts_well w ↦ test-start c.args.t.now (sym w.starts_well.ensures ∙ w.if-not-starts_well.true)
    ]

pub returns-in_default : goal.returns-in_default
returns-in_default c =
    let all = sym c.all_test_bytes.ensures ∙ c.if-not-all_test_bytes.false in
    let well = sym c.starts_well.ensures ∙ c.if-not-starts_well.false in
    test-whole c.args.t.now all well c.in_default.ensures c.star_alone.result c.star_alone.ensures c.args.t refl c.then_some.result c.then_some.ensures

pub returns : goal.returns
returns c =
    let all = sym c.all_test_bytes.ensures ∙ c.if-not-all_test_bytes.false in
    let well = sym c.starts_well.ensures ∙ c.if-not-starts_well.false in
    test-local c.args.t.now all well c.in-Some.prefix c.in-Some.local c.in-Some.ensures c.is_local.result c.is_local.ensures c.then_some-2.result c.then_some-2.ensures
