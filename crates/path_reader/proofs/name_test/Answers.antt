-- `name_test` meets its contract: each way it returns is a law of proofs/Names.antt.
-- Assumes nothing.
use native.Mathlib.Omega.{arith}
use mathlib.Core.Path.{refl, sym, ◌∙◌}
use Rattle.path_reader.proofs.Tests.{test-start}
use Rattle.path_reader.proofs.Names.{name_fits, name-plain, name-prefixed}
use Rattle.path_reader.proofs.name_test.Goals as goal

pub returns-then-not-starts_well : goal.returns-then-not-starts_well
returns-then-not-starts_well c = test-start c.args.t.now (sym c.starts_well.ensures ∙ c.if-not-starts_well.true)

pub split_at-requires : goal.split_at-requires
split_at-requires c = omega (arith, name_fits c.args.t.now)

pub returns-in_default : goal.returns-in_default
returns-in_default c =
    let well = sym c.starts_well.ensures ∙ c.if-not-starts_well.false in
    name-plain c.args.t.now well c.args.t refl (omega (arith, c.in_default.ensures.cases, c.name_length.ensures, c.split_at.ensures.back_len))

pub returns-then-is_name : goal.returns-then-is_name
returns-then-is_name c =
    let well = sym c.starts_well.ensures ∙ c.if-not-starts_well.false in
    let first = c.in-Some.ensures.cases.0 in
    name-prefixed c.args.t.now well c.split_at.result.0 c.in-Some.local (cc) (cc first) (sym c.is_name.ensures ∙ c.if-is_name.true)
