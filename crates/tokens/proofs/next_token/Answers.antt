-- `next_token` meets its contract: a law for each way out.
-- Assumes nothing.
use native.Mathlib.Omega.{arith}
use mathlib.Core.Path.{ap, sym, ◌∙◌}
use Rattle.std.specs.Option.{option_copied}
use Rattle.std.proofs.lemmas.Result.{err_from_is_err_and}
use Rattle.reasons.specs.Reasons.{run_start}
use Rattle.tokens.proofs.Scanning.{first-none, first-there, scan-none, scan-name, scan-slashes, scan-slash, scan-colons, scan-colon, scan-at, scan-star, scan-dot, scan-bad}
use Rattle.tokens.proofs.next_token.Goals as goal
use Rattle.tokens.proofs.next_token.Goals.{in-47, in-47-2, in-58, in-64, in-42, in-46}

pub returns-in_default : goal.returns-in_default
returns-in_default c = scan-none c.args.s.now (first-none c.args.s.now (sym (ap option_copied c.in_default.is) ∙ c.first.ensures.value))

pub returns-in_err-name_first : goal.returns-in_err-name_first
returns-in_err-name_first c =
    let first = first-there c.args.s.now c.in-Some.field-0.now c.in-Some.ensures.value in
    let p = err_from_is_err_and c.from_residual.result c.from_residual.ensures.1 in
    rw (p.1, p.2) (c.in_err-name_first.ensures ∙ scan-name c.args.s.now first.0 c.requires (ap run_start first.1 ∙ sym c.run_start.ensures ∙ c.if-run_start.true))

pub returns-then-run_start : goal.returns-then-run_start
returns-then-run_start c =
    let first = first-there c.args.s.now c.in-Some.field-0.now c.in-Some.ensures.value in
    c.in_ok-name_first.ensures ∙ scan-name c.args.s.now first.0 c.requires (ap run_start first.1 ∙ sym c.run_start.ensures ∙ c.if-run_start.true)

pub returns-in-58-2 : goal.returns-in-58-2
returns-in-58-2 c =
    let first = first-there c.args.s.now c.in-Some.field-0.now c.in-Some.ensures.value in
    scan-colon c.args.s.now first.0 (first.1 ∙ c.in-58.is) (rw c.in-58.is at (sym c.starts_with-twice.ensures ∙ c.if-twice-2.false))

pub returns-in_default-c : goal.returns-in_default-c
returns-in_default-c c =
    let first = first-there c.args.s.now c.in-Some.field-0.now c.in-Some.ensures.value in
    scan-bad c.args.s.now first.0 c.requires (ap run_start first.1 ∙ sym c.run_start.ensures ∙ c.if-run_start.false) (omega (arith, first.1)) (omega (arith, first.1)) (omega (arith, first.1)) (omega (arith, first.1)) (omega (arith, first.1))

pub returns : goal.returns
returns c =
    let first = first-there c.args.s.now c.in-Some.field-0.now c.in-Some.ensures.value in
    elim c.match-c.branch [
      | in-47 w ↦ rw w.more-is (scan-slashes c.args.s.now first.0 (first.1 ∙ w.in-47.is) (rw w.in-47.is at (sym c.starts_with-twice.ensures ∙ w.if-twice.true)))
      | in-47-2 w ↦ rw w.more-is (scan-slash c.args.s.now first.0 (first.1 ∙ w.in-47.is) (rw w.in-47.is at (sym c.starts_with-twice.ensures ∙ w.if-twice.false)))
      | in-58 w ↦ rw w.more-is (scan-colons c.args.s.now first.0 (first.1 ∙ w.in-58.is) (rw w.in-58.is at (sym c.starts_with-twice.ensures ∙ w.if-twice-2.true)))
      | in-64 w ↦ rw w.more-is (scan-at c.args.s.now first.0 (first.1 ∙ w.in-64.is))
      | in-42 w ↦ rw w.more-is (scan-star c.args.s.now first.0 (first.1 ∙ w.in-42.is))
      | in-46 w ↦ rw w.more-is (scan-dot c.args.s.now first.0 (first.1 ∙ w.in-46.is))
    ]
