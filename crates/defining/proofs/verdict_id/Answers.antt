-- `verdict_id` meets its contract, by what reading the used bytes found.
-- Assumes nothing.
use Rattle.std.proofs.Common.{arith, ◌≡◌}
use Rattle.std.proofs.lemmas.Grind.{common_steps}
use Rattle.std.specs.declared.result.Result.TheVariants.{Err}
use Rattle.definition_store.specs.declared.Against.TheVariants.{Full}
use Rattle.defining.proofs.Judging.{id-unread, id-read}
use lib.ListN.{take}
use mathlib.Core.Path.{refl, ap, sym, ◌∙◌}
use Rattle.session_spec.specs.Definitions.{read_definitions}
use Rattle.definition_store.specs.Store.{Verdict, defined_by, stands_against}
use Rattle.defining.proofs.verdict_id.Goals as goal
use Rattle.lists.proofs.Options.{was_none, was_some}

pub returns-in_err-tally : goal.returns-in_err-tally
returns-in_err-tally c =
    let args = c.args in
    let used = c.used_of-used in
    let read = defined_by (read_definitions used.result.now) in
    let none = was_none read Full c.in_err-tally.field-0.0 (sym c.tally_of.ensures ∙ c.in_err-tally.was) in
    let k : c.from_residual.result ≡ Err Full = grind (arith, common_steps, none.1) in
    ap (λ (v : Verdict). stands_against v) k
    ∙ id-unread used.result.now (take args.n.definitions args.defs.now) used.ensures read refl none.0

pub returns : goal.returns
returns c =
    let args = c.args in
    let used = c.used_of-used in
    let read = defined_by (read_definitions used.result.now) in
    id-read used.result.now (take args.n.definitions args.defs.now) used.ensures read refl
    c.in_ok-tally.tally (was_some read Full c.in_ok-tally.tally (sym c.tally_of.ensures ∙ c.in_ok-tally.was)) (stands_against c.judge_id.result) c.judge_id.ensures
