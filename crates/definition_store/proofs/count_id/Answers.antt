-- `count_id` meets its contract. Where nothing stands against it there are fewer than 32 constraints, so that one more is a number.
-- Assumes nothing.
use Rattle.std.proofs.Common.{◌≡◌}
use Rattle.std.proofs.lemmas.Grind.{common_steps}
use Rattle.std.specs.declared.option.Option.TheVariants.{None}
use Rattle.definition_store.specs.Store.{id_verdict}
use Rattle.definition_store.specs.Counting.{with_id}
use Rattle.definition_store.proofs.Judging.{id-room, is_good, stands-against, nothing-against}
use mathlib.Core.Path.{sym, ◌∙◌}
use native.Mathlib.Omega.{arith}
use Rattle.definition_store.proofs.count_id.Goals as goal

pub returns-in_err-ok : goal.returns-in_err-ok
returns-in_err-ok c =
    let a = c.args in
    let v = c.judge_id in
    let k : c.from_residual.result ≡ None = grind (arith, common_steps) in
    k ∙ stands-against v.result (id_verdict a.t) v.ensures (with_id a.fields a.t) (sym c.ok.ensures.value ∙ c.in_err-ok.was)

pub overflow_add-result : goal.overflow_add-result
overflow_add-result c =
    let a = c.args in
    let v = c.judge_id in
    let room = id-room a.t (is_good v.result (id_verdict a.t) v.ensures (with_id a.fields a.t) c.in_ok-ok.field-0 (sym c.ok.ensures.value ∙ c.in_ok-ok.was)) in
    omega arith

pub returns : goal.returns
returns c =
    let a = c.args in
    let v = c.judge_id in
    nothing-against v.result (id_verdict a.t) v.ensures (with_id a.fields a.t) c.in_ok-ok.field-0 (sym c.ok.ensures.value ∙ c.in_ok-ok.was)
