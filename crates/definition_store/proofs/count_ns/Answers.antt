-- `count_ns` meets its contract. Where nothing stands against it there are fewer than 64 bindings, so that one more is a number.
-- Assumes nothing.
use Rattle.std.proofs.Common.{◌≡◌}
use Rattle.std.proofs.lemmas.Grind.{common_steps}
use Rattle.std.specs.declared.option.Option.TheVariants.{None}
use Rattle.definition_store.specs.Store.{ns_verdict}
use Rattle.definition_store.specs.Counting.{with_ns}
use Rattle.definition_store.proofs.Judging.{ns-room, is_good, stands-against, nothing-against}
use mathlib.Core.Path.{sym, ◌∙◌}
use native.Mathlib.Omega.{arith}
use Rattle.definition_store.proofs.count_ns.Goals as goal

pub returns-in_err-ok : goal.returns-in_err-ok
returns-in_err-ok c =
    let a = c.args in
    let v = c.judge_ns in
    let k : c.from_residual.result ≡ None = grind (arith, common_steps) in
    k ∙ stands-against v.result (ns_verdict a.used.now a.t a.target a.prefix.now) v.ensures (with_ns a.t) (sym c.ok.ensures.value ∙ c.in_err-ok.was)

pub overflow_add-result : goal.overflow_add-result
overflow_add-result c =
    let a = c.args in
    let v = c.judge_ns in
    let room = ns-room a.used.now a.t a.target a.prefix.now (is_good v.result (ns_verdict a.used.now a.t a.target a.prefix.now) v.ensures (with_ns a.t) c.in_ok-ok.field-0 (sym c.ok.ensures.value ∙ c.in_ok-ok.was)) in
    omega arith

pub returns : goal.returns
returns c =
    let a = c.args in
    let v = c.judge_ns in
    nothing-against v.result (ns_verdict a.used.now a.t a.target a.prefix.now) v.ensures (with_ns a.t) c.in_ok-ok.field-0 (sym c.ok.ensures.value ∙ c.in_ok-ok.was)
