-- `find_behind` meets its contract: the walk from the place on, and as many more as stand before it.
-- Assumes nothing.
use Rattle.std.proofs.Common.{◌≡◌, ◌∙◌, ap, drop, rules, arith, refl}
use Rattle.std.proofs.lemmas.Grind.{common_steps}
use mathlib.Core.Option.{none, some}
use Rattle.lists.specs.Answers.{given}
use Rattle.tuple_index.proofs.Steps.{behind_few, behind-is}
use Rattle.tuple_index.proofs.find_behind.Goals as goal

pub returns-in_err-found : goal.returns-in_err-found
returns-in_err-found c =
    let a = c.args in
    let d : c.unwrap_or.result.now ≡ drop c.args.from c.args.used.now = grind (arith, common_steps) in
    ap given c.from_residual.ensures ∙ behind-is a.used.now a.tail.now c.unwrap_or.result.now a.from a.count d none c.in_err-found.ensures

pub overflow_add-result : goal.overflow_add-result
overflow_add-result c =
    let a = c.args in
    let d : c.unwrap_or.result.now ≡ drop c.args.from c.args.used.now = grind (arith, common_steps) in
    let b = behind_few a.used.now a.tail.now c.unwrap_or.result.now a.from a.count d (some c.in_ok-found.found) c.in_ok-found.ensures c.in_ok-found.found refl in
    search rules

pub returns : goal.returns
returns c =
    let a = c.args in
    let d : c.unwrap_or.result.now ≡ drop c.args.from c.args.used.now = grind (arith, common_steps) in
    behind-is a.used.now a.tail.now c.unwrap_or.result.now a.from a.count d (some c.in_ok-found.found) c.in_ok-found.ensures
