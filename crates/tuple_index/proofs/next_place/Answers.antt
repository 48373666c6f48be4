-- `next_place` meets its contract: no place before the first, none past the end, no whole record, or the place behind the record as far as four bytes hold it.
-- Assumes nothing.
use Rattle.std.proofs.Common.{◌≡◌, ◌<◌, ◌≤◌, ◌-◌, ◌+◌, ap, ◌∙◌, arith, length, drop}
use Rattle.std.proofs.lemmas.Grind.{common_steps}
use Rattle.std.specs.declared.option.Option.TheVariants.{None}
use mathlib.Core.Option.{none, some}
use Rattle.lists.specs.Answers.{given}
use Rattle.tuple_index.proofs.Steps.{next-none, next-by, next_past, held}
use Rattle.tuple_index.proofs.next_place.Goals as goal

pub returns-in_err-from : goal.returns-in_err-from
returns-in_err-from c =
    let k : c.from_residual.result ≡ None = grind (arith, common_steps) in
    let l : c.args.place < 1 = grind (arith, common_steps) in
    ap given k ∙ next-none c.args.used.now c.args.place l

pub returns-in_err-get : goal.returns-in_err-get
returns-in_err-get c =
    let k : c.from_residual-in_err-get.result ≡ None = grind (arith, common_steps) in
    let l : 1 ≤ c.args.place = grind (arith, common_steps) in
    let m : length c.args.used.now < c.args.place - 1 = grind (arith, common_steps) in
    ap given k ∙ next_past c.args.used.now c.args.place l m

pub returns-in_err-front : goal.returns-in_err-front
returns-in_err-front c =
    let k : c.from_residual-in_err-front.result ≡ None = grind (arith, common_steps) in
    let l : 1 ≤ c.args.place = grind (arith, common_steps) in
    let s : c.in_ok-get.field-0.now ≡ drop (c.args.place - 1) c.args.used.now = grind (arith, common_steps) in
    ap given k ∙ next-by c.args.used.now c.args.place l c.in_ok-get.field-0.now s none c.in_err-front.ensures.cuts

pub returns : goal.returns
returns c =
    let l : 1 ≤ c.args.place = grind (arith, common_steps) in
    let s : c.in_ok-get.field-0.now ≡ drop (c.args.place - 1) c.args.used.now = grind (arith, common_steps) in
    let n = next-by c.args.used.now c.args.place l c.in_ok-get.field-0.now s (some (c.in_ok-front.front.now, c.in_ok-front.field-0-1.now)) c.in_ok-front.ensures.cuts in
    held (c.args.place + length c.in_ok-front.front.now) c.try_from.result c.try_from.ensures c.ok.result c.ok.ensures.value ∙ n
