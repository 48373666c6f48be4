-- `alternative_at` meets its contract: a law for each way out, with what the walk over the steps told.
-- Assumes nothing.
use Prim.Native.Nat.{ℕ}
use mathlib.Core.Path.{ap, ◌∙◌}
use Rattle.bindings.specs.Bindings.{bound_by}
use Rattle.matching.specs.Walks.{may_match}
use Rattle.matching.proofs.Walking.{alt-none, alt-short, alt-cut, alt-no-end, alt-whole}
use Rattle.matching.proofs.alternative_at.Goals as goal

pub returns-in_err-flag : goal.returns-in_err-flag
returns-in_err-flag c =
    let on = c.args.on.now in
    rw c.from_residual.ensures (alt-none (bound_by c.args.b.now) on.names.now on.base on.depth c.args.s.now c.in_err-flag.ensures.cases)

pub returns-in_err-n : goal.returns-in_err-n
returns-in_err-n c =
    let on = c.args.on.now in
    let q = c.in_ok-flag in
    rw c.from_residual-in_err-n.ensures
    (alt-short (bound_by c.args.b.now) on.names.now on.base on.depth c.args.s.now q.rest.now q.field-0-0.now q.ensures.cases.0 c.in_err-n.ensures.cases)

pub returns-in_err-matched : goal.returns-in_err-matched
returns-in_err-matched c =
    let on = c.args.on.now in
    let d = c.in_ok-flag in
    let n = c.in_ok-n in
    let steps = c.from-steps in
    let live = c.may_match-live in
    let from = c.saturating_sub-from in
    let may = live.ensures ∙ ap (λ (m : ℕ). may_match d.field-0-0.now steps.result m) c.saturating_sub.ensures in
    rw c.from_residual-in_err-matched.ensures
    (alt-cut (bound_by c.args.b.now) on.names.now on.base on.depth c.args.s.now d.rest.now n.rest.now d.field-0-0.now n.field-0-0.now d.ensures.cases.0 n.ensures.cases.0
    steps.result steps.ensures live.result may from.result from.ensures c.in_err-matched.ensures)

pub returns-in_err-attribute : goal.returns-in_err-attribute
returns-in_err-attribute c =
    let on = c.args.on.now in
    let d = c.in_ok-flag in
    let n = c.in_ok-n in
    let steps = c.from-steps in
    let live = c.may_match-live in
    let from = c.saturating_sub-from in
    let walked = c.in_ok-matched in
    let may = live.ensures ∙ ap (λ (m : ℕ). may_match d.field-0-0.now steps.result m) c.saturating_sub.ensures in
    rw c.from_residual-in_err-attribute.ensures
    (alt-no-end (bound_by c.args.b.now) on.names.now on.base on.depth c.args.s.now d.rest.now n.rest.now d.field-0-0.now n.field-0-0.now d.ensures.cases.0 n.ensures.cases.0
    steps.result steps.ensures live.result may from.result from.ensures walked.matched walked.rest walked.ensures c.in_err-attribute.ensures)

pub returns : goal.returns
returns c =
    let on = c.args.on.now in
    let d = c.in_ok-flag in
    let n = c.in_ok-n in
    let steps = c.from-steps in
    let live = c.may_match-live in
    let from = c.saturating_sub-from in
    let walked = c.in_ok-matched in
    let end = c.in_ok-attribute in
    let may = live.ensures ∙ ap (λ (m : ℕ). may_match d.field-0-0.now steps.result m) c.saturating_sub.ensures in
    alt-whole (bound_by c.args.b.now) on.names.now on.base on.depth c.args.s.now d.rest.now n.rest.now d.field-0-0.now n.field-0-0.now d.ensures.cases.0 n.ensures.cases.0
    steps.result steps.ensures live.result may from.result from.ensures walked.matched walked.rest walked.ensures end.attribute end.behind end.ensures
