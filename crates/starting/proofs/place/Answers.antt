-- `place` meets its contract: each answer is the row of the test that led there.
-- Assumes nothing.
use Rattle.std.proofs.lemmas.Grind.{common_steps}
use native.Mathlib.Omega.{arith}
use mathlib.Core.Path.{◌≡◌, ap, sym, ◌∙◌}
use mathlib.Core.Option.{some}
use Rattle.std.specs.declared.result.Result.{Result}
use Rattle.std.specs.declared.result.Result.TheVariants.{Err}
use Rattle.records.specs.Refusals.{first_of}
use Rattle.worlds.specs.declared.SessionRefusal.{SessionRefusal}
use Rattle.worlds.specs.declared.SessionRefusal.TheVariants.{Undefined}
use Rattle.worlds.specs.Replies.{because_of_session, reason_of}
use Rattle.event_answers.specs.StartRows.{place_rows}
use Rattle.event_answers.proofs.InPlace.{refused_for, free}
use Rattle.starting.proofs.Placing.{finished, events-many, number-absent, too-deep, good-place}
use Rattle.starting.proofs.place.Goals as goal

pub returns-in_err-in_place : goal.returns-in_err-in_place
returns-in_err-in_place c =
    let a = c.args in
    let q = c.in_err-in_place.field-0.0 in
    let k : c.from_residual.result ≡ Err q = grind (arith, common_steps) in
    ap (λ (r : Result (Unit {0}) SessionRefusal). reason_of r) k
    ∙ refused_for a.stage a.events a.absent Undefined q (sym c.in_place.ensures ∙ c.in_err-in_place.was)
    (λ (x : SessionRefusal). some (because_of_session x) ≡ first_of (place_rows a.stage a.events a.absent))
    (finished a.stage a.events a.absent) (λ x y. events-many a.stage a.events a.absent x y) (λ x y z. number-absent a.stage a.events a.absent x y z)

pub returns-then-depth_of-ge64 : goal.returns-then-depth_of-ge64
returns-then-depth_of-ge64 c =
    let a = c.args in
    let d = c.depth_of in
    let f = free a.stage a.events a.absent Undefined c.in_ok-in_place.field-0 (sym c.in_place.ensures ∙ c.in_ok-in_place.was) in
    too-deep a.stage a.events a.absent f.begun f.early f.right d.result d.ensures (omega (arith, c.if-depth_of-ge64.true))

pub returns : goal.returns
returns c =
    let a = c.args in
    let d = c.depth_of in
    let f = free a.stage a.events a.absent Undefined c.in_ok-in_place.field-0 (sym c.in_place.ensures ∙ c.in_ok-in_place.was) in
    good-place a.stage a.events a.absent f.begun f.early f.right d.result d.ensures (omega (arith, c.if-depth_of-ge64.false))
