-- `walk_record` meets its contract: without a known mark it is refused, and else it is what stands behind the mark.
-- Assumes nothing.
use native.Mathlib.Omega.{arith}
use Rattle.std.proofs.lemmas.Grind.{common_steps}
use Rattle.std.specs.declared.result.Result.TheVariants.{Err}
use Rattle.record_places.specs.declared.Refusal.TheVariants.{UnknownMark}
use Rattle.record_places.specs.Places.{Walked, Walks}
use Rattle.records.specs.Records.{parse}
use Rattle.record_walk.proofs.Framing.{no-mark, unknown-mark, known-mark}
use mathlib.Core.Path.{◌≡◌, subst, sym, ◌∙◌}
use Rattle.record_walk.proofs.walk_record.Goals as goal
use Rattle.lists.proofs.Options.{was_none, was_some}

pub returns-in_default : goal.returns-in_default
returns-in_default c = no-mark c.args.rec.now (omega (arith, c.in_default.len_below))

pub returns-in_err-mark : goal.returns-in_err-mark
returns-in_err-mark c =
    let m = c.mark_of in
    let none = was_none m.result UnknownMark c.in_err-mark.field-0.0 (sym c.ok_or.ensures.value ∙ c.in_err-mark.was) in
    let k : c.from_residual.result ≡ Err UnknownMark = grind (arith, common_steps, none.1) in
    subst (λ (w : Walked). Walks c.args.rec.now (parse c.args.rec.now) w) (sym k)
    (unknown-mark c.args.rec.now (omega (arith, c.in-len2-up.len_at_least)) m.result m.ensures none.0)

pub returns : goal.returns
returns c =
    let m = c.mark_of in
    known-mark c.args.rec.now (omega (arith, c.in-len2-up.len_at_least)) m.result m.ensures c.in_ok-mark.mark
    (was_some m.result UnknownMark c.in_ok-mark.mark (sym c.ok_or.ensures.value ∙ c.in_ok-mark.was))
    c.walk_framed.result c.walk_framed.ensures
