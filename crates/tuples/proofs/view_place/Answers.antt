-- `view_place` meets its contract: it is the field's place in the part that is looked at.
-- Assumes nothing.
use Rattle.session_spec.specs.Layout.{field_part}
use Rattle.records.specs.Readers.{Bytes}
use mathlib.Core.Path.{ap, ◌∙◌}
use Rattle.tuples.proofs.view_place.Goals as goal

pub returns : goal.returns
returns c =
    let place = c.field_place in
    let seen = c.readable-part in
    let args = c.args in
    place.ensures ∙ ap (λ (s : Bytes). field_part s args.number args.field) seen.ensures
