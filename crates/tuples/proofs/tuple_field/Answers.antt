-- `tuple_field` meets its contract: the part that `field_place` names holds the text.
-- Assumes nothing.
use Rattle.session_laws.proofs.View.{view-is-part}
use Rattle.session_spec.specs.Layout.{Part}
use Rattle.lists.specs.Lists.{part}
use mathlib.Core.Path.{ap, ◌∙◌}
use Rattle.tuples.proofs.tuple_field.Goals as goal

pub returns : goal.returns
returns c =
    let clipped = c.clipped in
    let field-place = c.field_place-place in
    let args = c.args in
    clipped.ensures ∙ ap (λ (p : Part). part args.used.now p.start p.size) field-place.ensures ∙ view-is-part args.used.now args.number args.field
