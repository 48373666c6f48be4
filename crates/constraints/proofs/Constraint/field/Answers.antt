-- `field` meets its contract: what the walk over the texts comes to.
-- Assumes nothing.
use lib.ListN.{get_or}
use mathlib.Core.List.{List, []}
use mathlib.Core.Path.{refl, ap, ◌∙◌}
use Rattle.std.proofs.lemmas.Iterator.Consumers.{nth_from_yields_List}
use Rattle.record_walk.proofs.Members.{texts-walk}
use Rattle.texts.specs.Texts.{Text}
use Rattle.constraints.specs.Constraints.{texts_left}
use Rattle.constraints.proofs.Fields.{field-is}
use Rattle.constraints.proofs.Constraint.field.Goals as goal

pub returns : goal.returns
returns c =
    let i = c.args.i in
    field-is (texts_left c.fields.result) i c.nth.result _ c.unwrap_or.result (nth_from_yields_List c.nth.result c.nth.new.self i c.nth.ensures.ran (texts-walk _)) c.unwrap_or.ensures refl
    ∙ ap (λ (l : List Text). get_or l i []) c.fields.ensures
