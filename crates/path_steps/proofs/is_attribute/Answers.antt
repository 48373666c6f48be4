-- `is_attribute` meets its contract: by what must hold besides, and then by the word.
-- Assumes nothing.
use mathlib.Core.Path.{sym, ◌∙◌}
use Rattle.path_steps.proofs.Steps.{attribute-selector, attribute-more, attribute-is}
use Rattle.path_steps.proofs.is_attribute.Goals as goal
use Rattle.path_steps.proofs.is_attribute.Goals.{then-is_field, else-is_field}

pub returns-then-is_blank : goal.returns-then-is_blank
returns-then-is_blank c =
    elim c.if-is_field.branch [
      | then-is_field w ↦ attribute-is c.args.name.now c.args.v.now c.args.kind (sym c.is_field.ensures ∙ w.if-is_field.true) w.is_blank.result w.is_blank.ensures (sym w.value-is ∙ c.if-is_blank.true) c.spelled.result c.spelled.ensures
      | else-is_field w ↦ cc
    ]

pub returns-else-is_blank : goal.returns-else-is_blank
returns-else-is_blank c =
    elim c.if-is_field.branch [
      | then-is_field w ↦ c.if-is_blank.false ∙ attribute-more c.args.name.now c.args.v.now c.args.kind (sym c.is_field.ensures ∙ w.if-is_field.true) w.is_blank.result w.is_blank.ensures (sym w.value-is ∙ c.if-is_blank.false)
      | else-is_field w ↦ c.if-is_blank.false ∙ attribute-selector c.args.name.now c.args.v.now c.args.kind (sym c.is_field.ensures ∙ w.if-is_field.false)
    ]
