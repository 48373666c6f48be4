-- `attribute_step` meets its contract: a law for each way out.
-- Assumes nothing.
use mathlib.Core.Path.{◌≡◌, sym, ◌∙◌}
use Rattle.std.specs.declared.option.Option.TheVariants.{Some}
use Rattle.path_steps.proofs.Steps.{at_more, at-selector, at-prefix}
use Rattle.path_steps.proofs.attribute_step.Goals as goal
use Rattle.path_steps.proofs.attribute_step.Goals.{In_ok-t}
use Rattle.lists.proofs.Options.{was_some}

-- the name test that stands first, where one does
test-is : (c : In_ok-t) → c.test_first.result ≡ Some c.in_ok-t.t
test-is c = was_some _ _ _ (sym c.ok_or.ensures.value ∙ c.in_ok-t.was)

pub returns-then-not-is_blank : goal.returns-then-not-is_blank
returns-then-not-is_blank c =
    at_more c.args.kind _ _ _ c.test_first.ensures _ (test-is (goal.at.returns-then-not-is_blank c).In_ok-t) _ c.is_blank.ensures
    c.if-not-is_blank.true

pub returns-then-not-is_field : goal.returns-then-not-is_field
returns-then-not-is_field c =
    at-selector c.args.kind _ _ _ c.test_first.ensures _ (test-is (goal.at.returns-then-not-is_field c).In_ok-t) _ c.is_blank.ensures
    c.if-not-is_blank.false (sym c.is_field.ensures ∙ c.if-not-is_field.true)

pub returns : goal.returns
returns c =
    at-prefix c.args.kind _ _ _ c.test_first.ensures _ (test-is (goal.at.returns c).In_ok-t) _ c.is_blank.ensures
    c.if-not-is_blank.false (sym c.is_field.ensures ∙ c.if-not-is_field.false) _ c.require_prefix.ensures
