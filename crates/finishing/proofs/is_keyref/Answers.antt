-- `is_keyref` meets its contract, by the place that its constraint has in the list.
-- Assumes nothing.
use Rattle.std.specs.Prelude.{is_some}
use Prim.Native.Nat.{ℕ}
use lib.ListN.{get_or}
use mathlib.Core.Path.{ap, ◌∙◌}
use Rattle.event_answers.specs.Fives.{Ref, of_keyref, no_ref}
use Rattle.finishing.proofs.is_keyref.Goals as goal

pub returns : goal.returns
unfolding of_keyref
returns c =
    let a = c.args in
    c.is_some.ensures ∙ ap (λ (r : Ref). is_some r) (c.ref_at.ensures ∙ ap (λ (k : ℕ). get_or a.refs.list k no_ref) c.byte_at-number.ensures)
