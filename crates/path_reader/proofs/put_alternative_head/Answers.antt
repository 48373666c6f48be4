-- `put_alternative_head` meets its contract: the flag is the byte of the mark.
-- Assumes nothing.
use Prim.Native.Nat.{ℕ}
use mathlib.Core.Bool.{Bool, true, false}
use mathlib.Core.List.{[], ◌∷◌}
use mathlib.Core.Path.{◌≡◌, refl, ap, ◌∙◌}
use mir.Val.{bool_byte}
use Rattle.lists.specs.Lists.{over}
use Rattle.path_entries.specs.Entries.{flag_of}
use Rattle.path_reader.proofs.put_alternative_head.Goals as goal

flag : (b : Bool) → bool_byte b ≡ flag_of b
unfolding flag_of
flag true = refl
flag false = refl

pub returns : goal.returns
returns c =
    let args = c.args in
    c.copy_bytes.ensures.1 ∙ ap (λ (x : ℕ). over args.area.now args.at (x ∷ args.steps ∷ [])) (c.from.ensures ∙ flag args.descendant)
