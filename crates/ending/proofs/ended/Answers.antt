-- `ended` meets its contract: the counts are packed.
-- Assumes nothing.
use Prim.Native.Nat.{ℕ, ◌%◌}
use mathlib.Core.Path.{ap, ◌∙◌}
use Rattle.open_scopes.specs.Counting.{packed}
use Rattle.ending.proofs.ended.Goals as goal

pub returns : goal.returns
returns c =
    let a = c.args in
    c.pack.ensures ∙ ap (λ (k : ℕ). packed (record { stage = a.depth; scopes = k % 32; selections = a.first % 64; opened = a.c.opened })) c.left_open-left.ensures
