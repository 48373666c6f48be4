-- `half_text` meets its contract: the two bytes before the text say how long it is.
-- Assumes nothing.
use Prim.Native.Nat.{ℕ}
use mathlib.Core.Path.{ap, ◌∙◌}
use Rattle.lists.specs.Lists.{part}
use Rattle.matching.proofs.Names.{half_is}
use Rattle.matching.proofs.half_text.Goals as goal

pub returns : goal.returns
returns c =
    let clipped = c.clipped in
    let args = c.args in
    clipped.ensures ∙ ap (λ (n : ℕ). part args.h.now 2 n) (c.from.ensures ∙ c.two_at.ensures) ∙ half_is args.h.now
