-- `is_blank` meets its contract: all is white space exactly if the white space that stands first is all.
-- Assumes nothing.
use lib.Dec.{eqb}
use lib.ListN.{length}
use mathlib.Core.Path.{ap, ◌∙◌}
use Prim.Native.Nat.{ℕ}
use Rattle.tokens.proofs.Runs.{gap-all}
use Rattle.tokens.proofs.is_blank.Goals as goal

pub returns : goal.returns
returns c =
    let args = c.args in
    let gap-length = c.gap_length in
    ap (λ (n : ℕ). eqb n (length args.s.now)) gap-length.ensures ∙ gap-all args.s.now
