-- `star_alone` meets its contract: the star alone, or a text whose piece before the first star is the whole.
-- Assumes nothing.
use Prim.Native.Nat.{ℕ}
use lib.ListN.{length}
use lib.Dec.{eqb}
use mathlib.Core.Path.{ap, sym, ◌∙◌}
use Rattle.path_reader.proofs.Tests.{alone-star, alone-none}
use Rattle.path_reader.proofs.star_alone.Goals as goal

pub returns-then-same : goal.returns-then-same
returns-then-same c = c.if-same.true ∙ alone-star c.args.t.now (sym c.same.ensures ∙ c.if-same.true)

pub returns-else-same : goal.returns-else-same
returns-else-same c =
    ap (λ (n : ℕ). eqb n (length c.args.t.now)) c.piece_length.ensures ∙ alone-none c.args.t.now (sym c.same.ensures ∙ c.if-same.false)
