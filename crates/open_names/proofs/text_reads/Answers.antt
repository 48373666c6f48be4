-- `text_reads` meets its contract. A length must be there, and then so many bytes.
-- Assumes nothing.
use Prim.Native.Nat.{◌-◌}
use borrow.Author.Tests.{lt-leb}
use lib.Dec.{leb}
use lib.ListN.{length}
use mathlib.Core.Path.{ap, ◌∙◌}
use Rattle.open_names.proofs.Reading.{text-short, text-there}
use Rattle.open_names.proofs.text_reads.Goals as goal

pub returns-then-half-ge2 : goal.returns-then-half-ge2
returns-then-half-ge2 c =
    let s = c.args.half.now in
    ap (λ n. leb n (length s - 2)) (c.from.ensures ∙ c.two_at.ensures) ∙ text-there s c.if-half-ge2.true

pub returns-else-half-ge2 : goal.returns-else-half-ge2
returns-else-half-ge2 c = let s = c.args.half.now in lt-leb 2 (length s) c.if-half-ge2.false ∙ text-short s c.if-half-ge2.false
