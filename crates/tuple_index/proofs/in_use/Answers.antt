-- `in_use` meets its contract: the part behind the head, as far as its last word says.
-- Assumes nothing.
use Rattle.std.proofs.Common.{List, ℕ, refl, ap, ◌∙◌}
use denote.Ref.{Bor}
use Rattle.tuple_index.proofs.Tables.{part-used}
use Rattle.tuple_index.proofs.in_use.Goals as goal

pub returns : goal.returns
returns c =
    ap (λ (x : Bor (List ℕ)). x.now) c.unwrap_or.ensures
    ∙ part-used c.args.table.now c.slots_end.result c.slots_end.ensures c.get.result c.get.ensures.lookup.0 _ refl
