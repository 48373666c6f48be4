-- `texts_end` meets its contract: each number of the range reads one more text.
-- Assumes nothing.
use native.Mathlib.Omega.{arith}
use mathlib.Core.Path.{refl, subst, ◌∙◌}
use lib.ListN.{length}
use Rattle.std.proofs.Common.{ℕ, rules}
use Rattle.std.proofs.lemmas.List.FromFn.{length-range_with_len}
use Rattle.std.proofs.lemmas.Iterator.{YieldsList-from_range}
use Rattle.std.proofs.lemmas.Iterator.Consumers.{count_from_yields_List}
use Rattle.records.specs.Readers.{times, read_text}
use Rattle.record_places.specs.Places.{Reads, texts_at}
use Rattle.record_walk.proofs.Members.{texts-passed}
use Rattle.record_walk.proofs.texts_end.Goals as goal

pub returns : goal.returns
returns c =
    let a = c.args in
    let d = c.fold.ensures.ran in
    let e = count_from_yields_List _ (length d.0) (d.0, d.2, refl) (YieldsList-from_range 0 a.n a.n (search rules) (omega arith)) in
    subst (λ (k : ℕ). Reads (times k read_text) a.s.now a.at c.fold.result (texts_at a.s.now a.at k)) (e ∙ length-range_with_len 0 a.n)
    (texts-passed _ _ a.s.now (λ i x r q k. search (rules)) d.0 _ _ refl d.3)
