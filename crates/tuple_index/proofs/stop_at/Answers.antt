-- `stop_at` meets its contract: the first of the pieces that is a free slot or passes.
-- Assumes nothing.
use Rattle.std.proofs.Common.{◌||◌, rules, tests}
use Rattle.std.proofs.lemmas.Iterator.Search.{position_from_yields_List}
use Rattle.tuple_index.specs.Index.{is_free, slots_of}
use Rattle.tuple_index.specs.Covers.{passing}
use Rattle.tuple_index.proofs.Words.{slot-walk, stop-place}
use Rattle.tuple_index.proofs.stop_at.Goals as goal

pub returns : goal.returns
returns c =
    let a = c.args in
    stop-place (passing a.used.now a.sought.now) (slots_of a.slots.now) c.position.result
    (position_from_yields_List (λ s. is_free s || passing a.used.now a.sought.now s) c.position.new.self _ c.position.result c.position.ensures.ran
    (slot-walk _ a.slots.now c.chunks_exact.ensures.size c.chunks_exact.ensures.rest) (λ x b q k. search (rules, tests)))
