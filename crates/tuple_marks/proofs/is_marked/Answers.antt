-- `is_marked` meets its contract: the word and the bit by the hash, or a word past the marks.
-- Assumes nothing.
use Rattle.std.proofs.Common.{refl, rules, tests}
use Rattle.tuple_marks.proofs.Marks.{marked-by}
use Rattle.tuple_marks.specs.Marks.{bit_of}
use Rattle.tuple_marks.proofs.is_marked.Goals as goal

pub returns : goal.returns
returns c =
    let a = c.args in
    let h = c.hash-hash in
    marked-by a.marks.now a.tail.now h.result h.ensures c.word_of.result c.word_of.ensures (bit_of h.result) refl c.get-word.result c.get-word.ensures.lookup
    c.is_none_or.result c.is_none_or.ensures (λ x p. search (rules, tests))
