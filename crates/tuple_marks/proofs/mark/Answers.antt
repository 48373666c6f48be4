-- `mark` meets its contract: the bit joins its word; a word past the marks changes nothing.
-- Assumes nothing.
use Rattle.tuple_marks.proofs.Marks.{mark-past, mark-in}
use Rattle.tuple_marks.proofs.mark.Goals as goal

pub returns-then-marks-at : goal.returns-then-marks-at
returns-then-marks-at c =
    let args = c.args in
    let hash = c.hash-hash in
    let word_of = c.word_of-at in
    mark-past args.marks.now args.tail.now hash.result hash.ensures word_of.result word_of.ensures c.if-marks-at.true

pub returns : goal.returns
returns c =
    let args = c.args in
    let hash = c.hash-hash in
    let word_of = c.word_of-at in
    let bit-of = c.bit_of in
    mark-in args.marks.now args.tail.now hash.result hash.ensures word_of.result word_of.ensures bit-of.result bit-of.ensures
