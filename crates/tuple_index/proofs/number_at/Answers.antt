-- `number_at` meets its contract: the second of the slot's words, where it is there and taken.
-- Assumes nothing.
use Rattle.std.proofs.Common.{arith}
use Rattle.tuple_index.specs.Index.{slots_of}
use Rattle.tuple_index.proofs.Words.{slots-many, past-row, found-none, found-some}
use Rattle.tuple_index.proofs.number_at.Goals.{then-slots-at-via-then-slots-at, then-slots-at-via-else-slots-at+then-slots-at-eq0}
use Rattle.tuple_index.proofs.number_at.Goals as goal

pub returns-then-slots-at : goal.returns-then-slots-at
returns-then-slots-at c =
    elim c.then-slots-at.branch [
      | then-slots-at-via-then-slots-at w ↦ (past-row (slots_of c.args.slots.now) c.args.at (omega (arith, slots-many c.args.slots.now, w.if-slots-at.true))).0
      | then-slots-at-via-else-slots-at+then-slots-at-eq0 w ↦ found-none c.args.slots.now c.args.at w.if-slots-at.false w.if-slots-at-eq0.true
    ]

pub returns : goal.returns
returns c = found-some c.args.slots.now c.args.at c.if-slots-at.false c.if-slots-at-eq0.false
