-- `is_crowded` meets its contract.
-- Assumes nothing.
use Rattle.std.proofs.Common.{refl, le-ltb, ◌∙◌, arith}
use Rattle.tuple_index.proofs.Steps.{crowd-headless, crowd-half, crowd-room}
use Rattle.tuple_index.proofs.Tables.{head-of}
use Rattle.tuple_index.proofs.is_crowded.Goals as goal

pub returns-in_default : goal.returns-in_default
returns-in_default c = crowd-headless c.args.table.now c.in_default.ensures

pub bounds-table-3 : goal.bounds-table-3
bounds-table-3 c = omega (arith, (head-of _ _ c.in-Some.ensures).long)

pub returns-then-slots-entries : goal.returns-then-slots-entries
returns-then-slots-entries c =
    let o = head-of _ _ c.in-Some.ensures in
    crowd-room c.args.table.now _ _ refl o.entries o.said c.if-slots-entries.true

pub returns-else-slots-entries : goal.returns-else-slots-entries
returns-else-slots-entries c =
    let o = head-of _ _ c.in-Some.ensures in
    le-ltb _ _ c.if-slots-entries.false ∙ crowd-half c.args.table.now _ _ refl o.entries c.if-slots-entries.false
