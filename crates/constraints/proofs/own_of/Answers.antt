-- `own_of` meets its contract: the ID that is found, and the records behind it before the next one.
-- Assumes nothing.
use Prim.Native.Nat.{◌+◌}
use lib.ListN.{length}
use lib.Seq.{length-take-le}
use mathlib.Core.Path.{sym}
use Rattle.constraints.proofs.Owns.{own-none, own_room, own-some}
use Rattle.constraints.proofs.own_of.Goals as goal

pub slice_bounds-result-end : goal.slice_bounds-result-end
slice_bounds-result-end c =
    let a = c.args in
    let from = c.from_id-from in
    let more = c.until_id in
    sym
    (length-take-le (length c.in-Some.id.now + more.result) from.result.now
    (own_room a.used.now a.number from.result.now from.ensures c.in-Some.id.now c.in-Some.behind.now (sym c.in-Some.ensures.cuts) more.result more.ensures))

pub returns-in-Some : goal.returns-in-Some
returns-in-Some c =
    let a = c.args in
    let from = c.from_id-from in
    let more = c.until_id in
    own-some a.used.now a.number from.result.now from.ensures c.in-Some.id.now c.in-Some.behind.now (sym c.in-Some.ensures.cuts) more.result more.ensures

pub returns-in-None : goal.returns-in-None
returns-in-None c =
    let a = c.args in
    let from = c.from_id-from in
    own-none a.used.now a.number from.result.now from.ensures (sym c.in-None.ensures.cuts)
