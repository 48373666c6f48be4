-- `is_lacking` meets its contract: the list first, then the search for the answers that are there.
-- Assumes nothing.
use Rattle.std.proofs.Common.{rules, tests}
use Rattle.std.proofs.Math.Logic.{∥∥₁_elim}
use mathlib.Core.Bool.{Bool-set}
use Rattle.tuple_places.specs.Places.{Noted}
use Rattle.finishing.proofs.Walking.{asked}
use Rattle.finishing.proofs.is_lacking.Goals as goal

pub returns : goal.returns
returns c =
    let a = c.args in
    let k = c.byte_at-constraint in
    ∥∥₁_elim a.t.now.noted (Bool-set _ _)
    (λ (noted : Noted a.t.now.places.now a.t.now.used.now). asked a.t.now.refs a.t.now.used.now a.front.now k.result k.ensures c.ref_at.result c.ref_at.ensures c.is_some_and.result c.is_some_and.ensures (λ n q. search (rules, tests)))
