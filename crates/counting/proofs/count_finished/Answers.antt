-- `count_finished` meets its contract: one selection after the other; what is left to raise is read off the place.
-- Assumes nothing.
use native.Mathlib.Omega.{arith}
use Rattle.counting.proofs.Raising.{all-raised, one-raised, finished-more, finished-end}
use Rattle.counting.specs.Places.{finished_places}
use Rattle.open_scopes.specs.declared.Scope.{Scope}
use Rattle.open_scopes.specs.OpenScopes.{open_of}
use Prim.Native.Nat.{◌-◌}
use mathlib.Core.Path.{ap}
use Rattle.counting.proofs.count_finished.Goals as goal

pub loop-j-preserved : goal.loop-j-preserved
loop-j-preserved c =
    let a = c.args in
    let l = c.loop-j in
    one-raised a.totals.now (finished_places (open_of a.scopes) a.cells.now a.from (a.to - a.from)) l.totals (finished_places (open_of a.scopes) a.cells.now l.j (a.to - l.j)) l.invariant _ _
    (finished-more (open_of a.scopes) a.cells.now l.j a.to (omega arith) _ c.scope_at-place.ensures _ (ap (λ (s : Scope). s.constraint) c.get-scope.ensures)) _ c.raise.ensures

pub returns : goal.returns
returns c =
    let a = c.args in
    let l = c.loop-j in
    all-raised a.totals.now (finished_places (open_of a.scopes) a.cells.now a.from (a.to - a.from)) l.totals (finished_places (open_of a.scopes) a.cells.now l.j (a.to - l.j)) l.invariant (finished-end (open_of a.scopes) a.cells.now l.j a.to (omega arith))
