-- `count_finished` meets its contract: one selection after the other; what is left to raise is read off the place.
-- Assumes nothing.
use Rattle.counting.proofs.Raising.{Raising}
use Rattle.counting.specs.Places.{finished_places}
use Rattle.open_scopes.specs.OpenScopes.{open_of}
use Prim.Native.Nat.{◌-◌}
use Rattle.counting.proofs.count_finished.Given as goal

abbrev pub invariant-loop-j : goal.invariant-loop-j
invariant-loop-j l = Raising l.initial.totals (finished_places (open_of l.scopes) l.cells l.from (l.to - l.from)) (finished_places (open_of l.scopes) l.cells l.j (l.to - l.j)) l.totals
