-- `steps_at` meets its contract. The loop's invariant: what is seen of the steps that are left, from the names that are left, is what is seen of all; a step
-- more is a name more.
-- Assumes nothing.
use Prim.Native.Nat.{◌-◌}
use mathlib.Core.Path.{◌≡◌}
use Rattle.bindings.specs.Bindings.{bound_by}
use Rattle.matching.proofs.Walking.{steps_at}
use Rattle.matching.proofs.steps_at.Given as goal

abbrev pub invariant-loop-i : goal.invariant-loop-i
invariant-loop-i l =
    steps_at (bound_by l.b) l.names l.fit l.i (l.end - l.i) l.rest ≡ steps_at (bound_by l.b) l.names l.live l.from l.n l.s
