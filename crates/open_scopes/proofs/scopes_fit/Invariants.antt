-- `scopes_fit` meets its contract. The loop's invariant: all fit exactly if those from here on do, behind the last one seen.
-- Assumes nothing.
use Prim.Native.Nat.{◌≤◌}
use lib.ListN.{length}
use mathlib.Core.Path.{◌≡◌}
use Rattle.open_scopes.proofs.Fitting.{fit_from}
use Rattle.open_scopes.specs.OpenScopes.{records_of, scopes_fit}
use Rattle.open_scopes.proofs.scopes_fit.Given as goal

abbrev pub invariant-loop-one : goal.invariant-loop-one
invariant-loop-one l =
    (l.one-index ≤ length l.one-items) × (fit_from l.constraints l.depth l.opened l.one-items l.one-index l.last ≡ scopes_fit l.constraints l.depth l.opened (records_of l.fn.s))
