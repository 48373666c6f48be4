-- `count_that` meets its contract: what is left is counted on from those that were taken, whatever the test.
-- Assumes nothing.
use Prim.Native.Nat.{ℕ, ◌+◌, ◌≤◌}
use lib.ListN.{length}
use mathlib.Core.Path.{◌≡◌}
use mathlib.Core.Bool.{Bool}
use Rattle.records.specs.Readers.{reads}
use Rattle.session_spec.specs.Layout.{read_tu}
use Rattle.tuples.specs.Tuples.{counted}
use Rattle.tuples.proofs.Walking.{grown}
use Rattle.tuples.proofs.count_that.Given as goal

abbrev pub invariant-loop-rest : goal.invariant-loop-rest
invariant-loop-rest g l = record {
  short : l.taken + length l.rest ≤ length l.used;
  few : l.taken ≤ l.most;
  counts : (t : (constraint scope : ℕ) → Bool) → ((c s : ℕ) (b : Bool) → goal.F-post g l.test c s b → b ≡ t c s)
      → grown l.taken (counted t (reads read_tu l.rest)) ≡ counted t (reads read_tu l.used);
}

abbrev pub decreases-loop-rest : goal.decreases-loop-rest
decreases-loop-rest g l = length l.rest
