-- `tokenize` meets its contract. The loop's invariant: what is left has the fault that the whole has. The measure is what is left of the text.
-- Assumes nothing.
use Prim.Native.Nat.{◌≤◌}
use lib.ListN.{length}
use mathlib.Core.Path.{◌≡◌}
use Rattle.reasons.specs.Reasons.{tokenize}
use Rattle.tokens.specs.Places.{fault_of}
use Rattle.tokens.proofs.tokenize.Given as goal

abbrev pub invariant-loop-t : goal.invariant-loop-t
invariant-loop-t l = (length l.rest ≤ length l.s) × (fault_of (tokenize 0 l.rest) ≡ fault_of (tokenize 0 l.s))

abbrev pub decreases-loop-t : goal.decreases-loop-t
decreases-loop-t l = length l.rest
