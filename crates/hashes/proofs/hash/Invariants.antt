-- `hash` meets its contract. The loop's invariant: the first k words are taken.
-- Assumes nothing.
use mathlib.Core.Path.{◌≡◌}
use Rattle.hashes.specs.Hashes.{hash_to}
use Rattle.hashes.proofs.hash.Given as goal

abbrev pub invariant-loop-k : goal.invariant-loop-k
invariant-loop-k l = l.h ≡ hash_to l.k l.s
