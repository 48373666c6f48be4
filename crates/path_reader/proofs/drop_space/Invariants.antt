-- `drop_space` meets its contract. The loop's invariant: what was copied and what is left of the path, both without white space, are the path without it. The measure is what
-- is left of the path.
-- Assumes nothing.
use lib.ListN.{length}
use mathlib.Core.Path.{◌≡◌}
use Rattle.path_reader.proofs.Spaces.{Copied}
use Rattle.path_reader.proofs.drop_space.Given as goal

abbrev pub invariant-loop-rest : goal.invariant-loop-rest
invariant-loop-rest l = (length l.bare ≡ length l.initial.bare) × Copied l.path l.initial.bare l.bare l.rest l.n

abbrev pub decreases-loop-rest : goal.decreases-loop-rest
decreases-loop-rest l = length l.rest
