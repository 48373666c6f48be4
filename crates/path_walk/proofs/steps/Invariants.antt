-- `steps` meets its contract. The loop's invariant: the steps that are left have the reason that all of them have. The measure is what is left of the text.
-- Assumes nothing.
use Prim.Native.Nat.{◌≤◌}
use lib.ListN.{length}
use mathlib.Core.Path.{◌≡◌}
use Rattle.reasons.specs.Reasons.{start, steps}
use Rattle.tokens.specs.Places.{tokens_in}
use Rattle.prefixes.specs.Prefixes.{words_of}
use Rattle.path_steps.specs.Steps.{kind_of}
use Rattle.path_walk.proofs.steps.Given as goal

abbrev pub invariant-loop-behind : goal.invariant-loop-behind
invariant-loop-behind l = (length l.rest ≤ length l.s) × (steps (kind_of l.kind) (words_of l.prefixes) start (tokens_in l.rest) ≡ steps (kind_of l.kind) (words_of l.prefixes) start (tokens_in l.s))

abbrev pub decreases-loop-behind : goal.decreases-loop-behind
decreases-loop-behind l = length l.rest
