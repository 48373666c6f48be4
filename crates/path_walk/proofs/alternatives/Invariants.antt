-- `alternatives` meets its contract. The loop's invariant: the alternatives that are left have the reason that all of them have.
-- Assumes nothing.
use mathlib.Core.Path.{◌≡◌}
use Rattle.reasons.specs.Reasons.{split_at, alternatives}
use Rattle.prefixes.specs.Prefixes.{words_of}
use Rattle.path_steps.specs.Steps.{kind_of}
use Rattle.path_walk.specs.Walk.{vertical_bar}
use Rattle.path_walk.proofs.Pieces.{left}
use Rattle.path_walk.proofs.alternatives.Given as goal

abbrev pub invariant-loop-one : goal.invariant-loop-one
invariant-loop-one l =
    alternatives (kind_of l.kind) (words_of l.prefixes) (left vertical_bar l.one-iterator) ≡ alternatives (kind_of l.kind) (words_of l.prefixes) (split_at vertical_bar l.s)
