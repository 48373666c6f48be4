-- `spell_alternatives` meets its contract. The loop's invariant: the alternatives written so far, each with its bar,
-- stand before those of the rest. The measure is what is left of the text.
-- Assumes nothing.
use lib.ListN.{length}
use mathlib.Core.Path.{◌≡◌}
use Rattle.path_writer.proofs.Alternatives.{Alternating}
use Rattle.path_writer.proofs.spell_alternatives.Given as goal

abbrev pub invariant-loop-first : goal.invariant-loop-first
invariant-loop-first l = (length l.text ≡ length l.initial.text) × Alternating l.s l.initial.text l.text l.rest l.at

abbrev pub decreases-loop-first : goal.decreases-loop-first
decreases-loop-first l = length l.rest
