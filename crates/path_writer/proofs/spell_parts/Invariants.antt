-- `spell_parts` meets its contract. The loop's invariant: the parts written so far, each with its slash, stand before
-- those of the rest. The measure is what is left of the text.
-- Assumes nothing.
use lib.ListN.{length}
use mathlib.Core.Path.{◌≡◌}
use Rattle.path_writer.proofs.Parts.{Parting}
use Rattle.path_writer.proofs.spell_parts.Given as goal

abbrev pub invariant-loop-first : goal.invariant-loop-first
invariant-loop-first l = (length l.text ≡ length l.initial.text) × Parting l.s l.initial.text l.start l.text l.rest l.at

abbrev pub decreases-loop-first : goal.decreases-loop-first
decreases-loop-first l = length l.rest
