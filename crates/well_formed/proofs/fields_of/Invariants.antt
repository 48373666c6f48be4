-- `fields_of` meets its contract. The loop's invariant: the places before i have the counts of the scopes before i.
-- Assumes nothing.
use lib.ListN.{length, take}
use mathlib.Core.Path.{◌≡◌}
use Rattle.open_scopes.specs.OpenScopes.{open_of}
use Rattle.well_formed.specs.Parts.{HaveFields}
use Rattle.well_formed.proofs.fields_of.Given as goal

abbrev pub invariant-loop-i : goal.invariant-loop-i
invariant-loop-i l = (length l.fields ≡ 16) × HaveFields l.used (take l.i (open_of l.fn.scopes)) (take l.i l.fields)
