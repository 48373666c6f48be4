-- `key` meets its contract, state by state.
-- Assumes nothing.
use native.Mathlib.Omega.{arith}
use mathlib.Core.Logic.{inl, inr}
use Rattle.session_spec.specs.Layout.{key_of}
use Rattle.cells.specs.Cells.{cell_of}
use Rattle.cells.proofs.Values.{without-value}
use Rattle.cells.proofs.Cell.key.Goals as goal

pub returns-in-Set-clause-is : goal.returns-in-Set-clause-is
unfolding cell_of key_of
returns-in-Set-clause-is c = elim c.in-Set.is [ inl e ↦ rw e c.text.ensures.is | inr e ↦ rw e c.text.ensures.is ]

pub returns-in_default : goal.returns-in_default
returns-in_default c = record { is = without-value c.args.self.now c.in_default.not-Set c.in_default.not-Nillable; fits = omega arith }
