-- `load` meets its contract. State and key are all there is to a cell.
-- Assumes nothing.
use native.Mathlib.Omega.{arith}
use mathlib.Core.Path.{◌≡◌, ap, sym, ◌∙◌, refl}
use lib.ListN.{take}
use Rattle.session_spec.specs.Layout.{cell_state, cell_from}
use Rattle.cells.specs.Cells.{state_number, text_of, cell_of, or_unset, cell_at}
use Rattle.cells.proofs.Places.{at-fit}
use Rattle.cells.proofs.Values.{loaded, loaded-blank}
use Rattle.cells.proofs.load.Goals as goal

pub returns-in-Set : goal.returns-in-Set
unfolding cell_of or_unset cell_from
returns-in-Set c =
    let a = c.args in
    loaded (cell_at a.area.now a.at) 1 c.key_at-key.result.now (text_of c.of.result) (sym (ap state_number c.in-Set.is) ∙ c.state_at.ensures) c.key_at-key.ensures
    (at-fit a.area.now a.at) c.of.ensures

pub returns-in-NotSimple : goal.returns-in-NotSimple
unfolding cell_of or_unset cell_from
returns-in-NotSimple c =
    let a = c.args in
    let key = c.key_at-key in
    loaded (cell_at a.area.now a.at) 2 key.result.now (take 126 key.result.now) (sym (ap state_number c.in-NotSimple.is) ∙ c.state_at.ensures) key.ensures (at-fit a.area.now a.at) refl

pub returns-in-Multiple : goal.returns-in-Multiple
unfolding cell_of or_unset cell_from
returns-in-Multiple c =
    let a = c.args in
    let key = c.key_at-key in
    loaded (cell_at a.area.now a.at) 3 key.result.now (take 126 key.result.now) (sym (ap state_number c.in-Multiple.is) ∙ c.state_at.ensures) key.ensures (at-fit a.area.now a.at) refl

pub returns-in-Nillable : goal.returns-in-Nillable
unfolding cell_of or_unset cell_from
returns-in-Nillable c =
    let a = c.args in
    loaded (cell_at a.area.now a.at) 4 c.key_at-key.result.now (text_of c.of-in-Nillable.result) (sym (ap state_number c.in-Nillable.is) ∙ c.state_at.ensures) c.key_at-key.ensures
    (at-fit a.area.now a.at) c.of-in-Nillable.ensures

pub returns-in-Unset : goal.returns-in-Unset
unfolding cell_of
returns-in-Unset c =
    let e : 0 ≡ cell_state (cell_at c.args.area.now c.args.at) = sym (ap state_number c.in-Unset.is) ∙ c.state_at.ensures in
    loaded-blank (cell_at c.args.area.now c.args.at) 0 e (λ e. omega arith) (λ e. omega arith) (λ e. omega arith) (λ e. omega arith)
