-- `key_at` meets its contract. That the state has a key says where the key stands, and that it lies within the area.
-- Assumes nothing.
use Prim.Native.Nat.{◌+◌, ◌-◌}
use native.Mathlib.Omega.{arith}
use lib.ListN.{get_or, take, drop}
use mathlib.Core.Path.{◌≡◌, ap, sym, ◌∙◌}
use Rattle.cells.specs.Cells.{has_key, cell_at}
use Rattle.cells.proofs.Places.{SetAt, without-key, set_at}
use Rattle.cells.proofs.key_at.Goals as goal
use Rattle.cells.proofs.key_at.Goals.{Else-not-has_key}

-- the cell has a key
key-here : (c : Else-not-has_key) → SetAt c.args.area.now c.args.at
key-here c =
    set_at c.args.area.now c.args.at
    (sym (ap has_key c.state_at.ensures) ∙ sym c.has_key.ensures ∙ c.if-not-has_key.false)

pub returns-then-not-has_key : goal.returns-then-not-has_key
returns-then-not-has_key c =
    without-key (cell_at c.args.area.now c.args.at) (sym (ap has_key c.state_at.ensures) ∙ sym c.has_key.ensures ∙ c.if-not-has_key.true)

pub overflow_add-start : goal.overflow_add-start
overflow_add-start c = omega (arith, key-here (goal.at.overflow_add-start c).Else-not-has_key)

pub overflow_add-at : goal.overflow_add-at
overflow_add-at c = omega (arith, key-here (goal.at.overflow_add-at c).Else-not-has_key)

pub bounds-area-at : goal.bounds-area-at
bounds-area-at c = omega (arith, key-here (goal.at.bounds-area-at c).Else-not-has_key)

pub overflow_add-result : goal.overflow_add-result
overflow_add-result c = omega (arith, c.from.ensures, key-here (goal.at.overflow_add-result c).Else-not-has_key)

pub slice_bounds-result-end-2 : goal.slice_bounds-result-end-2
slice_bounds-result-end-2 c =
    omega (arith, c.from.ensures, key-here (goal.at.slice_bounds-result-end-2 c).Else-not-has_key)

pub returns : goal.returns
returns c =
    let a = c.args in
    let q = key-here (goal.at.returns c).Else-not-has_key in
    let n = get_or a.area.now (a.at + 1) 0 in
    let e : a.at + 2 + c.from.result - (a.at + 2) ≡ n = omega (arith, c.from.ensures) in
    ap (λ m. take m (drop (a.at + 2) a.area.now)) e ∙ q.key
