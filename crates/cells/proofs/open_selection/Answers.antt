-- `open_selection` meets its contract. The loop's invariant: the first blank cells are written. Where a test refuses, there is no room.
-- Assumes nothing.
use Prim.Native.Nat.{ℕ, zero, suc, ◌/◌, ◌%◌, ◌<◌}
use native.Mathlib.Omega.{arith}
use mathlib.Core.List.{List, [], ◌∷◌}
use lib.ListN.{take, get_or}
use mathlib.Core.Path.{◌≡◌, ap, sym, ◌∙◌}
use Rattle.lists.specs.Lists.{put}
use Rattle.lists.proofs.Writes.{put_full}
use Rattle.session_spec.specs.Layout.{put_cells}
use Rattle.cells.specs.Cells.{cell_of, blank_cells}
use Rattle.cells.proofs.Selections.{blank-none, blank-more, blank-length}
use Rattle.cells.proofs.open_selection.Goals.{then-area-lt512-via-then-area-lt512, then-area-lt512-via-else-area-lt512+then-area-at}
use Rattle.cells.proofs.open_selection.Goals as goal

-- the numbers beside the states
abbrev beside : (depth scope : ℕ) → List ℕ
beside depth scope = depth % 32 ∷ depth / 32 % 32 ∷ scope % 32 ∷ 0 ∷ []

small : (depth scope k : ℕ) → get_or (beside depth scope) k 0 < 32
small d s zero = omega arith
small d s (suc zero) = omega arith
small d s (suc (suc zero)) = omega arith
small d s (suc (suc (suc zero))) = omega arith
small d s (suc (suc (suc (suc k)))) = omega arith

pub returns-then-area-lt512 : goal.returns-then-area-lt512
returns-then-area-lt512 c =
    let a = c.args in
    let n = blank-length a.depth a.scope in
    elim c.then-area-lt512.branch [
      | then-area-lt512-via-then-area-lt512 w ↦ sym (put_full a.area.now a.at (blank_cells a.depth a.scope) (omega (arith, n)))
      | then-area-lt512-via-else-area-lt512+then-area-at w ↦ sym (put_full a.area.now a.at (blank_cells a.depth a.scope) (omega (arith, n)))
    ]

pub loop-k-init : goal.loop-k-init
loop-k-init c = blank-none c.args.area.now c.args.at (beside c.args.depth c.args.scope) (omega arith)

pub loop-k-preserved : goal.loop-k-preserved
loop-k-preserved c =
    let a = c.args in
    let k = c.loop-k.k in
    blank-more a.area.now a.at (beside a.depth a.scope) (omega arith) k c.loop-k.area c.store.new.area (cell_of c.blank.result)
    c.loop-k-test.true (small a.depth a.scope k) c.loop-k.invariant c.blank.ensures c.store.ensures

pub returns : goal.returns
unfolding blank_cells
returns c =
    let a = c.args in
    let e : c.loop-k.k ≡ 4 = omega arith in
    c.loop-k.invariant ∙ ap (λ (k : ℕ). put a.area.now a.at (put_cells (take k (beside a.depth a.scope)) [])) e
