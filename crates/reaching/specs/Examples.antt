-- Computed: which selections get a number, and by what.
-- Assumes nothing.
use Rattle.std.specs.Prelude.{ℕ, zero, suc, ◌+◌, ◌*◌, ◌<◌, get_or, ◌≡◌, refl, true, false, cond, [], ◌∷◌, map}
use Rattle.std.proofs.Common.{arith}
use Rattle.records.specs.Readers.{Bytes}
use Rattle.session_spec.specs.Layout.{more_in, pad, put_cell, head_cell, tail_cells, put_cells, cell_state, key_of}
use Rattle.cells.specs.Cells.{depth_at, scope_at, blank_cells}
use Rattle.reaching.specs.Rows.{picked, RowOf}

-- of 33 selections of the scope at place 0 the last one gets none
at-most-32 : map (picked 0 33 []) (0 ∷ 31 ∷ 32 ∷ []) ≡ true ∷ true ∷ false ∷ []
unfolding picked scope_at more_in
at-most-32 = refl

-- a selection of the scope at place 2, on an element at depth 37
abbrev one-selection : Bytes
one-selection = blank_cells 37 2

-- its number is by its depth, and the one behind stays
by-the-depth : RowOf (λ d. d + 1) 2 1 one-selection (9 ∷ 8 ∷ []) (38 ∷ 8 ∷ [])
unfolding picked depth_at scope_at more_in pad cell_state key_of put_cell head_cell tail_cells put_cells blank_cells
by-the-depth = record { same = refl; each = number }
  where
    number : (j : ℕ) → j < 2 → get_or (38 ∷ 8 ∷ []) j 0 ≡ cond (picked 2 1 one-selection j) (depth_at one-selection (512 * j) + 1) (get_or (9 ∷ 8 ∷ []) j 0)
    number zero h = refl
    number (suc zero) h = refl
    number (suc (suc j)) h = absurd (omega arith)
