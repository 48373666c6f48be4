-- Computed: the first selection at a depth, at most 32 of them, and the rows of counts.
-- Assumes nothing.
use Rattle.std.specs.Prelude.{ℕ, ◌*◌, replicate, ◌≡◌, refl, List, [], ◌∷◌, ◌++◌, map}
use Rattle.records.specs.Readers.{Bytes}
use Rattle.session_spec.specs.Layout.{more_in}
use Rattle.cells.specs.Cells.{depth_at}
use Rattle.end_writes.specs.Staying.{deep_from, first_deep, row_of}

-- a selection on an element at this depth, whose cells are Unset
abbrev selection : (depth : ℕ) → Bytes
selection d = 8 * d ∷ replicate 511 0

-- two on element 3 and one on element 4: the first of them, or as many as there are
first_of : map (deep_from (selection 3 ++ (selection 3 ++ selection 4)) 0 3) (3 ∷ 4 ∷ 5 ∷ []) ≡ 0 ∷ 2 ∷ 3 ∷ []
unfolding deep_from depth_at more_in
first_of = refl

-- of 31, 32 and 33 selections
at_most : map (λ (n : ℕ). first_deep [] n 5) (31 ∷ 32 ∷ 33 ∷ []) ≡ map (λ (n : ℕ). deep_from [] 0 n 5) (31 ∷ 32 ∷ 32 ∷ [])
unfolding first_deep
at_most = refl

-- four rows of 32 numbers, of which as many count as there are selections
rows : map (row_of (replicate 32 6 ++ (replicate 32 7 ++ (replicate 32 8 ++ replicate 32 9))) 2) (0 ∷ 1 ∷ 2 ∷ 3 ∷ [])
    ≡ (6 ∷ 6 ∷ []) ∷ (7 ∷ 7 ∷ []) ∷ (8 ∷ 8 ∷ []) ∷ (9 ∷ 9 ∷ []) ∷ []
rows = refl
