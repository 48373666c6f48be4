-- Computed: which bytes read as open selections and which do not, one fault in each, from bytes that are written out here.
-- Assumes nothing.
use Rattle.std.specs.Prelude.{ℕ, ◌-◌, length, take, replicate, ◌≡◌, refl, Bool, true, false, List, [], ◌∷◌, ◌++◌, map}
use Rattle.texts.specs.Texts.{Text, same}
use Rattle.paths.specs.Reading.{on_some, every}
use Rattle.records.specs.Readers.{Bytes}
use Rattle.session_spec.specs.Layout.{ScopeRecord, parts, pad, cell_state, key_of, put_cell, cell_from, cell_in, more_in, head_cell, tail_cells, put_cells}
use Rattle.cells.specs.Cells.{or_unset, depth_at, scope_at}
use Rattle.selections.specs.Selections.{Home, homes, written_for, written, fits_within, fits_home, selection_fits, number_in, is_after, in_order, selections_fit}
use Rattle.selections.specs.Exact.{zeros, cell_or, exact_with, exact}

abbrev ab : Text
ab = 97 ∷ 98 ∷ []

-- 128 bytes: the first two, the key, and zeros behind
abbrev cell : (first second : ℕ) → Text → Bytes
cell f n k = f ∷ n ∷ k ++ replicate (126 - length k) 0

-- ---- one cell

-- nothing; zeros; a last byte that is another
zero-bytes : map zeros ([] ∷ replicate 5 0 ∷ (0 ∷ 0 ∷ 1 ∷ []) ∷ []) ≡ true ∷ true ∷ false ∷ []
unfolding zeros
zero-bytes = refl

-- Unset, Set, Set with an empty key and with the longest one, NotSimple, Multiple, Set on a nillable element, with an empty key too, each with 4 beside
-- the state
exact-cells : map (exact true) (cell 32 0 [] ∷ cell 33 2 ab ∷ cell 33 0 [] ∷ cell 33 126 (replicate 126 97) ∷ cell 34 0 [] ∷ cell 35 0 [] ∷ cell 36 2 ab ∷ cell 36 0 [] ∷ []) ≡ replicate 8 true
unfolding exact exact_with cell_or or_unset cell_in cell_from put_cell pad cell_state key_of same
exact-cells = refl

-- the states 5, 6 and 7; a key of a cell that is not Set, with its length and without; a byte behind a key, marked and not; a key of 127 bytes; a byte too few
-- and one too many
inexact-cells : map (exact true)
    (cell 37 0 [] ∷ cell 38 0 [] ∷ cell 39 2 ab ∷ cell 36 1 ab ∷ cell 34 2 ab ∷ cell 34 0 ab ∷ cell 32 2 [] ∷ cell 33 1 ab ∷ (33 ∷ 127 ∷ replicate 126 97) ∷ take 127 (cell 33 2 ab) ∷ (cell 33 2 ab ++ (0 ∷ [])) ∷ [])
    ≡ replicate 11 false
unfolding exact exact_with cell_or or_unset cell_in cell_from put_cell pad cell_state key_of same
inexact-cells = refl

-- of a field that the constraint lacks: Unset, and no other
missing-cells : map (exact false) (cell 32 0 [] ∷ cell 33 2 ab ∷ cell 33 0 [] ∷ cell 34 0 [] ∷ cell 35 0 [] ∷ cell 36 2 ab ∷ []) ≡ true ∷ replicate 5 false
unfolding exact exact_with cell_or or_unset cell_in cell_from put_cell pad cell_state key_of same
missing-cells = refl

-- the number beside the state
beside : map (λ m. exact_with m true (cell 33 2 ab)) (3 ∷ 4 ∷ 5 ∷ []) ≡ false ∷ true ∷ false ∷ []
unfolding exact_with cell_or or_unset cell_in cell_from put_cell pad cell_state key_of same
beside = refl

-- ---- the scopes

-- number, depth
abbrev scope : ℕ → ℕ → ScopeRecord
scope n d = record { constraint = 7; number = n; depth = d }

-- number, depth, fields
abbrev home : ℕ → ℕ → ℕ → Home
home n d f = record { number = n; depth = d; fields = f }

-- as many counts as scopes; fewer; more
two-homes : homes (scope 3 1 ∷ scope 5 2 ∷ []) (2 ∷ 1 ∷ []) ≡ home 3 1 2 ∷ home 5 2 1 ∷ []
unfolding homes
two-homes = refl

no-count : homes (scope 3 1 ∷ scope 5 2 ∷ scope 9 2 ∷ []) (2 ∷ []) ≡ home 3 1 2 ∷ home 5 2 0 ∷ home 9 2 0 ∷ []
unfolding homes
no-count = refl

count-over : homes (scope 3 1 ∷ []) (2 ∷ 1 ∷ []) ≡ home 3 1 2 ∷ []
unfolding homes
count-over = refl

-- ---- the bytes of one selection, of a constraint with two fields

-- four cells, one behind the other
abbrev four : Bytes → Bytes → Bytes → Bytes → Bytes
four a b c d = a ++ (b ++ (c ++ d))

-- an Unset cell with nothing beside its state
abbrev unset : Bytes
unset = cell 0 0 []

-- both Unset; Set and NotSimple; Multiple and Set; marked and Set; on element 40, which is 8 and 32 times 1, with 5 for the place of the scope
these-written : map (written 2)
    (four (cell 16 0 []) unset unset unset
    ∷ four (cell 17 2 ab) (cell 2 0 []) unset unset
    ∷ four (cell 19 0 []) (cell 1 0 []) unset unset
    ∷ four (cell 20 2 ab) (cell 1 0 []) unset unset
    ∷ four (cell 64 0 []) (cell 8 0 []) (cell 40 0 []) unset
    ∷ [])
    ≡ replicate 5 true
unfolding written written_for every on_some parts cell_in cell_from put_cells put_cell pad cell_state key_of head_cell tail_cells same depth_at scope_at more_in
these-written = refl

-- a third field Set, and a fourth Multiple; a number beside the last cell; a byte behind a key; a key of an Unset cell; a state of 5; a byte too few
not_written : map (written 2)
    (four (cell 16 0 []) unset (cell 1 2 ab) unset
    ∷ four (cell 16 0 []) unset unset (cell 3 0 [])
    ∷ four (cell 16 0 []) unset unset (cell 8 0 [])
    ∷ four (cell 17 1 ab) unset unset unset
    ∷ four (cell 16 2 ab) unset unset unset
    ∷ four (cell 21 0 []) unset unset unset
    ∷ take 511 (four (cell 16 0 []) unset unset unset)
    ∷ [])
    ≡ replicate 7 false
unfolding written written_for every on_some parts cell_in cell_from put_cells put_cell pad cell_state key_of head_cell tail_cells same depth_at scope_at more_in
not_written = refl

-- as many cells Set as there are fields, and one more
by-fields : map (λ n. written n (four (cell 17 2 ab) (cell 1 0 []) (cell 1 2 ab) (cell 1 1 (97 ∷ [])))) (3 ∷ 4 ∷ 5 ∷ []) ≡ false ∷ true ∷ true ∷ []
unfolding written written_for every on_some parts cell_in cell_from put_cells put_cell pad cell_state key_of head_cell tail_cells same depth_at scope_at more_in
by-fields = refl

-- ---- where it lies: scopes 3, 5 and 9, on elements 1, 2 and 38; 40 elements open

abbrev open-ones : List Home
open-ones = home 3 1 2 ∷ home 5 2 1 ∷ home 9 38 4 ∷ []

abbrev fits : Bytes → Bool
fits = selection_fits open-ones 40

-- on elements 1 and 40 of the first scope, 2 of the second, 38 of the third
in-place : map fits
    (four (cell 8 0 []) unset unset unset
    ∷ four (cell 64 0 []) (cell 8 0 []) unset unset
    ∷ four (cell 17 2 ab) unset (cell 8 0 []) unset
    ∷ four (cell 48 0 []) (cell 8 0 []) (cell 17 2 ab) (cell 1 2 ab)
    ∷ [])
    ≡ replicate 4 true
unfolding selection_fits fits_home fits_within written written_for every on_some parts cell_in cell_from put_cells put_cell pad cell_state key_of head_cell tail_cells same depth_at scope_at more_in
in-place = refl

-- on element 0; on element 41; above the second scope, and above the third; of a fourth scope, which is not open
out-of-place : map fits
    (four unset unset unset unset
    ∷ four (cell 72 0 []) (cell 8 0 []) unset unset
    ∷ four (cell 8 0 []) unset (cell 8 0 []) unset
    ∷ four (cell 40 0 []) (cell 8 0 []) (cell 16 0 []) unset
    ∷ four (cell 16 0 []) unset (cell 24 0 []) unset
    ∷ [])
    ≡ replicate 5 false
unfolding selection_fits fits_home fits_within written written_for every on_some parts cell_in cell_from put_cells put_cell pad cell_state key_of head_cell tail_cells same depth_at scope_at more_in
out-of-place = refl

-- the second scope has one field, the third four
fields-of-scope : map fits (four (cell 16 0 []) (cell 2 0 []) (cell 8 0 []) unset ∷ four (cell 48 0 []) (cell 10 0 []) (cell 18 0 []) (cell 2 0 []) ∷ []) ≡ false ∷ true ∷ []
unfolding selection_fits fits_home fits_within written written_for every on_some parts cell_in cell_from put_cells put_cell pad cell_state key_of head_cell tail_cells same depth_at scope_at more_in
fields-of-scope = refl

-- ---- all of them

-- behind one on element 2, of scope 5: deeper; of a later scope; of the same; of an earlier; less deep
afters : is_after 2 5 3 1 ∷ is_after 2 5 2 6 ∷ is_after 2 5 2 5 ∷ is_after 2 5 2 4 ∷ is_after 2 5 1 9 ∷ [] ≡ true ∷ true ∷ false ∷ false ∷ false ∷ []
unfolding is_after
afters = refl

-- blank cells: eight times the depth and eight times the place of the scope
abbrev blank : (depth place : ℕ) → Bytes
blank d p = four (cell d 0 []) unset (cell p 0 []) unset

abbrev read : List Bytes → Bool
read = selections_fit open-ones 40

-- none; one; one deeper than the other; two on one element, of a later scope; both
in-order : map read ([] ∷ (blank 8 0 ∷ []) ∷ (blank 16 8 ∷ blank 24 0 ∷ []) ∷ (blank 16 0 ∷ blank 16 8 ∷ []) ∷ (blank 8 0 ∷ blank 16 0 ∷ blank 16 8 ∷ blank 32 8 ∷ []) ∷ [])
    ≡ replicate 5 true
unfolding selections_fit selection_fits fits_home fits_within written written_for every on_some parts cell_in cell_from put_cells put_cell pad cell_state key_of head_cell tail_cells same depth_at scope_at more_in in_order is_after number_in
in-order = refl

-- it is the numbers of the scopes that count, not their places
by_number : map (selections_fit (home 9 1 2 ∷ home 5 1 2 ∷ []) 40) ((blank 16 8 ∷ blank 16 0 ∷ []) ∷ (blank 16 0 ∷ blank 16 8 ∷ []) ∷ []) ≡ true ∷ false ∷ []
unfolding selections_fit selection_fits fits_home fits_within written written_for every on_some parts cell_in cell_from put_cells put_cell pad cell_state key_of head_cell tail_cells same depth_at scope_at more_in in_order is_after number_in
by_number = refl

-- one twice; an earlier scope; less deep; the first does not fit; the second does not; the third is as the first
not-in-order : map read
    ((blank 16 8 ∷ blank 16 8 ∷ [])
    ∷ (blank 16 8 ∷ blank 16 0 ∷ [])
    ∷ (blank 24 0 ∷ blank 16 8 ∷ [])
    ∷ (blank 8 8 ∷ blank 16 8 ∷ [])
    ∷ (blank 16 8 ∷ blank 24 24 ∷ [])
    ∷ (blank 16 0 ∷ blank 24 0 ∷ blank 16 0 ∷ [])
    ∷ [])
    ≡ replicate 6 false
unfolding selections_fit selection_fits fits_home fits_within written written_for every on_some parts cell_in cell_from put_cells put_cell pad cell_state key_of head_cell tail_cells same depth_at scope_at more_in in_order is_after number_in
not-in-order = refl
