-- Computed: what the value means, cells in bytes, selections, and what hits leave.
-- Assumes nothing.
use Rattle.std.specs.Prelude.{ℕ, ◌+◌, ◌-◌, length, take, replicate, ◌≡◌, refl, true, false, [], ◌∷◌, ◌++◌, map}
use Rattle.lists.specs.Lists.{part, put}
use Rattle.texts.specs.Texts.{Text}
use Rattle.tree.specs.Cells as tree
use Rattle.tree.specs.Cells.{Hit, simple, nillable, complex, Unset, Set, SetNillable, NotSimple, Multiple, one, element_hit}
use Rattle.tree.specs.Judge.{is_multiple}
use Rattle.machine.specs.Machine.{hit}
use Rattle.records.specs.Readers.{Bytes}
use Rattle.session_spec.specs.Layout.{pad, cell_state, key_of, put_cell, cell_from, cell_in, more_in, head_cell, tail_cells, put_cells}
use Rattle.cells.specs.declared.Key.{Key}
use Rattle.cells.specs.declared.Cell.TheVariants as code
use Rattle.cells.specs.declared.State.TheVariants as state
use Rattle.cells.specs.Cells.{state_number, has_key, cell_of, cell_by, hit_of, blank_or, or_unset, cell_for, cell_at, depth_at, scope_at, blank_cells, hit_bytes, hit_at, each_chunk, hit_selections, hit_nth}

-- ---- the value

-- a key in the array, with zeros behind it
abbrev key : (len : ℕ) → Text → Key
key n k = record { bytes = k ++ replicate (126 - length k) 0; len = n }

abbrev ab : Text
ab = 97 ∷ 98 ∷ []

-- a key is as long as is said
meanings : map cell_of (code.Unset ∷ code.Set (key 2 (97 ∷ 98 ∷ 99 ∷ [])) ∷ code.Set (key 0 ab) ∷ code.NotSimple ∷ code.Multiple ∷ [])
    ≡ Unset ∷ Set ab ∷ Set [] ∷ NotSimple ∷ Multiple ∷ []
unfolding cell_of
meanings = refl

marked-meaning : map cell_of (code.Nillable (key 2 (97 ∷ 98 ∷ 99 ∷ [])) ∷ code.Nillable (key 0 ab) ∷ []) ≡ SetNillable ab ∷ SetNillable [] ∷ []
unfolding cell_of
marked-meaning = refl

-- a number that no state has is that of more than one value
by-number : map (λ (n : ℕ). cell_by n ab) (0 ∷ 1 ∷ 2 ∷ 3 ∷ 4 ∷ 5 ∷ 200 ∷ []) ≡ Unset ∷ Set ab ∷ NotSimple ∷ Multiple ∷ SetNillable ab ∷ Multiple ∷ Multiple ∷ []
unfolding cell_by
by-number = refl

-- a state has the number of the cells that are in it
numbers : map state_number (state.Unset ∷ state.Set ∷ state.NotSimple ∷ state.Multiple ∷ state.Nillable ∷ []) ≡ map cell_state (Unset ∷ Set ab ∷ NotSimple ∷ Multiple ∷ SetNillable ab ∷ [])
unfolding cell_state
numbers = refl

keys : map has_key (0 ∷ 1 ∷ 2 ∷ 3 ∷ 4 ∷ 5 ∷ []) ≡ false ∷ true ∷ false ∷ false ∷ true ∷ false ∷ []
keys = refl

-- a key of 130 bytes
long-key : hit_of 1 (replicate 130 97) ≡ simple (replicate 126 97)
unfolding hit_of element_hit
long-key = refl

-- by the simple byte
hits-by-byte : map (λ (b : ℕ). hit_of b ab) (0 ∷ 1 ∷ 2 ∷ []) ≡ complex ∷ simple ab ∷ nillable ab ∷ []
unfolding hit_of element_hit
hits-by-byte = refl

-- only a blank cell takes what a first hit makes
blank-takes : map (λ c. blank_or c (SetNillable ab)) (Unset ∷ Set ab ∷ SetNillable [] ∷ NotSimple ∷ Multiple ∷ []) ≡ SetNillable ab ∷ Multiple ∷ Multiple ∷ Multiple ∷ Multiple ∷ []
unfolding blank_or
blank-takes = refl

-- ---- a cell in bytes

-- the front of its 128 bytes, with 4 beside the state
abbrev front : tree.Cell → Bytes
front c = take 5 (put_cell 4 c)

fronts : map front (Unset ∷ Set ab ∷ Set [] ∷ NotSimple ∷ Multiple ∷ SetNillable ab ∷ [])
    ≡ (32 ∷ 0 ∷ 0 ∷ 0 ∷ 0 ∷ [])
    ∷ (33 ∷ 2 ∷ 97 ∷ 98 ∷ 0 ∷ [])
    ∷ (33 ∷ 0 ∷ 0 ∷ 0 ∷ 0 ∷ [])
    ∷ (34 ∷ 0 ∷ 0 ∷ 0 ∷ 0 ∷ [])
    ∷ (35 ∷ 0 ∷ 0 ∷ 0 ∷ 0 ∷ [])
    ∷ (36 ∷ 2 ∷ 97 ∷ 98 ∷ 0 ∷ [])
    ∷ []
unfolding put_cell pad cell_state key_of
fronts = refl

-- 128 bytes that begin so
abbrev bytes : Bytes → Bytes
bytes xs = xs ++ replicate (128 - length xs) 7

-- no cell: a state of 5, a key of 127 bytes, one byte too few
read : map cell_for (bytes (33 ∷ 2 ∷ ab) ∷ bytes (36 ∷ 2 ∷ ab) ∷ bytes (34 ∷ 2 ∷ ab) ∷ bytes (37 ∷ 2 ∷ ab) ∷ bytes (33 ∷ 127 ∷ ab) ∷ take 127 (bytes (33 ∷ 2 ∷ ab)) ∷ [])
    ≡ Set ab ∷ SetNillable ab ∷ NotSimple ∷ Unset ∷ Unset ∷ Unset ∷ []
unfolding cell_for or_unset cell_in cell_from
read = refl

-- at place 3 of 131 bytes; at place 4 there is no room
at-a-place : map (cell_at (9 ∷ 9 ∷ 9 ∷ bytes (33 ∷ 2 ∷ ab))) (3 ∷ 4 ∷ 900 ∷ []) ≡ Set ab ∷ Unset ∷ Unset ∷ []
unfolding cell_at cell_for or_unset cell_in cell_from
at-a-place = refl

-- ---- hits

-- the front of a cell after a hit that comes so many times
abbrev after : Hit → ℕ → tree.Cell → Bytes
after h t c = take 5 (hit_bytes h t (put_cell 4 c))

-- an empty key makes Set, not missing; a second hit makes Multiple, and the key is gone
hits : after (simple []) 1 Unset
    ∷ after (simple ab) 1 Unset
    ∷ after complex 1 Unset
    ∷ after (simple ab) 0 Unset
    ∷ after (simple ab) 2 Unset
    ∷ after (simple ab) 1 (Set ab)
    ∷ after complex 1 (Set ab)
    ∷ after (simple ab) 1 NotSimple
    ∷ after complex 200 Multiple
    ∷ after (nillable ab) 1 Unset
    ∷ after (nillable ab) 2 Unset
    ∷ after (simple ab) 1 (SetNillable ab)
    ∷ after (nillable ab) 1 (Set ab)
    ∷ []
    ≡ (33 ∷ 0 ∷ 0 ∷ 0 ∷ 0 ∷ [])
    ∷ (33 ∷ 2 ∷ 97 ∷ 98 ∷ 0 ∷ [])
    ∷ (34 ∷ 0 ∷ 0 ∷ 0 ∷ 0 ∷ [])
    ∷ (32 ∷ 0 ∷ 0 ∷ 0 ∷ 0 ∷ [])
    ∷ (35 ∷ 0 ∷ 0 ∷ 0 ∷ 0 ∷ [])
    ∷ (35 ∷ 0 ∷ 0 ∷ 0 ∷ 0 ∷ [])
    ∷ (35 ∷ 0 ∷ 0 ∷ 0 ∷ 0 ∷ [])
    ∷ (35 ∷ 0 ∷ 0 ∷ 0 ∷ 0 ∷ [])
    ∷ (35 ∷ 0 ∷ 0 ∷ 0 ∷ 0 ∷ [])
    ∷ (36 ∷ 2 ∷ 97 ∷ 98 ∷ 0 ∷ [])
    ∷ (35 ∷ 0 ∷ 0 ∷ 0 ∷ 0 ∷ [])
    ∷ (35 ∷ 0 ∷ 0 ∷ 0 ∷ 0 ∷ [])
    ∷ (35 ∷ 0 ∷ 0 ∷ 0 ∷ 0 ∷ [])
    ∷ []
unfolding hit_bytes cell_for or_unset cell_in cell_from more_in is_multiple hit one put_cell pad cell_state key_of
hits = refl

-- whatever bytes there are: no hit and a Multiple cell change none of them, a hit leaves zeros behind the key
left : map (λ xs. take 5 (hit_bytes (simple ab) 0 (bytes xs))) ((37 ∷ 2 ∷ ab) ∷ [])
    ++ map (λ xs. take 5 (hit_bytes (simple ab) 1 (bytes xs))) ((35 ∷ 2 ∷ ab) ∷ (32 ∷ 0 ∷ []) ∷ (37 ∷ 2 ∷ ab) ∷ [])
    ≡ (37 ∷ 2 ∷ 97 ∷ 98 ∷ 7 ∷ []) ∷ (35 ∷ 2 ∷ 97 ∷ 98 ∷ 7 ∷ []) ∷ (33 ∷ 2 ∷ 97 ∷ 98 ∷ 0 ∷ []) ∷ (33 ∷ 2 ∷ 97 ∷ 98 ∷ 0 ∷ []) ∷ []
unfolding hit_bytes cell_for or_unset cell_in cell_from more_in is_multiple hit one put_cell pad cell_state key_of
left = refl

-- ---- selections

-- depth 37 is 5 and 32 times 1
a-selection : map (λ at. part (blank_cells 37 6) at 2) (0 ∷ 128 ∷ 256 ∷ 384 ∷ []) ≡ (40 ∷ 0 ∷ []) ∷ (8 ∷ 0 ∷ []) ∷ (48 ∷ 0 ∷ []) ∷ (0 ∷ 0 ∷ []) ∷ []
unfolding blank_cells put_cells head_cell tail_cells put_cell pad cell_state key_of
a-selection = refl

depths : map (λ d. depth_at (blank_cells d 6) 0) (1 ∷ 31 ∷ 32 ∷ 37 ∷ 64 ∷ []) ≡ 1 ∷ 31 ∷ 32 ∷ 37 ∷ 64 ∷ []
unfolding depth_at more_in blank_cells put_cells head_cell tail_cells put_cell pad cell_state key_of
depths = refl

scopes : map (λ s. scope_at (9 ∷ blank_cells 37 s) 1) (0 ∷ 6 ∷ 15 ∷ []) ≡ 0 ∷ 6 ∷ 15 ∷ []
unfolding scope_at more_in blank_cells put_cells head_cell tail_cells put_cell pad cell_state key_of
scopes = refl

-- two chunks of two bytes take something, and what is past them stays; the last chunk may be short
chunks : each_chunk 2 (λ x b. map (λ y. x + y) b) (10 ∷ 20 ∷ []) (1 ∷ 2 ∷ 3 ∷ 4 ∷ 5 ∷ []) ≡ 11 ∷ 12 ∷ 23 ∷ 24 ∷ 5 ∷ []
unfolding each_chunk
chunks = refl

short-chunk : each_chunk 2 (λ x b. map (λ y. x + y) b) (10 ∷ 20 ∷ 30 ∷ 40 ∷ []) (1 ∷ 2 ∷ 3 ∷ 4 ∷ 5 ∷ []) ≡ 11 ∷ 12 ∷ 23 ∷ 24 ∷ 35 ∷ []
unfolding each_chunk
short-chunk = refl

-- three selections; field 1 of the first is hit once, of the third twice; of a fourth there are no bytes
abbrev three : Bytes
three = blank_cells 1 0 ++ (blank_cells 2 0 ++ blank_cells 3 1)

abbrev hit_three : Bytes
hit_three = hit_selections (simple ab) 1 (1 ∷ 0 ∷ 2 ∷ 1 ∷ []) three

cells-of-three : map (cell_at hit_three) (0 ∷ 128 ∷ 256 ∷ 512 ∷ 640 ∷ 1024 ∷ 1152 ∷ []) ≡ Unset ∷ Set ab ∷ Unset ∷ Unset ∷ Unset ∷ Unset ∷ Multiple ∷ []
unfolding cell_at cell_for or_unset cell_in cell_from hit_selections each_chunk hit_at hit_bytes more_in is_multiple hit one put blank_cells put_cells head_cell tail_cells put_cell pad cell_state key_of
cells-of-three = refl

-- depths and scopes stay beside the cells, and the area keeps its length
numbers-of-three : map (depth_at hit_three) (0 ∷ 512 ∷ 1024 ∷ []) ++ map (scope_at hit_three) (0 ∷ 512 ∷ 1024 ∷ []) ++ (length hit_three ∷ []) ≡ 1 ∷ 2 ∷ 3 ∷ 0 ∷ 0 ∷ 1 ∷ 1536 ∷ []
unfolding depth_at scope_at cell_for or_unset cell_in cell_from hit_selections each_chunk hit_at hit_bytes more_in is_multiple hit one put blank_cells put_cells head_cell tail_cells put_cell pad cell_state key_of
numbers-of-three = refl

-- the second cell of the machine's
nth : hit_nth 1 (simple ab ∷ []) (Unset ∷ Unset ∷ Set ab ∷ []) ≡ Unset ∷ Set ab ∷ Set ab ∷ []
unfolding hit_nth hit one
nth = refl
