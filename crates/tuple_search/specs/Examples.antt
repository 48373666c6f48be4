-- Selections, records and searches written out, on which the definitions compute: what each is to give is written by hand.
-- Assumes nothing.
use Rattle.std.specs.Prelude.{ℕ, ◌-◌, length, replicate, ◌≡◌, refl, true, false}
use mathlib.Core.List.{List, [], ◌∷◌, ◌++◌, flat_map}
use Rattle.texts.specs.Texts.{Text, same}
use Rattle.numbers.specs.Numbers.{two_bytes, four_bytes}
use Rattle.records.specs.Readers.{Bytes, on_read, ◌>>=◌, pass, read_byte, cons_on, read_bytes, on_whole, up_to, put_text, put_texts}
use Rattle.session_spec.specs.Definitions.{frame}
use Rattle.session_spec.specs.Layout.{key_of, cell_from, cell_in}
use Rattle.cells.specs.Cells.{or_unset, cell_for}
use Rattle.output_stores.specs.Stores.{standing, in_mask}
use Rattle.tuple_search.specs.Search.{first_keys, keys_in, tail_bytes, tu_bytes, or_zero, place_with, first_with, is_answer, answered_by}

-- ---- keys

-- a cell of this first byte, with this key and zeros behind it
abbrev cell : (first : ℕ) → Text → Bytes
cell first key = first ∷ length key ∷ (key ++ replicate (126 - length key) 0)

abbrev ab : Text
ab = 97 ∷ 98 ∷ []

-- Set with `ab` and a number beside the state, Set with the empty key, Set with `a`
abbrev three : Bytes
three = cell 41 ab ++ (cell 1 [] ++ cell 1 (97 ∷ []))

-- an empty key is a key
two_fields : keys_in 2 three ≡ ab ∷ [] ∷ []
unfolding keys_in first_keys cell_for or_unset cell_in cell_from key_of
two_fields = refl

all_three : keys_in 3 three ≡ ab ∷ [] ∷ (97 ∷ []) ∷ []
unfolding keys_in first_keys cell_for or_unset cell_in cell_from key_of
all_three = refl

-- a cell that is not there has the empty key, and there are four at most
four-at-most : keys_in 9 three ≡ ab ∷ [] ∷ (97 ∷ []) ∷ [] ∷ []
unfolding keys_in first_keys cell_for or_unset cell_in cell_from key_of
four-at-most = refl

-- a NotSimple cell has none
not-simple : keys_in 1 (cell 2 ab) ≡ [] ∷ []
unfolding keys_in first_keys cell_for or_unset cell_in cell_from key_of
not-simple = refl

-- ---- a TU of constraint 3, scope 258, with the keys `ab` and the empty one

whole-tu : tu_bytes 3 258 (ab ∷ [] ∷ []) ≡ 84 ∷ 85 ∷ 12 ∷ 0 ∷ 3 ∷ 2 ∷ 1 ∷ 0 ∷ 0 ∷ 2 ∷ 2 ∷ 0 ∷ 97 ∷ 98 ∷ 0 ∷ 0 ∷ []
unfolding tu_bytes tail_bytes two_bytes four_bytes put_texts put_text flat_map
whole-tu = refl

its-tail : tail_bytes 258 (ab ∷ [] ∷ []) ≡ 2 ∷ 1 ∷ 0 ∷ 0 ∷ 2 ∷ 2 ∷ 0 ∷ 97 ∷ 98 ∷ 0 ∷ 0 ∷ []
unfolding tail_bytes two_bytes four_bytes put_texts put_text flat_map
its-tail = refl

-- ---- searches

-- a TU of constraint 0, scope 1 and the key `a`; one of scope 2; one of constraint 5, scope 1 and the key `b`
abbrev first : Bytes
first = 84 ∷ 85 ∷ 9 ∷ 0 ∷ 0 ∷ 1 ∷ 0 ∷ 0 ∷ 0 ∷ 1 ∷ 1 ∷ 0 ∷ 97 ∷ []

abbrev second : Bytes
second = 84 ∷ 85 ∷ 9 ∷ 0 ∷ 0 ∷ 2 ∷ 0 ∷ 0 ∷ 0 ∷ 1 ∷ 1 ∷ 0 ∷ 97 ∷ []

abbrev third : Bytes
third = 84 ∷ 85 ∷ 9 ∷ 0 ∷ 5 ∷ 1 ∷ 0 ∷ 0 ∷ 0 ∷ 1 ∷ 1 ∷ 0 ∷ 98 ∷ []

abbrev store : List Bytes
store = first ∷ second ∷ third ∷ second ∷ []

-- what is cut short at the end does not stand there
they-stand : standing frame (first ++ (second ++ (84 ∷ 85 ∷ 9 ∷ 0 ∷ []))) ≡ first ∷ second ∷ []
unfolding standing up_to on_whole frame read_byte read_bytes cons_on ◌>>=◌ on_read pass
they-stand = refl

-- numbers count from 1
in-scope-one : first_with (1 ∷ 0 ∷ 0 ∷ 0 ∷ 1 ∷ 1 ∷ 0 ∷ 97 ∷ []) store ≡ 1
unfolding first_with place_with or_zero same
in-scope-one = refl

-- the first of two, in its own scope only
in-scope-two : first_with (2 ∷ 0 ∷ 0 ∷ 0 ∷ 1 ∷ 1 ∷ 0 ∷ 97 ∷ []) store ≡ 2
unfolding first_with place_with or_zero same
in-scope-two = refl

-- whatever its constraint
of-another : first_with (1 ∷ 0 ∷ 0 ∷ 0 ∷ 1 ∷ 1 ∷ 0 ∷ 98 ∷ []) store ≡ 3
unfolding first_with place_with or_zero same
of-another = refl

not_found : first_with (2 ∷ 0 ∷ 0 ∷ 0 ∷ 1 ∷ 1 ∷ 0 ∷ 98 ∷ []) store ≡ 0
unfolding first_with place_with or_zero same
not_found = refl

-- in the set of 5 alone
five-answers : answered_by 32 (1 ∷ 1 ∷ 0 ∷ 98 ∷ []) store ≡ true
unfolding answered_by is_answer in_mask same
five-answers = refl

other-texts : answered_by 32 (1 ∷ 1 ∷ 0 ∷ 97 ∷ []) store ≡ false
unfolding answered_by is_answer in_mask same
other-texts = refl

-- in any scope
any-scope : answered_by 1 (1 ∷ 1 ∷ 0 ∷ 97 ∷ []) (second ∷ []) ≡ true
unfolding answered_by is_answer in_mask same
any-scope = refl

other-constraint : answered_by 1 (1 ∷ 1 ∷ 0 ∷ 98 ∷ []) store ≡ false
unfolding answered_by is_answer in_mask same
other-constraint = refl

other-count : answered_by 32 (2 ∷ 1 ∷ 0 ∷ 98 ∷ []) store ≡ false
unfolding answered_by is_answer in_mask same
other-count = refl
