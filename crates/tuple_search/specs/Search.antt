-- The TU that is made of the cells of a finished selection, and what a search among the records of a tuple store finds.
-- Assumes nothing.
use Rattle.std.specs.Prelude.{ℕ, zero, suc, ◌+◌, ◌≤◌, min, length, take, drop, get_or, ◌≡◌, Bool, cond, ◌&&◌, List, [], ◌∷◌, ◌++◌}
use Rattle.std.proofs.Math.Option.{Option, none, some, map}
use Rattle.lists.specs.Lists.{any}
use Rattle.texts.specs.Texts.{Text, same}
use Rattle.numbers.specs.Numbers.{two_bytes, four_bytes}
use Rattle.records.specs.Readers.{Bytes, put_texts}
use Rattle.session_spec.specs.Layout.{key_of}
use Rattle.cells.specs.Cells.{cell_for}
use Rattle.output_stores.specs.Stores.{in_mask}
use Rattle.tuple_search.specs.declared.Made.{Made}

-- ---- the TU of a selection

-- the keys of the first n cells
unfoldable pub first_keys : (n : ℕ) → Bytes → List Text
first_keys zero cells = []
first_keys (suc n) cells = key_of (cell_for (take 128 cells)) ∷ first_keys n (drop 128 cells)

-- those of a selection's fields, which has four cells
unfoldable pub keys_in : (fields : ℕ) → Bytes → List Text
keys_in fields cells = first_keys (min 4 fields) cells

-- Two tuples of a store are the same where these are: scope, field count and key texts, which are all of a TU from byte 5 on.
unfoldable pub tail_bytes : (scope : ℕ) → List Text → Bytes
tail_bytes scope keys = four_bytes scope ++ (length keys ∷ put_texts keys)

unfoldable pub tu_bytes : (constraint scope : ℕ) → List Text → Bytes
tu_bytes constraint scope keys = 84 ∷ 85 ∷ (two_bytes (6 + length (put_texts keys)) ++ (constraint ∷ tail_bytes scope keys))

-- its ten bytes before the texts
abbrev pub tu_head : (size constraint scope count : ℕ) → Bytes
tu_head size constraint scope count = 84 ∷ 85 ∷ (two_bytes size ++ (constraint ∷ (four_bytes scope ++ (count ∷ []))))

-- The first `size` bytes are the TU.
pub record MadeOf (constraint scope : ℕ) (keys : List Text) (m : Made) : Type 0 where
  pub holds : take m.size m.bytes ≡ tu_bytes constraint scope keys
  pub sized : m.size ≡ length (tu_bytes constraint scope keys)
  pub short : m.size ≤ 522

-- ---- the search for a tuple that is the same

unfoldable pub or_zero : Option ℕ → ℕ
or_zero none = 0
or_zero (some n) = n

-- the place, counting from 1, of the first record whose bytes from 5 on are these
unfoldable pub place_with : (tail : Bytes) → List Bytes → Option ℕ
place_with tail [] = none
place_with tail (f ∷ fs) = cond (same (drop 5 f) tail) (some 1) (map suc (place_with tail fs))

-- its number; 0 where there is none
unfoldable pub first_with : (tail : Bytes) → List Bytes → ℕ
first_with tail fs = or_zero (place_with tail fs)

-- ---- the search for a tuple that answers a keyref

-- its constraint, at byte 4, is in the set, and from byte 9 on it has this field count and these texts
unfoldable pub is_answer : (named : ℕ) → (texts : Bytes) → Bytes → Bool
is_answer named texts f = in_mask named (get_or f 4 0) && same (drop 9 f) texts

unfoldable pub answered_by : (named : ℕ) → (texts : Bytes) → List Bytes → Bool
answered_by named texts fs = any (is_answer named texts) fs
