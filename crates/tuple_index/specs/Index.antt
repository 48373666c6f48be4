-- An index of records: slots in a row, of which those that are not free each name a record. A text is looked for from the slot on that its number says, up to the first
-- free one. The row does not wrap: what is pushed along runs into slots that are no text's first.
-- Assumes nothing.
use Rattle.std.specs.Prelude.{◌≡◌, ℕ, suc, ◌+◌, ◌-◌, ◌*◌, ◌/◌, ◌<◌, min, Bool, true, false, cond, ◌&&◌, ◌||◌, ◌⊎◌, List, [], ◌∷◌, length, drop, ◌==◌, nat_lt}
use Rattle.std.proofs.Math.Option.{Option, none, some, map}
use Rattle.lists.specs.Lists.{put, All}
use Rattle.texts.specs.Texts.{same}
use Rattle.records.specs.Readers.{Bytes}
use Rattle.hashes.specs.Hashes.{hash_of}
use Rattle.tuple_search.specs.Search.{place_with, first_with}
use Rattle.tuple_index.specs.declared.Slot.{Slot}

-- ---- slots

-- three words each: those of a `Slot`
unfoldable pub slots_of : List ℕ → List Slot
slots_of [] = []
slots_of (p ∷ []) = []
slots_of (p ∷ n ∷ []) = []
slots_of (p ∷ n ∷ h ∷ ws) = record { place = p; number = n; hash = h } ∷ slots_of ws

abbrev pub is_free : Slot → Bool
is_free s = s.place == 0

-- the last slots, which are no text's first: 64, of a short row a quarter
unfoldable pub spare : (slots : ℕ) → ℕ
spare m = cond (nat_lt m 256) (m / 4) 64

-- the first slot of a text whose number, below 2^32, is this
unfoldable pub start_of : (slots hash : ℕ) → ℕ
start_of m h = h * min (m - spare m) 4294967295 / 4294967296

-- ---- the search; `tail` says which text stands where a slot points

-- none: any number will do
abbrev pub is_wanted : (want : Option ℕ) → (number : ℕ) → Bool
is_wanted none n = true
is_wanted (some k) n = n == k

-- a slot passes that has the number of the text, a number that is wanted, and the text
abbrev pub passes_by : (want : Option ℕ) → (tail : Slot → Bytes) → (hash : ℕ) → (q : Bytes) → Slot → Bool
passes_by want tail h q s = s.hash == h && (is_wanted want s.number && same (tail s) q)

-- the number in the first slot that passes, before the first free one; 0 where there is none
unfoldable pub seek : (Slot → Bool) → List Slot → ℕ
seek test [] = 0
seek test (s ∷ ss) = cond (is_free s) 0 (cond (test s) s.number (seek test ss))

-- how many slots stand before the first that is free or passes
unfoldable pub stops : (Slot → Bool) → List Slot → ℕ
stops test [] = 0
stops test (s ∷ ss) = cond (is_free s || test s) 0 (suc (stops test ss))

-- the number in the front slot; 0 where it is free, or none is there
unfoldable pub number_at : List Slot → ℕ
number_at [] = 0
number_at (s ∷ ss) = cond (is_free s) 0 s.number

-- the same, as an answer that may be none
unfoldable pub number_in : List Slot → Option ℕ
number_in [] = none
number_in (s ∷ ss) = cond (is_free s) none (some s.number)

-- whether the front slot is free, where there is one
unfoldable pub free_in : List Slot → Option Bool
free_in [] = none
free_in (s ∷ ss) = some (is_free s)

-- a place in a row of so many slots; none past the last
unfoldable pub in_row : (many at : ℕ) → Option ℕ
in_row many at = cond (nat_lt at many) (some at) none

-- where the search for a text with this number ends, in the row of all slots
unfoldable pub slot_for : (Slot → Bool) → (hash : ℕ) → List Slot → ℕ
slot_for test h ss = start_of (length ss) h + stops test (drop (start_of (length ss) h) ss)

-- the words of slots where one is written at a place, if it is free there
abbrev pub if_free : Option Bool → (new old : List ℕ) → List ℕ
if_free none new old = old
if_free (some b) new old = cond b new old

unfoldable pub entered_at : (at : ℕ) → Slot → List ℕ → List ℕ
entered_at at s ws = if_free (free_in (drop at (slots_of ws))) (put ws (3 * at) (s.place ∷ s.number ∷ s.hash ∷ [])) ws

-- the number of the first record with a tail, among records which so many stand before
unfoldable pub found_behind : (count : ℕ) → (tail : Bytes) → List Bytes → Option ℕ
found_behind count tail fs = map (λ n. count + n) (place_with tail fs)

-- ---- what is true of an index of these records by their bytes from 5 on

-- a slot that is not free says the number of the FIRST record with its tail, and there is one
pub record Right (fs : List Bytes) (tail : Slot → Bytes) (s : Slot) : Type 0 where
  pub hash : s.hash ≡ hash_of (tail s)
  pub number : s.number ≡ first_with (tail s) fs
  pub stands : 0 < first_with (tail s) fs

-- behind slots that are not free stands one that is this
abbrev pub Along : (Slot → Type 0) → List Slot → Type 0
Along this [] = ⊥
Along this (s ∷ ss) = (is_free s ≡ false) × (this s ⊎ Along this ss)

pub record Indexed (fs : List Bytes) (tail : Slot → Bytes) (ss : List Slot) : Type 0 where
  pub sound : All (λ s. is_free s ≡ false → Right fs tail s) ss
  pub complete : All (λ f. Along (λ s. tail s ≡ drop 5 f) (drop (start_of (length ss) (hash_of (drop 5 f))) ss)) fs
