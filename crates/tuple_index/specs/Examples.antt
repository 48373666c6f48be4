-- Two TUs of one scope, with the keys `b` and `e`, in three slots: both texts have slot 1 for their first, so that the second TU stands in slot 2, and slot 0 is free.
-- What each definition is to give on them is written by hand.
-- Assumes nothing.
use Rattle.std.specs.Prelude.{◌≡◌, ℕ, ◌<◌, ◌≤◌, true, false, List, [], ◌∷◌, ◌++◌, map, length, replicate, refl}
use Rattle.std.proofs.Common.{arith, true≢false, inl, inr}
use Rattle.lists.specs.Lists.{put}
use Rattle.texts.specs.Texts.{same}
use Rattle.numbers.specs.Numbers.{two, four}
use Rattle.hashes.specs.Hashes.{hash_to, hash_of}
use Rattle.std.proofs.Math.Option.{none, some}
use Rattle.records.specs.Readers.{Bytes, on_read, ◌>>=◌, pass, read_byte, cons_on, read_bytes}
use Rattle.session_spec.specs.Definitions.{frame}
use Rattle.output_stores.specs.Stores.{standing}
use Rattle.tuple_search.specs.Search.{or_zero, place_with, first_with}
use Rattle.std.specs.declared.option.Option.TheVariants.{None}
use Rattle.tuple_index.specs.declared.Slot.{Slot}
use Rattle.tuple_index.specs.declared.Sought.{Sought}
use Rattle.tuple_index.specs.Index.{slots_of, is_free, spare, start_of, is_wanted, passes_by, seek, stops, number_at, number_in, free_in, in_row, slot_for, entered_at, found_behind, Right, Along, Indexed}
use Rattle.tuple_index.specs.Covers.{tail_from, tail_in, passing, end_of, Inside, next_place, Covered, CoversBy, slots_in, head_in, slots_end, Covers, slots_for, is_crowded, Advances, Keeps, Empties, Makes}

abbrev first : Bytes
first = 84 ∷ 85 ∷ 9 ∷ 0 ∷ 0 ∷ 1 ∷ 0 ∷ 0 ∷ 0 ∷ 1 ∷ 1 ∷ 0 ∷ 98 ∷ []

abbrev second : Bytes
second = 84 ∷ 85 ∷ 9 ∷ 0 ∷ 5 ∷ 1 ∷ 0 ∷ 0 ∷ 0 ∷ 1 ∷ 1 ∷ 0 ∷ 101 ∷ []

abbrev store : Bytes
store = first ++ second

abbrev both : List Bytes
both = first ∷ second ∷ []

-- scope, field count and text of the key `b`, of `e`, of `d`
abbrev b : Bytes
b = 1 ∷ 0 ∷ 0 ∷ 0 ∷ 1 ∷ 1 ∷ 0 ∷ 98 ∷ []

abbrev e : Bytes
e = 1 ∷ 0 ∷ 0 ∷ 0 ∷ 1 ∷ 1 ∷ 0 ∷ 101 ∷ []

abbrev d : Bytes
d = 1 ∷ 0 ∷ 0 ∷ 0 ∷ 1 ∷ 1 ∷ 0 ∷ 100 ∷ []

-- ---- slots

abbrev empty : Slot
empty = record { place = 0; number = 9; hash = 7 }

abbrev of-b : Slot
of-b = record { place = 1; number = 1; hash = 2424537288 }

abbrev of-e : Slot
of-e = record { place = 14; number = 2; hash = 2743304392 }

abbrev three : List Slot
three = empty ∷ of-b ∷ of-e ∷ []

-- words that are no whole slot are none
abbrev words : List ℕ
words = 0 ∷ 9 ∷ 7 ∷ 1 ∷ 1 ∷ 2424537288 ∷ 14 ∷ 2 ∷ 2743304392 ∷ 5 ∷ 6 ∷ []

three-words-each : slots_of words ≡ three
unfolding slots_of
three-words-each = refl

-- a quarter of a short row, 64 of a long one
spares : map spare (0 ∷ 3 ∷ 8 ∷ 255 ∷ 256 ∷ 1000 ∷ []) ≡ 0 ∷ 0 ∷ 2 ∷ 63 ∷ 64 ∷ 64 ∷ []
unfolding spare
spares = refl

-- the highest number begins at the last slot that is not spare, and 2^32 slots are not asked for
starts : map (λ (m : ℕ). start_of m 4294967295) (4 ∷ 10000000000 ∷ []) ≡ 2 ∷ 4294967294 ∷ []
unfolding start_of spare
starts = refl

-- ---- the search

wanted : is_wanted none 7 ≡ true
wanted = refl

just-this : is_wanted (some 3) 3 ≡ true
just-this = refl

not-wanted : is_wanted (some 3) 7 ≡ false
not-wanted = refl

-- by number and bytes; equal numbers of texts alone do not pass
passed : map (passes_by none (tail_in store 4) 2743304392 e) (of-e ∷ of-b ∷ []) ≡ true ∷ false ∷ []
unfolding same two
passed = refl

by-chance : passes_by none (tail_in store 4) 2743304392 e (record { place = 1; number = 1; hash = 2743304392 }) ≡ false
unfolding same two
by-chance = refl

-- behind a slot with another text, not behind a free one, and not past the last
sought : seek (passes_by none (tail_in store 4) 2743304392 e) (of-b ∷ of-e ∷ []) ≡ 2
unfolding seek same two
sought = refl

not-behind-free : seek (passes_by none (tail_in store 4) 2743304392 e) three ≡ 0
unfolding seek same two
not-behind-free = refl

stopped : map (stops (passes_by none (tail_in store 4) 2743304392 e)) (three ∷ (of-b ∷ of-e ∷ []) ∷ (of-b ∷ []) ∷ []) ≡ 0 ∷ 1 ∷ 1 ∷ []
unfolding stops same two
stopped = refl

-- what a free slot says counts for nothing
numbers : map number_at (three ∷ (of-e ∷ []) ∷ [] ∷ []) ≡ 0 ∷ 2 ∷ 0 ∷ []
unfolding number_at
numbers = refl

numbers-there : map number_in (three ∷ (of-e ∷ []) ∷ [] ∷ []) ≡ none ∷ some 2 ∷ none ∷ []
unfolding number_in
numbers-there = refl

are-free : map free_in (three ∷ (of-e ∷ []) ∷ [] ∷ []) ≡ some true ∷ some false ∷ none ∷ []
unfolding free_in
are-free = refl

rows : map (in_row 3) (0 ∷ 2 ∷ 3 ∷ []) ≡ some 0 ∷ some 2 ∷ none ∷ []
unfolding in_row
rows = refl

-- the first slot is free, the second is not, a fourth is not there
slots-entered : map (λ (at : ℕ). entered_at at (record { place = 40; number = 3; hash = 5 }) words) (0 ∷ 1 ∷ 3 ∷ [])
    ≡ (40 ∷ 3 ∷ 5 ∷ 1 ∷ 1 ∷ 2424537288 ∷ 14 ∷ 2 ∷ 2743304392 ∷ 5 ∷ 6 ∷ []) ∷ words ∷ words ∷ []
unfolding entered_at free_in slots_of put
slots-entered = refl

-- the slots of `b` and `e`; `d` begins at slot 2, which is taken, and has none
abbrev slot_of : Bytes → ℕ
slot_of q = slot_for (passes_by none (tail_in store 4) (hash_of q) q) (hash_of q) three

its-slots : map slot_of (b ∷ e ∷ d ∷ []) ≡ 1 ∷ 2 ∷ 3 ∷ []
unfolding slot_for stops start_of spare same hash_of hash_to two four
its-slots = refl

-- behind five others
sixth : map (λ (q : Bytes). found_behind 5 q both) (b ∷ e ∷ d ∷ []) ≡ some 6 ∷ some 7 ∷ none ∷ []
unfolding found_behind place_with same
sixth = refl

-- ---- what is true of an index

-- the number is that of the first with the tail; with any other it is none
not-any-number : Right both (tail_in store 4) (record { place = 14; number = 1; hash = 2743304392 }) → ⊥
unfolding first_with place_with or_zero same two
not-any-number r = let z : ◌≡◌ {A = ℕ} 1 2 = r.number in omega arith

its-hash : Right both (tail_in store 4) of-e → 2743304392 ≡ hash_of e
unfolding two
its-hash r = r.hash

is-there : Right both (tail_in store 4) (record { place = 14; number = 2; hash = 0 }) → 0 < first_with e both
unfolding two
is-there r = r.stands

-- behind a slot that is taken, not behind a free one, not where there is none
along : Along (λ s. s.number ≡ 2) (of-b ∷ of-e ∷ [])
along = (refl, inr (refl, inl refl))

none-behind-free : Along (λ s. s.number ≡ 2) (empty ∷ of-e ∷ []) → ⊥
none-behind-free a = true≢false a.0

none-along : Along (λ s. s.number ≡ 2) [] → ⊥
none-along a = a

-- of an index each slot that is taken is right, and each record stands along its own slots
each_right : Indexed both (tail_in store 4) three → Right both (tail_in store 4) of-e
each_right i = i.sound.1.1.0 refl

along-its-own : Indexed both (tail_in store 4) three → Along (λ s. tail_in store 4 s ≡ e) (of-b ∷ of-e ∷ [])
unfolding start_of spare hash_of hash_to two four
along-its-own i = i.complete.1.0

-- ---- where a slot points

tails : map (tail_from store 4) (1 ∷ 14 ∷ []) ≡ b ∷ e ∷ []
unfolding two
tails = refl

texts : map (tail_from store 8) (1 ∷ 14 ∷ []) ≡ (1 ∷ 1 ∷ 0 ∷ 98 ∷ []) ∷ (1 ∷ 1 ∷ 0 ∷ 101 ∷ []) ∷ []
unfolding two
texts = refl

-- the second TU reaches to the end, and not into a store that is cut short
to_the_end : Inside store of-e → 26 ≤ 26
unfolding two
to_the_end i = i

-- what the code looks for
abbrev for-e : Sought
for-e = record { want = None; skip = 4; hash = 2743304392; key = record { ref_ptr = (0, 0); now = e } }

passing-e : map (passing store for-e) (of-e ∷ of-b ∷ []) ≡ true ∷ false ∷ []
unfolding same two
passing-e = refl

ends-e : end_of store for-e words ≡ 2
unfolding slot_for stops slots_of start_of spare same two
ends-e = refl

next-places : map (next_place store) (0 ∷ 1 ∷ 14 ∷ 27 ∷ 28 ∷ []) ≡ none ∷ some 14 ∷ some 27 ∷ none ∷ none ∷ []
unfolding next_place frame read_byte read_bytes cons_on ◌>>=◌ on_read pass
next-places = refl

-- ---- how much is covered

module _ (c : Covered 14 1 three store) where
  -- the first TU is covered, the second stands behind it
  ends-at : 13 ≤ 26
  ends-at = c.within

  behind : standing frame (store ++ []) ≡ c.before ++ standing frame (second ++ [])
  behind = c.stands []

  one-covered : 1 ≡ length c.before
  one-covered = c.counted

  indexed : Indexed c.before (tail_in store 4) three
  indexed = c.index

  points-inside : Inside store of-e
  points-inside = c.inside.1.1.0 refl

-- a first word of 0 says nothing, whatever the others are
nothing_said : (used : Bytes) → CoversBy 0 9 three used
nothing_said used p = absurd (omega arith)

-- 26 bytes are covered, two TUs in three slots
abbrev table : List ℕ
table = 27 ∷ 2 ∷ 7 ∷ 3 ∷ words

in-the-table : slots_in table ≡ three
unfolding slots_of
in-the-table = refl

ends : map slots_end (table ∷ (0 ∷ 0 ∷ 0 ∷ 9 ∷ words) ∷ (0 ∷ 0 ∷ []) ∷ []) ≡ 13 ∷ 15 ∷ 2 ∷ []
unfolding slots_end
ends = refl

words-read : Covers table store → Covered 27 2 three store
unfolding slots_of
words-read c = c (omega arith) (omega arith)

too_short : (used : Bytes) → Covers (27 ∷ 2 ∷ 7 ∷ []) used
too_short used h p = absurd (omega arith)

heads : map head_in (table ∷ (0 ∷ 2 ∷ 7 ∷ 3 ∷ words) ∷ (27 ∷ 2 ∷ 7 ∷ []) ∷ []) ≡ some (record { next = 27; count = 2; entries = 7 }) ∷ none ∷ none ∷ []
unfolding head_in
heads = refl

-- ---- how many slots

slots-asked : map (λ (n : ℕ). slots_for n 1000) (0 ∷ 10 ∷ 1000 ∷ []) ≡ 256 ∷ 296 ∷ 332 ∷ []
unfolding slots_for
slots-asked = refl

-- of 3 slots 2 are taken, and there are words for a fourth; or none; or only one slot is taken; or nothing is covered
crowded : map is_crowded ((9 ∷ 9 ∷ 2 ∷ 3 ∷ replicate 12 0) ∷ (9 ∷ 9 ∷ 2 ∷ 3 ∷ replicate 11 0) ∷ (9 ∷ 9 ∷ 1 ∷ 3 ∷ replicate 12 0) ∷ (0 ∷ 9 ∷ 2 ∷ 3 ∷ replicate 12 0) ∷ [])
    ≡ true ∷ false ∷ false ∷ false ∷ []
unfolding is_crowded
crowded = refl

-- ---- what a call leaves

advanced : Advances 1 0 [] store 27 2 words → CoversBy 1 0 [] store → CoversBy 27 2 three store
unfolding slots_of
advanced a c = a.covers c

same_size : Advances 1 0 [] store 27 2 words → ⊥
same_size a = let z : ◌≡◌ {A = ℕ} 11 0 = a.sized in omega arith

kept : Keeps [] store table → Covers [] store → Covers table store
kept k c = k.covers c

not-longer : Keeps [] store table → ⊥
not-longer k = let z : ◌≡◌ {A = ℕ} 15 0 = k.sized in omega arith

emptied : Empties [] table → ◌≡◌ {A = ℕ} 27 1
emptied m = m.first (omega arith)

none-counted : Empties [] table → ◌≡◌ {A = ℕ} 2 0
none-counted m = m.none (omega arith)

freed : Empties [] table → is_free of-b ≡ true
unfolding slots_of
freed m = m.free.1.0

made : Makes [] store table → Covers table store
made m = m.covers
