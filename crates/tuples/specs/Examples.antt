-- A store of two TUs written out, on which the definitions compute: what each is to give is written by hand.
-- Assumes nothing.
use Rattle.std.specs.Prelude.{ℕ, leb, ltb, ◌≡◌, refl, Bool, true, false, ◌&&◌}
use mathlib.Core.List.{[], ◌∷◌, ◌++◌, flat_map}
use Rattle.std.proofs.Math.Option.{Option, none, some}
use Rattle.std.specs.declared.option.Option.TheVariants.{Some, None}
use Rattle.texts.specs.Texts.{Text}
use Rattle.numbers.specs.Numbers.{two_bytes}
use Rattle.records.specs.Readers.{Bytes, on_read, ◌>>=◌, pass, require, read_byte, read_two, read_four, cons_on, read_bytes, read_text, times, on_rest, read_all, reads, on_behind, record_at, bytes_from, put_text, put_texts}
use Rattle.session_spec.specs.Layout.{TuRecord, read_tu, key_at, tuple_field, Part, part_in, part_of, field_part}
use Rattle.output_stores.specs.Stores.{on_list, reads_as}
use Rattle.session_spec.specs.Definitions.{is_some}
use Rattle.tuples.specs.Tuples.{tuples_fit, counted, within, all_read, readable, placed, rest_of, left_by}

-- ---- the TUs, by their parts

-- of constraint 1 and scope 3, with the texts "ab" and ""
abbrev first : TuRecord
first = record { constraint = 1; scope = 3; keys = (97 ∷ 98 ∷ []) ∷ [] ∷ [] }

-- of constraint 0 and scope 258, with the text "c"
abbrev second : TuRecord
second = record { constraint = 0; scope = 258; keys = (99 ∷ []) ∷ [] }

both-fit : tuples_fit 2 258 2 (first ∷ second ∷ []) ≡ true
unfolding tuples_fit
both-fit = refl

first-undefined : tuples_fit 1 258 2 (first ∷ second ∷ []) ≡ false
unfolding tuples_fit
first-undefined = refl

second-undefined : tuples_fit 0 258 2 (second ∷ []) ≡ false
unfolding tuples_fit
second-undefined = refl

second-not-opened : tuples_fit 2 257 2 (first ∷ second ∷ []) ≡ false
unfolding tuples_fit
second-not-opened = refl

one-too-many : tuples_fit 2 258 1 (first ∷ second ∷ []) ≡ false
unfolding tuples_fit
one-too-many = refl

no-tuples : tuples_fit 0 0 0 [] ≡ true
unfolding tuples_fit
no-tuples = refl

-- of what constraint and of what scope each is
both-counted : counted (λ c s. ltb c 2 && leb 3 s) (some (first ∷ second ∷ [])) ≡ some 2
unfolding counted
both-counted = refl

second-fails : counted (λ c s. ltb c s && leb 1 c) (some (first ∷ second ∷ [])) ≡ none
unfolding counted
second-fails = refl

not-there : counted (λ c s. true) none ≡ none
unfolding counted
not-there = refl

two-of-two : within 2 (some 2) ≡ some 2
unfolding within
two-of-two = refl

two-of-one : within 1 (some 2) ≡ none
unfolding within
two-of-one = refl

-- ---- the same in bytes

abbrev sixteen : Bytes
sixteen = 84 ∷ 85 ∷ 12 ∷ 0 ∷ 1 ∷ 3 ∷ 0 ∷ 0 ∷ 0 ∷ 2 ∷ 2 ∷ 0 ∷ 97 ∷ 98 ∷ 0 ∷ 0 ∷ []

abbrev thirteen : Bytes
thirteen = 84 ∷ 85 ∷ 9 ∷ 0 ∷ 0 ∷ 2 ∷ 1 ∷ 0 ∷ 0 ∷ 1 ∷ 1 ∷ 0 ∷ 99 ∷ []

abbrev store : Bytes
store = sixteen ++ thirteen

-- ---- what is asked of bytes; each opens what it takes to compute

passes : (constraints opened most : ℕ) → Bytes → Bool
unfolding reads_as on_list reads read_all on_rest read_tu read_four read_two read_byte read_text read_bytes cons_on times require ◌>>=◌ on_read pass put_texts put_text two_bytes flat_map tuples_fit
passes constraints opened most xs = reads_as read_tu (tuples_fit constraints opened most) xs

place_of : (number field : ℕ) → Part
unfolding field_part part_of part_in bytes_from record_at on_behind read_tu read_four read_two read_byte read_text read_bytes cons_on times require ◌>>=◌ on_read pass put_texts put_text two_bytes flat_map
place_of number field = field_part store number field

text_of : (number field : ℕ) → Text
unfolding tuple_field key_at record_at on_behind read_tu read_four read_two read_byte read_text read_bytes cons_on times require ◌>>=◌ on_read pass put_texts put_text two_bytes flat_map
text_of number field = tuple_field store number field

behind : (count : ℕ) → Option Bytes
unfolding bytes_from on_behind read_tu read_four read_two read_byte read_text read_bytes cons_on times require ◌>>=◌ on_read pass put_texts put_text two_bytes flat_map
behind count = bytes_from count read_tu store

-- what a view looks at
seen : (used : ℕ) → Bytes
unfolding readable all_read is_some reads read_all on_rest read_tu read_four read_two read_byte read_text read_bytes cons_on times require ◌>>=◌ on_read pass put_texts put_text two_bytes flat_map
seen used = readable used store

-- of the texts of the first
behind_texts : (count : ℕ) → Option Bytes
unfolding bytes_from on_behind read_text read_two read_byte read_bytes cons_on ◌>>=◌ on_read pass
behind_texts count = bytes_from count read_text (2 ∷ 0 ∷ 97 ∷ 98 ∷ 0 ∷ 0 ∷ [])

-- ---- the whole store

store-passes : passes 2 258 2 store ≡ true
unfolding passes
store-passes = refl

scope-not-opened : passes 2 257 2 store ≡ false
unfolding passes
scope-not-opened = refl

two-are-too-many : passes 2 258 1 store ≡ false
unfolding passes
two-are-too-many = refl

byte-left-over : passes 2 258 2 (thirteen ++ (84 ∷ [])) ≡ false
unfolding passes
byte-left-over = refl

-- its length is stated as 10, and a byte follows
one-more-stated : passes 2 258 2 (84 ∷ 85 ∷ 10 ∷ 0 ∷ 0 ∷ 2 ∷ 1 ∷ 0 ∷ 0 ∷ 1 ∷ 1 ∷ 0 ∷ 99 ∷ 0 ∷ []) ≡ false
unfolding passes
one-more-stated = refl

-- ---- the used part

all-used : seen 29 ≡ store
unfolding seen
all-used = refl

first-used : seen 16 ≡ sixteen
unfolding seen
first-used = refl

none-used : seen 0 ≡ []
unfolding seen
none-used = refl

used-past-the-store : seen 30 ≡ []
unfolding seen
used-past-the-store = refl

second-cut-off : seen 28 ≡ []
unfolding seen
second-cut-off = refl

-- ---- one stray byte behind TU 1 in the used part: `tuple_field` reads TU 1 all the same, but a view looks at nothing

-- the text of TU 1, field 0, by its view
view_of : (used : ℕ) → Bytes → Text
unfolding readable all_read is_some tuple_field key_at record_at on_behind reads read_all on_rest read_tu read_four read_two read_byte read_text read_bytes cons_on times require ◌>>=◌ on_read pass put_texts put_text two_bytes flat_map
view_of used xs = tuple_field (readable used xs) 1 0

without-it : view_of 13 (thirteen ++ (7 ∷ [])) ≡ 99 ∷ []
unfolding view_of
without-it = refl

with_it : view_of 14 (thirteen ++ (7 ∷ [])) ≡ []
unfolding view_of
with_it = refl

read-all-the-same : tuple_field (thirteen ++ (7 ∷ [])) 1 0 ≡ 99 ∷ []
unfolding view_of
read-all-the-same = refl

-- ---- fields

place-of-ab : placed (record { start = 12; size = 2 }) ≡ place_of 1 0
unfolding place_of
place-of-ab = refl

place-of-empty : placed (record { start = 16; size = 0 }) ≡ place_of 1 1
unfolding place_of
place-of-empty = refl

place-of-c : placed (record { start = 28; size = 1 }) ≡ place_of 2 0
unfolding place_of
place-of-c = refl

no-such-field : placed (record { start = 0; size = 0 }) ≡ place_of 2 1
unfolding place_of
no-such-field = refl

no-such-tuple : placed (record { start = 0; size = 0 }) ≡ place_of 3 0
unfolding place_of
no-such-tuple = refl

text-is-ab : text_of 1 0 ≡ 97 ∷ 98 ∷ []
unfolding text_of
text-is-ab = refl

text-is-c : text_of 2 0 ≡ 99 ∷ []
unfolding text_of
text-is-c = refl

-- ---- what is left

behind-first : rest_of (behind 1) ≡ thirteen
unfolding rest_of behind
behind-first = refl

behind-three : rest_of (behind 3) ≡ []
unfolding rest_of behind
behind-three = refl

left-behind-first : left_by (Some (record { ref_ptr = (0, 0); now = thirteen })) ≡ behind 1
unfolding behind
left-behind-first = refl

left-behind-none : left_by None ≡ behind 3
unfolding behind
left-behind-none = refl

left-behind-one : left_by (Some (record { ref_ptr = (0, 0); now = 0 ∷ 0 ∷ [] })) ≡ behind_texts 1
unfolding behind_texts
left-behind-one = refl

left-behind-three : left_by None ≡ behind_texts 3
unfolding behind_texts
left-behind-three = refl
