-- Records written out byte for byte, with the places in them: what the places say, which texts are over a limit, and what is answered.
-- Assumes nothing.
use Rattle.std.specs.Prelude.{ℕ, replicate, ◌≡◌, refl, true, false}
use mathlib.Core.List.{[], ◌∷◌, map, flat_map}
use Rattle.std.specs.declared.option.Option.TheVariants.{Some, None}
use Rattle.std.specs.declared.result.Result.TheVariants.{Ok}
use Rattle.std.proofs.Math.Option.{none, some}
use Rattle.lists.specs.Lists.{only_if, passing}
use Rattle.texts.specs.Texts.{same}
use Rattle.numbers.specs.Numbers.{two}
use Rattle.utf8.specs.Utf8.{scalar, encode, size_of, code_of, decode_from, decode, utf8}
use Rattle.paths.specs.Examples.{codes}
use Rattle.records.specs.Readers.{Bytes, on_read, ◌>>=◌, pass, read_byte, read_two, cons_on, read_bytes, read_text, on_whole, up_to}
use Rattle.records.specs.Refusals.{bad_byte, refusal_number, first_of}
use Rattle.records.specs.Records.{FI, read_attribute, attribute_name, attribute_key, texts_of, keys_in, has_bad_byte, count_of, long_path, counts_over, over_in, body_rows, unparsed, parsed, judged, mark_id, mark_ns, mark_es, mark_ee, mark_fi}
use Rattle.records.specs.Examples.{id_of, ns_of, es_of, with, ee_of}
use Rattle.record_places.specs.declared.Place.{Place}
use Rattle.record_places.specs.declared.Id.{Id}
use Rattle.record_places.specs.declared.Ns.{Ns}
use Rattle.record_places.specs.declared.Es.{Es}
use Rattle.record_places.specs.declared.Ee.{Ee}
use Rattle.record_places.specs.declared.Refusal.{Refusal}
use Rattle.record_places.specs.declared.Refusal.TheVariants.{UnknownMark, TooLong, Misframed, NotUtf8, BadByte, OverLimit}
use Rattle.record_places.specs.declared.Record.TheVariants as walked
use Rattle.record_places.specs.declared.Mark.TheVariants as mark
use Rattle.record_places.specs.Places.{text_place, read_to, refer_in, id_in, ns_in, es_in, ee_in, refusal_of, parsed_by}
use Rattle.record_places.specs.Checks.{any_not_utf8, over_field, over_sizes, judgement, mark_by, marked_by}

-- ---- the five records by their places

-- where, and how many bytes
abbrev at : ℕ → ℕ → Place
at start size = record { start = start; size = size }

-- a keyref n to k1 with selector r and fields @id, ab
abbrev id_bytes : Bytes
id_bytes = 73 ∷ 68 ∷ 22 ∷ 0 ∷ 2 ∷ 1 ∷ 0 ∷ 110 ∷ 1 ∷ 2 ∷ 0 ∷ 107 ∷ 49 ∷ 1 ∷ 0 ∷ 114 ∷ 2 ∷ 3 ∷ 0 ∷ 64 ∷ 105 ∷ 100 ∷ 2 ∷ 0 ∷ 97 ∷ 98 ∷ []

abbrev id : (flag : ℕ) → Id
id flag = record { kind = 2; name = at 7 1; flag = flag; refer = at 11 2; selector = at 15 1; first = 17; count = 2 }

-- p is uv in field 1
abbrev ns_bytes : Bytes
ns_bytes = 78 ∷ 83 ∷ 8 ∷ 0 ∷ 3 ∷ 1 ∷ 0 ∷ 112 ∷ 2 ∷ 0 ∷ 117 ∷ 118 ∷ []

abbrev ns : Ns
ns = record { target = 3; prefix = at 7 1; uri = at 10 2 }

-- p:r in namespace u, constraints 4 and 0, id="a"
abbrev es_bytes : Bytes
es_bytes = 69 ∷ 83 ∷ 19 ∷ 0 ∷ 1 ∷ 0 ∷ 117 ∷ 3 ∷ 0 ∷ 112 ∷ 58 ∷ 114 ∷ 2 ∷ 4 ∷ 0 ∷ 1 ∷ 2 ∷ 0 ∷ 105 ∷ 100 ∷ 1 ∷ 0 ∷ 97 ∷ []

abbrev es : Es
es = record { space = at 6 1; name = at 9 3; numbers = at 13 2; first = 16; count = 1 }

-- with the simple value a
abbrev ee_bytes : Bytes
ee_bytes = 69 ∷ 69 ∷ 4 ∷ 0 ∷ 1 ∷ 1 ∷ 0 ∷ 97 ∷ []

abbrev ee : Ee
ee = record { simple = 1; key = at 7 1 }

id-said : parsed_by id_bytes (Ok (walked.Id (id 1))) ≡ parsed (id_of 2 (codes "n") (some (codes "k1")) (codes "r") (codes "@id" ∷ codes "ab" ∷ []))
unfolding id_in up_to on_whole read_text read_two read_byte read_bytes cons_on ◌>>=◌ on_read pass id_of codes
id-said = refl

-- the same places with a refer byte of 0
id-plain : parsed_by id_bytes (Ok (walked.Id (id 0))) ≡ parsed (id_of 2 (codes "n") none (codes "r") (codes "@id" ∷ codes "ab" ∷ []))
unfolding id_in up_to on_whole read_text read_two read_byte read_bytes cons_on ◌>>=◌ on_read pass id_of codes
id-plain = refl

-- no text follows another refer byte than 1
no-refer : map (λ (flag : ℕ). refer_in id_bytes flag (at 11 2)) (0 ∷ 1 ∷ 2 ∷ []) ≡ none ∷ some (codes "k1") ∷ none ∷ []
unfolding codes
no-refer = refl

ns-said : parsed_by ns_bytes (Ok (walked.Ns ns)) ≡ parsed (ns_of 3 (codes "p") (codes "uv"))
unfolding ns_in ns_of codes
ns-said = refl

es-said : parsed_by es_bytes (Ok (walked.Es es)) ≡ parsed (es_of (codes "u") (codes "p:r") (4 ∷ 0 ∷ []) (with (codes "id") (codes "a") ∷ []))
unfolding es_in up_to on_whole read_attribute read_text read_two read_byte read_bytes cons_on ◌>>=◌ on_read pass es_of with codes
es-said = refl

ee-said : parsed_by ee_bytes (Ok (walked.Ee ee)) ≡ parsed (ee_of 1 (codes "a"))
unfolding ee_in ee_of codes
ee-said = refl

fi-said : parsed_by (70 ∷ 73 ∷ 0 ∷ 0 ∷ []) (Ok walked.Fi) ≡ parsed FI
fi-said = refl

-- the numbers of the refusals
numbers : map (λ (r : Refusal). refusal_number (refusal_of r)) (UnknownMark ∷ TooLong ∷ Misframed ∷ NotUtf8 ∷ BadByte ∷ OverLimit ∷ []) ≡ 1 ∷ 5 ∷ 2 ∷ 3 ∷ 4 ∷ 5 ∷ []
unfolding refusal_number
numbers = refl

-- where a text stands: one that is whole, one behind another byte, one whose last byte is not there, one without its length
texts-stand : text_place (1 ∷ 0 ∷ 97 ∷ []) 0 ∷ text_place (9 ∷ 0 ∷ 0 ∷ []) 1 ∷ text_place (2 ∷ 0 ∷ 97 ∷ []) 0 ∷ text_place (0 ∷ []) 0 ∷ [] ≡ Some (record { start = 2; size = 1 }) ∷ Some (record { start = 3; size = 0 }) ∷ None ∷ None ∷ []
unfolding text_place two
texts-stand = refl

-- up to a place, to the very end, and past it
read-to : map (λ (next : ℕ). read_to ee_bytes next true) (7 ∷ 8 ∷ 9 ∷ []) ≡ some (true, 97 ∷ []) ∷ some (true, []) ∷ none ∷ []
unfolding read_to
read-to = refl

-- ---- limits and answers

-- 255 and 256 bytes; seven and eight `|`; sixteen and seventeen `/`
fields-over : map over_field (replicate 255 97 ∷ replicate 256 97 ∷ replicate 7 124 ∷ replicate 8 124 ∷ replicate 16 47 ∷ replicate 17 47 ∷ []) ≡ false ∷ true ∷ false ∷ true ∷ false ∷ true ∷ []
unfolding long_path count_of passing only_if
fields-over = refl

-- a name of 255 bytes and a key of 126; one byte more of either
sizes-over : over_sizes 255 126 ∷ over_sizes 256 126 ∷ over_sizes 255 127 ∷ [] ≡ false ∷ true ∷ true ∷ []
sizes-over = refl

-- a byte that no UTF-8 has, in the name of an attribute, in its key, and in neither
no-utf8 : map any_not_utf8 (es_of [] [] [] (with (255 ∷ []) [] ∷ []) ∷ es_of [] [] [] (with [] (255 ∷ []) ∷ []) ∷ es_of [] [] (255 ∷ []) (with [] [] ∷ []) ∷ []) ≡ true ∷ true ∷ false ∷ []
unfolding any_not_utf8 texts_of keys_in attribute_name attribute_key es_of with same scalar encode size_of code_of decode_from decode utf8 flat_map
no-utf8 = refl

-- a simple byte of 2 is refused, one of 1 is not
answered : judgement (ee_of 3 []) ∷ judgement (ee_of 2 []) ∷ [] ≡ unparsed bad_byte ∷ parsed (ee_of 2 []) ∷ []
unfolding judged first_of body_rows has_bad_byte over_in counts_over texts_of keys_in ee_of same scalar encode size_of code_of decode_from decode utf8 flat_map
answered = refl

-- ---- marks

marks : map mark_by (mark.Id ∷ mark.Ns ∷ mark.Es ∷ mark.Ee ∷ mark.Fi ∷ []) ≡ mark_id ∷ mark_ns ∷ mark_es ∷ mark_ee ∷ mark_fi ∷ []
marks = refl

marked : marked_by None ∷ marked_by (Some mark.Ee) ∷ [] ≡ none ∷ some mark_ee ∷ []
marked = refl
