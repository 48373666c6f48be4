-- Computed: single clauses of the five records, each on the smallest case that shows it. Examples has whole records.
-- Assumes nothing.
use Rattle.std.specs.Prelude.{ℕ, replicate, ◌≡◌, refl, true, false}
use mathlib.Core.List.{[], ◌∷◌, map, flat_map}
use Rattle.std.proofs.Math.Option.{Option, none, some}
use Rattle.lists.specs.Lists.{all, any, only_if, passing}
use Rattle.texts.specs.Texts.{Text, same}
use Rattle.utf8.specs.Utf8.{scalar, encode, size_of, code_of, decode_from, decode, utf8}
use Rattle.records.specs.Readers.{on_read, ◌>>=◌, pass, read_byte, read_two, read_bytes, read_text, times, counted}
use Rattle.records.specs.Refusals.{Refusal, too_long, misframed, not_utf8, bad_byte, first_of}
use Rattle.records.specs.Records.{Rec, ID, FI, read_refer, read_id, mark_fi, refer_texts, attribute_name, attribute_key, texts_of, keys_in, has_bad_byte, count_of, long_path, counts_over, over_in, body_rows, unparsed, parsed, judged, exactly, body}
use Rattle.records.specs.Examples.{id_of, ns_of, es_of, with, ee_of}

abbrev ok : Text
ok = 97 ∷ []

-- no UTF-8
abbrev bad : Text
bad = 255 ∷ []

-- ---- the walk

-- a refer byte 7 has no text behind it
refer-7 : read_id (0 ∷ 0 ∷ 0 ∷ 7 ∷ 0 ∷ 0 ∷ 0 ∷ [])
    ≡ some (ID (record { kind = 0; name = []; flag = 7; refer = none; selector = []; fields = [] }), [])
unfolding read_id read_refer on_read ◌>>=◌ pass read_byte read_two read_bytes read_text times counted
refer-7 = refl

byte-left-over : exactly (some (FI, 0 ∷ [])) ≡ unparsed misframed
unfolding exactly
byte-left-over = refl

-- a stated length of 16,385, with no byte there
over-16384 : body mark_fi 16385 [] ≡ unparsed too_long
unfolding body
over-16384 = refl

no-refusal : judged FI none ≡ parsed FI
unfolding judged
no-refusal = refl

-- ---- 3, 4 and 5

-- the texts of an ID with refer, and of an ES with an attribute
refer-is-a-text : texts_of (id_of 2 ok (some bad) ok []) ≡ ok ∷ bad ∷ ok ∷ []
unfolding texts_of refer_texts id_of
refer-is-a-text = refl

attribute-name-is-a-text : texts_of (es_of ok ok [] (with bad ok ∷ [])) ≡ ok ∷ ok ∷ bad ∷ []
unfolding texts_of attribute_name es_of with
attribute-name-is-a-text = refl

-- the first row that holds
refused : Rec → Option Refusal
unfolding first_of body_rows only_if passing same flat_map scalar encode size_of code_of decode_from decode utf8 refer_texts attribute_name attribute_key texts_of keys_in has_bad_byte count_of long_path counts_over over_in id_of ns_of es_of with ee_of
refused r = first_of (body_rows r)

key-not-utf8 : refused (ee_of 0 bad) ≡ some not_utf8
unfolding refused
key-not-utf8 = refl

utf8-before-bytes : refused (ns_of 9 bad ok) ≡ some not_utf8
unfolding refused
utf8-before-bytes = refl

bytes-before-limits : refused (ns_of 9 (replicate 300 97) ok) ≡ some bad_byte
unfolding refused
bytes-before-limits = refl

-- a simple byte is 0, 1 or 2
simple-bytes : map (λ (b : ℕ). has_bad_byte (ee_of b ok)) (0 ∷ 1 ∷ 2 ∷ 3 ∷ 255 ∷ []) ≡ false ∷ false ∷ false ∷ true ∷ true ∷ []
unfolding has_bad_byte ee_of
simple-bytes = refl

kind_3 : has_bad_byte (id_of 3 ok none ok (ok ∷ [])) ≡ true
unfolding has_bad_byte id_of
kind_3 = refl

-- ---- over the limits: texts and keys, `|` and `/` in a path, fields, constraints, attributes

text-256 : over_in (ns_of 0 (replicate 256 97) ok) ≡ true
unfolding refused
text-256 = refl

key-127 : over_in (ee_of 0 (replicate 127 97)) ≡ true
unfolding refused
key-127 = refl

bars-8 : long_path (replicate 8 124) ≡ true
unfolding long_path count_of passing only_if
bars-8 = refl

slashes-17-in-a-field : counts_over (id_of 0 ok none ok (ok ∷ replicate 17 47 ∷ [])) ≡ true
unfolding refused
slashes-17-in-a-field = refl

fields-0 : counts_over (id_of 0 ok none ok []) ≡ true
unfolding refused
fields-0 = refl

constraints-9 : counts_over (es_of ok ok (replicate 9 0) []) ≡ true
unfolding refused
constraints-9 = refl

attributes-33 : counts_over (es_of ok ok [] (replicate 33 (with ok ok))) ≡ true
unfolding refused
attributes-33 = refl
