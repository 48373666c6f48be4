-- Computed: each of the five records from its bytes and back, every refusal because of the input, which of them comes first, and both sides of each limit.
-- Assumes nothing.
use Prim.Native.String.{String}
use Rattle.std.specs.Prelude.{ℕ, length, replicate, ◌≡◌, refl}
use mathlib.Core.List.{List, [], ◌∷◌, ◌++◌, map, flat_map}
use Rattle.std.proofs.Math.Option.{Option, none, some}
use Rattle.lists.specs.Lists.{all, any, only_if, passing}
use Rattle.texts.specs.Texts.{Text, same}
use Rattle.numbers.specs.Numbers.{two_bytes}
use Rattle.utf8.specs.Utf8
use Rattle.utf8.specs.Utf8.{scalar, size_of, code_of, decode_from, decode, utf8}
use Rattle.paths.specs.Names.{Attribute}
use Rattle.paths.specs.Examples.{codes}
use Rattle.records.specs.Readers.{Bytes, on_read, ◌>>=◌, pass, read_byte, read_two, read_four, cons_on, read_bytes, read_text, times, counted, on_rest, read_all, reads, on_behind, record_at, put_text, put_texts}
use Rattle.records.specs.Refusals.{Refusal, unfit, unknown_mark, too_long, misframed, not_utf8, bad_byte, over_limit, out_of_place, too_many_events, undefined, unbalanced, bound_twice, definitions_full, too_deep, too_many_scopes, too_many_selections, tuples_full, reports_full, refusal_number, first_of}
use Rattle.records.specs.Records.{Rec, ID, NS, ES, EE, FI, read_refer, read_attribute, read_id, read_ns, read_es, read_ee, read_body, mark_of, refer_texts, attribute_name, attribute_key, texts_of, keys_in, has_bad_byte, count_of, long_path, counts_over, over_in, body_rows, Parsed, unparsed, parsed, judged, exactly, body, framed, marked, parse, put_attribute, put_body, put_mark, encode}

-- ---- how records are written below

flag_of : Option Text → ℕ
flag_of none = 0
flag_of (some t) = 1

-- a constraint: kind, name, refer, selector, fields
unfoldable pub id_of : ℕ → Text → Option Text → Text → List Text → Rec
unfolding flag_of
id_of k n r s fs = ID (record { kind = k; name = n; flag = flag_of r; refer = r; selector = s; fields = fs })

-- a binding: what for, prefix, URI
unfoldable pub ns_of : ℕ → Text → Text → Rec
ns_of t p u = NS (record { target = t; prefix = p; uri = u })

-- an element's start: namespace, qualified name, constraint numbers, attributes
unfoldable pub es_of : Text → Text → List ℕ → List Attribute → Rec
es_of s n is xs = ES (record { space = s; name = n; numbers = is; attributes = xs })

-- an attribute: qualified name, key
unfoldable pub with : Text → Text → Attribute
with n k = record { name = n; key = k }

-- an element's end: simple byte, key
unfoldable pub ee_of : ℕ → Text → Rec
ee_of b k = EE (record { simple = b; key = k })

-- the bytes of a record
unfoldable pub bytes_of : Rec → Bytes
unfolding two_bytes flat_map put_text put_texts refer_texts put_attribute put_body put_mark encode
bytes_of r = encode r

-- the bytes of a record with this mark and this body
unfoldable pub framed_as : String → Bytes → Bytes
unfolding codes two_bytes
framed_as m xs = codes m ++ (two_bytes (length xs) ++ xs)

-- what bytes say
unfoldable pub said : Bytes → Parsed
unfolding only_if passing same scalar Utf8.encode size_of code_of decode_from decode utf8 flat_map on_read ◌>>=◌ pass read_byte read_two cons_on read_bytes read_text times counted first_of read_refer read_attribute read_id read_ns read_es read_ee read_body mark_of refer_texts attribute_name attribute_key texts_of keys_in has_bad_byte count_of long_path counts_over over_in body_rows judged exactly body framed marked parse
said xs = parse xs

-- 0 where they are a record, else the refusal's number
number_of : Parsed → ℕ
unfolding refusal_number
number_of (parsed r) = 0
number_of (unparsed c) = refusal_number c

-- bytes, and the number that they are answered by
abbrev Row : Type 0
Row = Bytes × ℕ

answers : List Row → List ℕ
unfolding said number_of bytes_of framed_as id_of ns_of es_of with ee_of
answers [] = []
answers (r ∷ rs) = number_of (said r.0) ∷ answers rs

expected : List Row → List ℕ
expected [] = []
expected (r ∷ rs) = r.1 ∷ expected rs

-- ---- the five records, byte for byte as document 01 has them

abbrev id_bytes : Bytes
id_bytes = 73 ∷ 68 ∷ 22 ∷ 0 ∷ 2 ∷ 1 ∷ 0 ∷ 110 ∷ 1 ∷ 2 ∷ 0 ∷ 107 ∷ 49 ∷ 1 ∷ 0 ∷ 114 ∷ 2 ∷ 3 ∷ 0 ∷ 64 ∷ 105 ∷ 100 ∷ 2 ∷ 0 ∷ 97 ∷ 98 ∷ []

abbrev ns_bytes : Bytes
ns_bytes = 78 ∷ 83 ∷ 8 ∷ 0 ∷ 3 ∷ 1 ∷ 0 ∷ 112 ∷ 2 ∷ 0 ∷ 117 ∷ 118 ∷ []

abbrev es_bytes : Bytes
es_bytes = 69 ∷ 83 ∷ 19 ∷ 0 ∷ 1 ∷ 0 ∷ 117 ∷ 3 ∷ 0 ∷ 112 ∷ 58 ∷ 114 ∷ 2 ∷ 4 ∷ 0 ∷ 1 ∷ 2 ∷ 0 ∷ 105 ∷ 100 ∷ 1 ∷ 0 ∷ 97 ∷ []

abbrev ee_bytes : Bytes
ee_bytes = 69 ∷ 69 ∷ 4 ∷ 0 ∷ 1 ∷ 1 ∷ 0 ∷ 97 ∷ []

abbrev fi_bytes : Bytes
fi_bytes = 70 ∷ 73 ∷ 0 ∷ 0 ∷ []

-- a keyref n to k1 with selector r and fields @id, ab
abbrev id_rec : Rec
id_rec = id_of 2 (codes "n") (some (codes "k1")) (codes "r") (codes "@id" ∷ codes "ab" ∷ [])

-- p is uv in field 1
abbrev ns_rec : Rec
ns_rec = ns_of 3 (codes "p") (codes "uv")

-- p:r in namespace u, constraints 4 and 0, id="a"
abbrev es_rec : Rec
es_rec = es_of (codes "u") (codes "p:r") (4 ∷ 0 ∷ []) (with (codes "id") (codes "a") ∷ [])

-- with the simple value a
abbrev ee_rec : Rec
ee_rec = ee_of 1 (codes "a")

all-read : map said (id_bytes ∷ ns_bytes ∷ es_bytes ∷ ee_bytes ∷ fi_bytes ∷ []) ≡ parsed id_rec ∷ parsed ns_rec ∷ parsed es_rec ∷ parsed ee_rec ∷ parsed FI ∷ []
unfolding said id_of ns_of es_of with ee_of codes
all-read = refl

all-written : map bytes_of (id_rec ∷ ns_rec ∷ es_rec ∷ ee_rec ∷ FI ∷ []) ≡ id_bytes ∷ ns_bytes ∷ es_bytes ∷ ee_bytes ∷ fi_bytes ∷ []
unfolding bytes_of id_of ns_of es_of with ee_of codes
all-written = refl

-- a constraint without refer
id-plain : said (framed_as "ID" (1 ∷ 0 ∷ 0 ∷ 0 ∷ 1 ∷ 0 ∷ 114 ∷ 1 ∷ 1 ∷ 0 ∷ 97 ∷ [])) ≡ parsed (id_of 1 [] none (codes "r") (codes "a" ∷ []))
unfolding said framed_as id_of codes
id-plain = refl

-- ---- 1 and 2: marks and lengths

-- 1: fewer than two bytes, or another mark, whatever is behind it; TU and RP are not handed in
abbrev no-mark-rows : List Row
no-mark-rows =
    ([], 1)
    ∷ (73 ∷ [], 1)
    ∷ (codes "ii", 1)
    ∷ (codes "id", 1)
    ∷ (framed_as "XX" ([]), 1)
    ∷ (framed_as "TU" ([]), 1)
    ∷ (framed_as "RP" ([]), 1)
    ∷ (codes "SE" ++ (1 ∷ 64 ∷ []), 1)
    ∷ (codes "DI", 1)
    ∷ []

no-mark : answers no-mark-rows ≡ expected no-mark-rows
unfolding answers expected codes
no-mark = refl

-- 2: two or three bytes that begin with a mark
abbrev cut-short-rows : List Row
cut-short-rows =
    (codes "ID", 2)
    ∷ (codes "NS", 2)
    ∷ (codes "ES", 2)
    ∷ (codes "EE", 2)
    ∷ (codes "FI", 2)
    ∷ (codes "FI" ++ (0 ∷ []), 2)
    ∷ (codes "ES" ++ (255 ∷ []), 2)
    ∷ []

cut_short : answers cut-short-rows ≡ expected cut-short-rows
unfolding answers expected codes
cut_short = refl

-- 5, first look: the stated length is over 16,384, with all bytes there, with none, and with some; 16,384 is walked
abbrev first-look-rows : List Row
first-look-rows =
    (codes "ES" ++ (1 ∷ 64 ∷ []), 5)
    ∷ (codes "FI" ++ (1 ∷ 64 ∷ 0 ∷ []), 5)
    ∷ (codes "EE" ++ (255 ∷ 255 ∷ 2 ∷ 0 ∷ 0 ∷ []), 5)
    ∷ (framed_as "FI" (replicate 16385 0), 5)
    ∷ (codes "ES" ++ (0 ∷ 64 ∷ []), 2)
    ∷ (framed_as "FI" (replicate 16384 0), 2)
    ∷ []

first-look : answers first-look-rows ≡ expected first-look-rows
unfolding answers expected codes
first-look = refl

-- 2: fewer and more bytes than stated; the parts end early; bytes are left over; FI with a body
abbrev misframed-bodies-rows : List Row
misframed-bodies-rows =
    (codes "EE" ++ (3 ∷ 0 ∷ 0 ∷ 0 ∷ []), 2)
    ∷ (codes "EE" ++ (3 ∷ 0 ∷ 0 ∷ 0 ∷ 0 ∷ 0 ∷ []), 2)
    ∷ (codes "FI" ++ (0 ∷ 0 ∷ 0 ∷ []), 2)
    ∷ (framed_as "EE" ([]), 2)
    ∷ (framed_as "EE" (0 ∷ []), 2)
    ∷ (framed_as "EE" (0 ∷ 0 ∷ []), 2)
    ∷ (framed_as "EE" (0 ∷ 1 ∷ 0 ∷ []), 2)
    ∷ (framed_as "EE" (0 ∷ 0 ∷ 0 ∷ 0 ∷ []), 2)
    ∷ (framed_as "EE" (0 ∷ 0 ∷ 1 ∷ []), 2)
    ∷ (framed_as "FI" (0 ∷ []), 2)
    ∷ (framed_as "NS" (0 ∷ 0 ∷ 0 ∷ []), 2)
    ∷ (framed_as "NS" (0 ∷ 0 ∷ 0 ∷ 0 ∷ []), 2)
    ∷ (framed_as "NS" (0 ∷ 0 ∷ 0 ∷ 0 ∷ 0 ∷ 0 ∷ []), 2)
    ∷ (framed_as "ES" (0 ∷ 0 ∷ 0 ∷ 0 ∷ []), 2)
    ∷ (framed_as "ES" (0 ∷ 0 ∷ 0 ∷ 0 ∷ 0 ∷ []), 2)
    ∷ (framed_as "ES" (0 ∷ 0 ∷ 0 ∷ 0 ∷ 1 ∷ 0 ∷ []), 2)
    ∷ (framed_as "ES" (0 ∷ 0 ∷ 0 ∷ 0 ∷ 0 ∷ 1 ∷ 0 ∷ 0 ∷ []), 2)
    ∷ (framed_as "ES" (0 ∷ 0 ∷ 0 ∷ 0 ∷ 0 ∷ 0 ∷ 0 ∷ []), 2)
    ∷ (framed_as "ID" (0 ∷ 0 ∷ 0 ∷ 0 ∷ 0 ∷ 0 ∷ []), 2)
    ∷ (framed_as "ID" (0 ∷ 0 ∷ 0 ∷ 0 ∷ 0 ∷ 0 ∷ 1 ∷ []), 2)
    ∷ (framed_as "ID" (0 ∷ 0 ∷ 0 ∷ 0 ∷ 0 ∷ 0 ∷ 1 ∷ 0 ∷ []), 2)
    ∷ (framed_as "ID" (0 ∷ 0 ∷ 0 ∷ 1 ∷ 0 ∷ 0 ∷ 0 ∷ 0 ∷ []), 2)
    ∷ (framed_as "ID" (0 ∷ 0 ∷ 0 ∷ 0 ∷ 0 ∷ 0 ∷ 1 ∷ 0 ∷ 0 ∷ 7 ∷ []), 2)
    ∷ []

misframed-bodies : answers misframed-bodies-rows ≡ expected misframed-bodies-rows
unfolding answers expected codes
misframed-bodies = refl

-- every count is walked as it stands: 0 and 200 fields, 255 numbers and 255 attributes, then it is 5; one text too few is 2
abbrev counts-walked-rows : List Row
counts-walked-rows =
    (framed_as "ID" (0 ∷ 0 ∷ 0 ∷ 0 ∷ 0 ∷ 0 ∷ 0 ∷ []), 5)
    ∷ (framed_as "ID" (0 ∷ 0 ∷ 0 ∷ 0 ∷ 0 ∷ 0 ∷ 200 ∷ replicate 400 0), 5)
    ∷ (framed_as "ID" (0 ∷ 0 ∷ 0 ∷ 0 ∷ 0 ∷ 0 ∷ 200 ∷ replicate 398 0), 2)
    ∷ (framed_as "ES" (0 ∷ 0 ∷ 0 ∷ 0 ∷ 255 ∷ (replicate 255 0 ++ (0 ∷ []))), 5)
    ∷ (framed_as "ES" (0 ∷ 0 ∷ 0 ∷ 0 ∷ 0 ∷ 255 ∷ replicate 1020 0), 5)
    ∷ (framed_as "ES" (0 ∷ 0 ∷ 0 ∷ 0 ∷ 0 ∷ 255 ∷ replicate 1019 0), 2)
    ∷ []

counts-walked : answers counts-walked-rows ≡ expected counts-walked-rows
unfolding answers expected codes
counts-walked = refl

-- an unknown refer byte is walked as 0 and then 4; so where a text follows all the same, the parts end early: 2
abbrev unknown-refer-rows : List Row
unknown-refer-rows =
    (framed_as "ID" (1 ∷ 0 ∷ 0 ∷ 7 ∷ 1 ∷ 0 ∷ 114 ∷ 1 ∷ 1 ∷ 0 ∷ 97 ∷ []), 4)
    ∷ (framed_as "ID" (1 ∷ 0 ∷ 0 ∷ 255 ∷ 0 ∷ 0 ∷ 0 ∷ []), 4)
    ∷ (framed_as "ID" (1 ∷ 0 ∷ 0 ∷ 2 ∷ 1 ∷ 0 ∷ 107 ∷ 1 ∷ 0 ∷ 114 ∷ 1 ∷ 1 ∷ 0 ∷ 97 ∷ []), 2)
    ∷ (framed_as "ID" (1 ∷ 0 ∷ 0 ∷ 1 ∷ 1 ∷ 0 ∷ 107 ∷ 1 ∷ 0 ∷ 114 ∷ 1 ∷ 1 ∷ 0 ∷ 97 ∷ []), 0)
    ∷ []

unknown-refer : answers unknown-refer-rows ≡ expected unknown-refer-rows
unfolding answers expected codes
unknown-refer = refl

-- ---- 3 and 4

-- no UTF-8
abbrev bad : Text
bad = 255 ∷ []

abbrev ok : Text
ok = 97 ∷ []

-- 3: each place where a text stands
abbrev each-text-rows : List Row
each-text-rows =
    (bytes_of (id_of 0 bad none ok (ok ∷ [])), 3)
    ∷ (bytes_of (id_of 2 ok (some bad) ok (ok ∷ [])), 3)
    ∷ (bytes_of (id_of 0 ok none bad (ok ∷ [])), 3)
    ∷ (bytes_of (id_of 0 ok none ok (bad ∷ [])), 3)
    ∷ (bytes_of (id_of 0 ok none ok (ok ∷ ok ∷ ok ∷ bad ∷ [])), 3)
    ∷ (bytes_of (ns_of 0 bad ok), 3)
    ∷ (bytes_of (ns_of 0 ok bad), 3)
    ∷ (bytes_of (es_of bad ok [] []), 3)
    ∷ (bytes_of (es_of ok bad [] []), 3)
    ∷ (bytes_of (es_of ok ok [] (with bad ok ∷ [])), 3)
    ∷ (bytes_of (es_of ok ok [] (with ok bad ∷ [])), 3)
    ∷ (bytes_of (es_of ok ok [] (with ok ok ∷ with ok bad ∷ [])), 3)
    ∷ (bytes_of (ee_of 0 bad), 3)
    ∷ (bytes_of (ee_of 1 bad), 3)
    ∷ []

each-text : answers each-text-rows ≡ expected each-text-rows
unfolding answers expected codes
each-text = refl

-- 3: an overlong form, a surrogate, above U+10FFFF, cut off; and characters of two, three and four bytes
abbrev each-form-rows : List Row
each-form-rows =
    (bytes_of (ee_of 0 (192 ∷ 128 ∷ [])), 3)
    ∷ (bytes_of (ee_of 0 (237 ∷ 160 ∷ 128 ∷ [])), 3)
    ∷ (bytes_of (ee_of 0 (244 ∷ 144 ∷ 128 ∷ 128 ∷ [])), 3)
    ∷ (bytes_of (ee_of 0 (97 ∷ 195 ∷ [])), 3)
    ∷ (bytes_of (ee_of 0 (195 ∷ 169 ∷ 226 ∷ 130 ∷ 172 ∷ 244 ∷ 143 ∷ 191 ∷ 191 ∷ [])), 0)
    ∷ []

each-form : answers each-form-rows ≡ expected each-form-rows
unfolding answers expected codes
each-form = refl

-- 4: kind 3, refer 2, simple 3, NS 6; and the last value of each that is taken
abbrev each-byte-rows : List Row
each-byte-rows =
    (bytes_of (id_of 3 ok none ok (ok ∷ [])), 4)
    ∷ (framed_as "ID" (0 ∷ 0 ∷ 0 ∷ 2 ∷ 0 ∷ 0 ∷ 1 ∷ 0 ∷ 0 ∷ []), 4)
    ∷ (bytes_of (ee_of 3 ok), 4)
    ∷ (bytes_of (ns_of 6 ok ok), 4)
    ∷ (bytes_of (id_of 2 ok none ok (ok ∷ [])), 0)
    ∷ (bytes_of (id_of 2 ok (some ok) ok (ok ∷ [])), 0)
    ∷ (bytes_of (ee_of 1 ok), 0)
    ∷ (bytes_of (ee_of 2 ok), 0)
    ∷ (bytes_of (ns_of 5 ok ok), 0)
    ∷ (bytes_of (id_of 0 ok (some ok) ok (ok ∷ [])), 0)
    ∷ (bytes_of (ns_of 0 ok ok), 0)
    ∷ []

each-byte : answers each-byte-rows ≡ expected each-byte-rows
unfolding answers expected codes
each-byte = refl

-- where two hold: 2 before 3, 3 before 4 and 5, 4 before the limits of 5
abbrev in-order-rows : List Row
in-order-rows =
    (codes "EE" ++ (5 ∷ 0 ∷ 0 ∷ 1 ∷ 0 ∷ 255 ∷ []), 2)
    ∷ (bytes_of (ns_of 9 bad ok), 3)
    ∷ (bytes_of (id_of 3 ok none ok (bad ∷ [])), 3)
    ∷ (bytes_of (ee_of 2 bad), 3)
    ∷ (bytes_of (ee_of 3 bad), 3)
    ∷ (bytes_of (id_of 0 bad none ok []), 3)
    ∷ (bytes_of (ee_of 0 (replicate 127 255)), 3)
    ∷ (bytes_of (ns_of 9 (replicate 300 97) ok), 4)
    ∷ (bytes_of (id_of 3 ok none ok []), 4)
    ∷ (bytes_of (ee_of 3 (replicate 127 97)), 4)
    ∷ (bytes_of (ee_of 2 (replicate 127 97)), 5)
    ∷ []

in-order : answers in-order-rows ≡ expected in-order-rows
unfolding answers expected codes
in-order = refl

-- ---- 5: the limits

-- texts: 255 bytes are taken, 256 are not
abbrev text-limit-rows : List Row
text-limit-rows =
    (bytes_of (id_of 0 (replicate 255 97) none ok (ok ∷ [])), 0)
    ∷ (bytes_of (id_of 0 (replicate 256 97) none ok (ok ∷ [])), 5)
    ∷ (bytes_of (id_of 2 ok (some (replicate 255 97)) ok (ok ∷ [])), 0)
    ∷ (bytes_of (id_of 2 ok (some (replicate 256 97)) ok (ok ∷ [])), 5)
    ∷ (bytes_of (id_of 0 ok none (replicate 255 97) (ok ∷ [])), 0)
    ∷ (bytes_of (id_of 0 ok none (replicate 256 97) (ok ∷ [])), 5)
    ∷ (bytes_of (id_of 0 ok none ok (ok ∷ replicate 255 97 ∷ [])), 0)
    ∷ (bytes_of (id_of 0 ok none ok (ok ∷ replicate 256 97 ∷ [])), 5)
    ∷ (bytes_of (ns_of 0 (replicate 255 97) ok), 0)
    ∷ (bytes_of (ns_of 0 (replicate 256 97) ok), 5)
    ∷ (bytes_of (ns_of 0 ok (replicate 255 97)), 0)
    ∷ (bytes_of (ns_of 0 ok (replicate 256 97)), 5)
    ∷ (bytes_of (es_of (replicate 255 97) ok [] []), 0)
    ∷ (bytes_of (es_of (replicate 256 97) ok [] []), 5)
    ∷ (bytes_of (es_of ok (replicate 255 97) [] []), 0)
    ∷ (bytes_of (es_of ok (replicate 256 97) [] []), 5)
    ∷ (bytes_of (es_of ok ok [] (with (replicate 255 97) ok ∷ [])), 0)
    ∷ (bytes_of (es_of ok ok [] (with (replicate 256 97) ok ∷ [])), 5)
    ∷ []

text-limit : answers text-limit-rows ≡ expected text-limit-rows
unfolding answers expected codes
text-limit = refl

-- keys: 126 bytes are taken, 127 are not
abbrev key-limit-rows : List Row
key-limit-rows =
    (bytes_of (es_of ok ok [] (with ok ok ∷ with ok (replicate 126 97) ∷ [])), 0)
    ∷ (bytes_of (es_of ok ok [] (with ok ok ∷ with ok (replicate 127 97) ∷ [])), 5)
    ∷ (bytes_of (ee_of 0 (replicate 126 97)), 0)
    ∷ (bytes_of (ee_of 0 (replicate 127 97)), 5)
    ∷ []

key-limit : answers key-limit-rows ≡ expected key-limit-rows
unfolding answers expected codes
key-limit = refl

-- 1 to 4 fields; 8 constraints and 32 attributes
abbrev count-limit-rows : List Row
count-limit-rows =
    (bytes_of (id_of 0 ok none ok (replicate 0 ok)), 5)
    ∷ (bytes_of (id_of 0 ok none ok (replicate 1 ok)), 0)
    ∷ (bytes_of (id_of 0 ok none ok (replicate 4 ok)), 0)
    ∷ (bytes_of (id_of 0 ok none ok (replicate 5 ok)), 5)
    ∷ (bytes_of (es_of ok ok (replicate 0 0) []), 0)
    ∷ (bytes_of (es_of ok ok (replicate 8 0) []), 0)
    ∷ (bytes_of (es_of ok ok (replicate 9 0) []), 5)
    ∷ (bytes_of (es_of ok ok [] (replicate 32 (with ok ok))), 0)
    ∷ (bytes_of (es_of ok ok [] (replicate 33 (with ok ok))), 5)
    ∷ []

count-limit : answers count-limit-rows ≡ expected count-limit-rows
unfolding answers expected codes
count-limit = refl

-- seven `|` and sixteen `/` in a path are taken, eight and seventeen are not; each path by itself, and `.//` has two
abbrev path-limit-rows : List Row
path-limit-rows =
    (bytes_of (id_of 0 ok none (replicate 7 124) (ok ∷ [])), 0)
    ∷ (bytes_of (id_of 0 ok none (replicate 8 124) (ok ∷ [])), 5)
    ∷ (bytes_of (id_of 0 ok none ok (ok ∷ replicate 7 124 ∷ [])), 0)
    ∷ (bytes_of (id_of 0 ok none ok (ok ∷ replicate 8 124 ∷ [])), 5)
    ∷ (bytes_of (id_of 0 ok none (replicate 16 47) (ok ∷ [])), 0)
    ∷ (bytes_of (id_of 0 ok none (replicate 17 47) (ok ∷ [])), 5)
    ∷ (bytes_of (id_of 0 ok none ok (replicate 16 47 ∷ ok ∷ [])), 0)
    ∷ (bytes_of (id_of 0 ok none ok (replicate 17 47 ∷ ok ∷ [])), 5)
    ∷ (bytes_of (id_of 0 ok none (replicate 7 124 ++ replicate 16 47) ((replicate 7 124 ++ replicate 16 47) ∷ [])), 0)
    ∷ (bytes_of (id_of 0 ok none (codes ".//a/" ++ replicate 13 47) (ok ∷ [])), 0)
    ∷ (bytes_of (id_of 0 ok none (codes ".//a/" ++ replicate 14 47) (ok ∷ [])), 5)
    ∷ (bytes_of (id_of 0 (replicate 17 47) (some (replicate 8 124)) ok (ok ∷ [])), 0)
    ∷ []

path-limit : answers path-limit-rows ≡ expected path-limit-rows
unfolding answers expected codes
path-limit = refl

-- empty texts are taken everywhere
abbrev empty-texts-rows : List Row
empty-texts-rows =
    (bytes_of (id_of 0 [] none [] ([] ∷ [])), 0)
    ∷ (bytes_of (id_of 2 [] (some []) [] ([] ∷ [] ∷ [])), 0)
    ∷ (bytes_of (ns_of 0 [] []), 0)
    ∷ (bytes_of (es_of [] [] [] (with [] [] ∷ [])), 0)
    ∷ (bytes_of (ee_of 1 []), 0)
    ∷ []

empty-texts : answers empty-texts-rows ≡ expected empty-texts-rows
unfolding answers expected codes
empty-texts = refl

-- ---- readers

two-bytes : read_two (1 ∷ 2 ∷ 9 ∷ []) ≡ some (513, 9 ∷ [])
unfolding on_read ◌>>=◌ pass read_byte read_two
two-bytes = refl

four-bytes : read_four (1 ∷ 2 ∷ 3 ∷ 4 ∷ []) ≡ some (67305985, [])
unfolding on_read ◌>>=◌ pass read_byte read_two read_four
four-bytes = refl

-- texts one behind another: `ab`, one that is empty, `c`
abbrev three : Bytes
three = 2 ∷ 0 ∷ 97 ∷ 98 ∷ 0 ∷ 0 ∷ 1 ∷ 0 ∷ 99 ∷ []

-- all of them; and none where the last one is cut off
all-texts : reads read_text three ≡ some ((97 ∷ 98 ∷ []) ∷ [] ∷ (99 ∷ []) ∷ [])
unfolding on_read ◌>>=◌ pass read_byte read_two cons_on read_bytes read_text on_rest read_all reads
all-texts = refl

no-texts : reads read_text (three ++ (2 ∷ 0 ∷ 97 ∷ [])) ≡ none
unfolding on_read ◌>>=◌ pass read_byte read_two cons_on read_bytes read_text on_rest read_all reads
no-texts = refl

-- the one with a number, from 0; the rest need not read
nth-text : map (λ (n : ℕ). record_at n read_text (three ++ (7 ∷ []))) (0 ∷ 1 ∷ 2 ∷ 3 ∷ 4 ∷ []) ≡ some (97 ∷ 98 ∷ []) ∷ some [] ∷ some (99 ∷ []) ∷ none ∷ none ∷ []
unfolding on_read ◌>>=◌ pass read_byte read_two cons_on read_bytes read_text on_behind record_at
nth-text = refl

-- ---- the number of every refusal: because of the input, in the order of the tests; because of the session, in theirs

each_number : map refusal_number (unfit ∷ unknown_mark ∷ too_long ∷ misframed ∷ not_utf8 ∷ bad_byte ∷ over_limit ∷ [])
    ++ map refusal_number (out_of_place ∷ too_many_events ∷ undefined ∷ unbalanced ∷ bound_twice ∷ definitions_full ∷ too_deep ∷ too_many_scopes ∷ too_many_selections ∷ tuples_full ∷ reports_full ∷ [])
    ≡ (10 ∷ 1 ∷ 5 ∷ 2 ∷ 3 ∷ 4 ∷ 5 ∷ []) ++ (11 ∷ 19 ∷ 12 ∷ 13 ∷ 17 ∷ 18 ∷ 14 ∷ 20 ∷ 21 ∷ 15 ∷ 16 ∷ [])
unfolding refusal_number
each_number = refl
