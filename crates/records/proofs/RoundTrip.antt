-- A record's bytes say the record: `parse (encode r)` is `r`, for every record that no refusal because of the input meets. Each part of a body is
-- read back by its own law, and what the body's length states is the body's length.
-- Assumes nothing.
use Prim.Native.Nat.{ℕ, ◌≤◌}
use borrow.Author.Tests.{le-ltb, eq-eqb}
use lib.Dec.{eqb}
use lib.ListN.{length}
use mathlib.Core.Path.{◌≡◌, refl}
use mathlib.Core.Bool.{Bool, true, false}
use mathlib.Core.List.{List, [], ◌∷◌, ◌++◌, flat_map, append_assoc, append-nil}
use mathlib.Core.Option.{Option, none, some}
use native.Mathlib.Nat.{mod-add-div}
use Rattle.texts.specs.Texts.{Text}
use Rattle.numbers.specs.Numbers.{two_bytes}
use Rattle.paths.specs.Names.{Attribute}
use Rattle.records.specs.Readers.{Bytes, on_read, ◌>>=◌, pass, read_byte, times, counted, put_text, put_texts}
use Rattle.records.specs.Refusals.{first_of}
use Rattle.records.specs.Records.{IdRecord, NsRecord, EsRecord, EeRecord, Rec, ID, NS, ES, EE, FI, read_refer, read_attribute, read_id, read_ns, read_es, read_ee, Mark, mark_id, mark_ns, mark_es, mark_ee, mark_fi, read_body, mark_of, refer_texts, body_rows, parsed, judged, exactly, body, framed, marked, parse, put_attribute, put_body, put_mark, encode}
use Rattle.records.proofs.Readers.{text-put, times-put, texts-put}

-- ---- the parts of a body

numbers-put : (is : List ℕ) (rest : Bytes) → times (length is) read_byte (is ++ rest) ≡ some (is, rest)
unfolding times ◌>>=◌ on_read pass read_byte
numbers-put [] rest = refl
numbers-put (i ∷ is) rest = rw (numbers-put is rest)

attribute-put : (a : Attribute) (rest : Bytes) → read_attribute (put_attribute a ++ rest) ≡ some (a, rest)
unfolding read_attribute put_attribute ◌>>=◌ on_read pass
attribute-put a rest = rw (append_assoc (put_text a.name) (put_text a.key) rest, text-put a.name, text-put a.key rest)

attributes-put : (l : List Attribute) (rest : Bytes) → times (length l) read_attribute (flat_map put_attribute l ++ rest) ≡ some (l, rest)
attributes-put l rest = times-put read_attribute put_attribute attribute-put l rest

-- a text follows the refer byte
unfoldable pub refer_follows : Option Text → Bool
refer_follows none = false
refer_follows (some t) = true

refer-put : (o : Option Text) (rest : Bytes) → read_refer (refer_follows o) (put_texts (refer_texts o) ++ rest) ≡ some (o, rest)
unfolding refer_follows read_refer put_texts refer_texts flat_map pass ◌>>=◌ on_read
refer-put none rest = refl
refer-put (some t) rest = rw (append-nil (put_text t), text-put t rest)

-- ---- the bodies

-- the refer byte is 1 exactly where a text follows
abbrev pub ReferFits : IdRecord → Type 0
ReferFits r = eqb r.flag 1 ≡ refer_follows r.refer

id-put : (r : IdRecord) → ReferFits r → read_id (put_body (ID r)) ≡ some (ID r, [])
unfolding read_id put_body counted ◌>>=◌ on_read pass read_byte
id-put r f =
    rw (
      text-put r.name,
      f,
      refer-put r.refer (put_text r.selector ++ (length r.fields ∷ put_texts r.fields)),
      text-put r.selector,
      ← (append-nil (put_texts r.fields)),
      texts-put r.fields [],
    )

ns-put : (r : NsRecord) → read_ns (put_body (NS r)) ≡ some (NS r, [])
unfolding read_ns put_body ◌>>=◌ on_read pass read_byte
ns-put r = rw (text-put r.prefix, ← (append-nil (put_text r.uri)), text-put r.uri [])

es-put : (r : EsRecord) → read_es (put_body (ES r)) ≡ some (ES r, [])
unfolding read_es put_body counted ◌>>=◌ on_read pass read_byte
es-put r =
    rw (
      text-put r.space,
      text-put r.name,
      numbers-put r.numbers,
      ← (append-nil (flat_map put_attribute r.attributes)),
      attributes-put r.attributes [],
    )

ee-put : (r : EeRecord) → read_ee (put_body (EE r)) ≡ some (EE r, [])
unfolding read_ee put_body ◌>>=◌ on_read pass read_byte
ee-put r = rw (← (append-nil (put_text r.key)), text-put r.key [])

-- ---- whole records

module _ (r : Rec) (clear : first_of (body_rows r) ≡ none) (short : length (put_body r) ≤ 16384) where
  framed-put : (m : Mark) → read_body m (put_body r) ≡ some (r, []) → framed m (two_bytes (length (put_body r)) ++ put_body r) ≡ parsed r
  unfolding framed two_bytes body exactly judged
  framed-put m e =
      rw (mod-add-div (length (put_body r)) 256, le-ltb 16384 (length (put_body r)) short, eq-eqb (length (put_body r)) (length (put_body r)) refl, e, clear)

-- only an ID has parts that may not fit together
abbrev pub Fits : Rec → Type 0
Fits (ID r) = ReferFits r
Fits (NS r) = Unit {0}
Fits (ES r) = Unit {0}
Fits (EE r) = Unit {0}
Fits FI = Unit {0}

pub encoded : (r : Rec) → Fits r → first_of (body_rows r) ≡ none → length (put_body r) ≤ 16384 → parse (encode r) ≡ parsed r
unfolding parse encode put_mark marked mark_of read_body pass
encoded (ID r) f c s = framed-put (ID r) c s mark_id (id-put r f)
encoded (NS r) f c s = framed-put (NS r) c s mark_ns (ns-put r)
encoded (ES r) f c s = framed-put (ES r) c s mark_es (es-put r)
encoded (EE r) f c s = framed-put (EE r) c s mark_ee (ee-put r)
encoded FI f c s = framed-put FI c s mark_fi (unfold put_body in refl)
