-- The five records: what bytes say, the refusals because of the input in document 01's order, and the bytes of a record.
-- Assumes nothing.
use Rattle.std.specs.Prelude.{ℕ, ◌+◌, ◌*◌, eqb, ltb, length, Bool, true, false, cond, ◌&&◌, ◌||◌, not}
use mathlib.Core.List.{List, [], ◌∷◌, ◌++◌, map, flat_map}
use Rattle.std.proofs.Math.Option.{Option, none, some}
use Rattle.lists.specs.Lists.{any, passing}
use Rattle.texts.specs.Texts.{Text}
use Rattle.numbers.specs.Numbers.{two_bytes}
use Rattle.utf8.specs.Utf8.{utf8}
use Rattle.paths.specs.Names.{Attribute}
use Rattle.records.specs.Readers.{Bytes, Reader, ◌>>=◌, pass, read_byte, read_text, counted, put_text, put_texts}
use Rattle.records.specs.Refusals.{Refusal, unknown_mark, too_long, misframed, not_utf8, bad_byte, over_limit, Row, first_of}

-- ID, a constraint. `flag` is the refer byte; a text follows where it is 1.
pub record IdRecord : Type 0 where
  pub kind : ℕ
  pub name : Text
  pub flag : ℕ
  pub refer : Option Text
  pub selector : Text
  pub fields : List Text

-- NS, a prefix binding. `target` is 0 schema-wide, 1 the selector of the latest ID, 2 + i field i of it.
pub record NsRecord : Type 0 where
  pub target : ℕ
  pub prefix : Text
  pub uri : Text

-- ES, element start.
pub record EsRecord : Type 0 where
  pub space : Text
  pub name : Text
  pub numbers : List ℕ
  pub attributes : List Attribute

-- EE, element end.
pub record EeRecord : Type 0 where
  pub simple : ℕ
  pub key : Text

-- FI, finish, has an empty body.
pub data Rec : Type 0 where
  ID : IdRecord → Rec
  NS : NsRecord → Rec
  ES : EsRecord → Rec
  EE : EeRecord → Rec
  FI : Rec

-- ---- the walk of a body, every count byte as it stands

-- a refer byte other than 1 is walked as 0
unfoldable pub read_refer : (follows : Bool) → Reader (Option Text)
read_refer true = read_text >>= (λ t. pass (some t))
read_refer false = pass none

unfoldable pub read_attribute : Reader Attribute
read_attribute = do
  n ← read_text
  k ← read_text
  pass (record { name = n; key = k })

unfoldable pub read_id : Reader Rec
read_id = do
  k ← read_byte
  n ← read_text
  f ← read_byte
  r ← read_refer (eqb f 1)
  s ← read_text
  fs ← counted read_text
  pass (ID (record { kind = k; name = n; flag = f; refer = r; selector = s; fields = fs }))

unfoldable pub read_ns : Reader Rec
read_ns = do
  t ← read_byte
  p ← read_text
  u ← read_text
  pass (NS (record { target = t; prefix = p; uri = u }))

unfoldable pub read_es : Reader Rec
read_es = do
  s ← read_text
  n ← read_text
  is ← counted read_byte
  xs ← counted read_attribute
  pass (ES (record { space = s; name = n; numbers = is; attributes = xs }))

unfoldable pub read_ee : Reader Rec
read_ee = do
  b ← read_byte
  k ← read_text
  pass (EE (record { simple = b; key = k }))

-- ---- marks

pub data Mark : Type 0 where
  mark_id mark_ns mark_es mark_ee mark_fi : Mark

unfoldable pub read_body : Mark → Reader Rec
read_body mark_id = read_id
read_body mark_ns = read_ns
read_body mark_es = read_es
read_body mark_ee = read_ee
read_body mark_fi = pass FI

-- two ASCII letters
unfoldable pub mark_of : ℕ → ℕ → Option Mark
mark_of a b =
    cond (eqb a 73 && eqb b 68) (some mark_id)
    (cond (eqb a 78 && eqb b 83) (some mark_ns)
    (cond (eqb a 69 && eqb b 83) (some mark_es)
    (cond (eqb a 69 && eqb b 69) (some mark_ee)
    (cond (eqb a 70 && eqb b 73) (some mark_fi) none))))

-- ---- 3, 4 and 5 of a walked record

unfoldable pub refer_texts : Option Text → List Text
refer_texts none = []
refer_texts (some t) = t ∷ []

unfoldable pub attribute_name : Attribute → Text
attribute_name a = a.name

unfoldable pub attribute_key : Attribute → Text
attribute_key a = a.key

-- the texts that are no keys
unfoldable pub texts_of : Rec → List Text
texts_of (ID r) = r.name ∷ (refer_texts r.refer ++ (r.selector ∷ r.fields))
texts_of (NS r) = r.prefix ∷ r.uri ∷ []
texts_of (ES r) = r.space ∷ r.name ∷ map attribute_name r.attributes
texts_of (EE r) = []
texts_of FI = []

unfoldable pub keys_in : Rec → List Text
keys_in (ID r) = []
keys_in (NS r) = []
keys_in (ES r) = map attribute_key r.attributes
keys_in (EE r) = r.key ∷ []
keys_in FI = []

-- kind, refer, simple or NS byte outside its values; simple has three
unfoldable pub has_bad_byte : Rec → Bool
has_bad_byte (ID r) = ltb 2 r.kind || ltb 1 r.flag
has_bad_byte (NS r) = ltb 5 r.target
has_bad_byte (ES r) = false
has_bad_byte (EE r) = ltb 2 r.simple
has_bad_byte FI = false

unfoldable pub count_of : ℕ → Text → ℕ
count_of c t = length (passing (λ x. eqb x c) t)

-- over seven `|` or sixteen `/`
unfoldable pub long_path : Text → Bool
long_path t = ltb 7 (count_of 124 t) || ltb 16 (count_of 47 t)

-- fields 1 to 4 and their paths; 8 constraints and 32 attributes
unfoldable pub counts_over : Rec → Bool
counts_over (ID r) = (ltb 4 (length r.fields) || eqb (length r.fields) 0) || any long_path (r.selector ∷ r.fields)
counts_over (NS r) = false
counts_over (ES r) = ltb 8 (length r.numbers) || ltb 32 (length r.attributes)
counts_over (EE r) = false
counts_over FI = false

-- texts 255 bytes, keys 126
unfoldable pub over_in : Rec → Bool
over_in r = any (λ t. ltb 255 (length t)) (texts_of r) || (any (λ t. ltb 126 (length t)) (keys_in r) || counts_over r)

unfoldable pub body_rows : Rec → List Row
body_rows r =
    (any (λ t. not (utf8 t)) (texts_of r ++ keys_in r), not_utf8)
    ∷ (has_bad_byte r, bad_byte)
    ∷ (over_in r, over_limit)
    ∷ []

-- ---- THE RECORD that bytes say, or the refusal

pub data Parsed : Type 0 where
  unparsed : Refusal → Parsed
  parsed : Rec → Parsed

unfoldable pub judged : Rec → Option Refusal → Parsed
judged r none = parsed r
judged r (some c) = unparsed c

-- the body's parts end early, or leave bytes over: 2
unfoldable pub exactly : Option (Rec × Bytes) → Parsed
exactly none = unparsed misframed
exactly (some (r, [])) = judged r (first_of (body_rows r))
exactly (some (r, x ∷ xs)) = unparsed misframed

-- first look: a stated length over 16,384 is 5; then, more or fewer bytes than stated are 2
unfoldable pub body : Mark → ℕ → Bytes → Parsed
body m n xs = cond (ltb 16384 n) (unparsed too_long) (cond (eqb (length xs) n) (exactly (read_body m xs)) (unparsed misframed))

-- two or three bytes that begin with a mark are 2
unfoldable pub framed : Mark → Bytes → Parsed
framed m [] = unparsed misframed
framed m (a ∷ []) = unparsed misframed
framed m (a ∷ b ∷ xs) = body m (a + 256 * b) xs

unfoldable pub marked : Option Mark → Bytes → Parsed
marked none xs = unparsed unknown_mark
marked (some m) xs = framed m xs

-- fewer than two bytes, or another mark: 1
unfoldable pub parse : Bytes → Parsed
parse [] = unparsed unknown_mark
parse (a ∷ []) = unparsed unknown_mark
parse (a ∷ b ∷ xs) = marked (mark_of a b) xs

-- ---- the bytes of a record

unfoldable pub put_attribute : Attribute → Bytes
put_attribute a = put_text a.name ++ put_text a.key

unfoldable pub put_body : Rec → Bytes
put_body (ID r) =
    r.kind ∷ (put_text r.name ++ (r.flag ∷ (put_texts (refer_texts r.refer) ++ (put_text r.selector ++ (length r.fields ∷ put_texts r.fields)))))
put_body (NS r) = r.target ∷ (put_text r.prefix ++ put_text r.uri)
put_body (ES r) =
    put_text r.space ++ (put_text r.name ++ (length r.numbers ∷ (r.numbers ++ (length r.attributes ∷ flat_map put_attribute r.attributes))))
put_body (EE r) = r.simple ∷ put_text r.key
put_body FI = []

unfoldable pub put_mark : Rec → Bytes
put_mark (ID r) = 73 ∷ 68 ∷ []
put_mark (NS r) = 78 ∷ 83 ∷ []
put_mark (ES r) = 69 ∷ 83 ∷ []
put_mark (EE r) = 69 ∷ 69 ∷ []
put_mark FI = 70 ∷ 73 ∷ []

unfoldable pub encode : Rec → Bytes
encode r = put_mark r ++ (two_bytes (length (put_body r)) ++ put_body r)
