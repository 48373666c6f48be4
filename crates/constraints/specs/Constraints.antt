-- The records of one constraint as bytes, the parts of its ID by their places in them, the constraints that bear a name, and how many there are.
-- Assumes nothing.
use Rattle.std.specs.Prelude.{ℕ, ◌<◌, ◌≤◌, min, length, ◌≡◌, Bool, false, ◌&&◌, not}
use mathlib.Core.List.{List, flatten}
use Rattle.std.specs.declared.option.Option as code
use Rattle.std.specs.declared.option.Option.TheVariants.{Some, None}
use Rattle.std.proofs.Math.Option.{Option, none, some}
use Rattle.lists.specs.Lists.{passing}
use Rattle.texts.specs.Texts.{Text, same}
use Rattle.paths.specs.Reading.{on_some}
use Rattle.tree.specs.Events.{Constraint}
use Rattle.tree.specs.Judge.{is_keyref}
use Rattle.records.specs.Readers.{Bytes}
use Rattle.records.specs.Records.{IdRecord, ID, NS, ES, EE, FI, Parsed, unparsed, parsed, parse}
use Rattle.record_places.specs.declared.Place.{Place}
use Rattle.record_places.specs.Places.{text_in, Within, texts_at}
use Rattle.session_spec.specs.Definitions.{Definitions, frame, read_definitions, constraint_at}
use Rattle.bindings.specs.Bindings.{frames_in}
use Rattle.bindings.specs.Own.{is_id}
use Rattle.output_stores.specs.Stores.{in_mask}
use Rattle.record_walk.specs.declared.Texts.{Texts}
use Rattle.constraints.specs.declared.Parts.{Parts}

-- ---- the records of one constraint

-- records one behind the other
abbrev pub joined : List Bytes → Bytes
joined fs = flatten fs

-- the ID that a record is
unfoldable pub id_of : Parsed → Option IdRecord
id_of (unparsed c) = none
id_of (parsed (ID i)) = some i
id_of (parsed (NS b)) = none
id_of (parsed (ES e)) = none
id_of (parsed (EE e)) = none
id_of (parsed FI) = none

-- the ID at the front of bytes
unfoldable pub id_at : Bytes → Option IdRecord
id_at own = on_some (frame own) (λ q. id_of (parse q.0))

-- ---- its parts

-- the refer that a place says, if there is one
abbrev pub refer_of : Bytes → code.Option Place → Option Text
refer_of own None = none
refer_of own (Some p) = some (text_in own p)

-- the texts that a walk has before it
abbrev pub texts_left : Texts → List Text
texts_left t = texts_at t.rec.now t.at t.left

-- they are those of the ID i
pub record PartsAre (own : Bytes) (r : Parts) (i : IdRecord) : Type 0 where
  pub kind : r.kind ≡ i.kind
  pub name : text_in own r.name ≡ i.name
  pub refer : refer_of own r.refer ≡ i.refer
  pub selector : text_in own r.selector ≡ i.selector
  pub count : r.count ≡ length i.fields
  pub fields : texts_at own r.first r.count ≡ i.fields

-- the place of a name that is referred to, where there is one, is within the bytes
abbrev pub ReferWithin : Bytes → code.Option Place → Type 0
ReferWithin own None = Unit {0}
ReferWithin own (Some p) = Within own p

-- every place is within the bytes
pub record PartsWithin (own : Bytes) (r : Parts) : Type 0 where
  pub name : Within own r.name
  pub refer : ReferWithin own r.refer
  pub selector : Within own r.selector
  pub first : r.first ≤ length own

-- those of the ID at the front, where there is one
pub record PartsOf (own : Bytes) (r : Parts) : Type 0 where
  pub says : (i : IdRecord) → id_at own ≡ some i → PartsAre own r i
  pub within : PartsWithin own r

-- ---- sets of constraints

-- the set `r` has those constraints of the store that pass the test, and no other number
pub record SetOf (used : Bytes) (test : Constraint → Bool) (r : ℕ) : Type 0 where
  pub bears : (d : Definitions) → read_definitions used ≡ some d → (c : ℕ) → c < length d.ids → in_mask r c ≡ test (constraint_at d c)
  pub past : (d : Definitions) → read_definitions used ≡ some d → (c : ℕ) → length d.ids ≤ c → in_mask r c ≡ false

-- those with the name t
abbrev pub NamedBy : Bytes → Text → ℕ → Type 0
NamedBy used t r = SetOf used (λ c. same t c.name) r

-- those that answer a keyref whose refer is t: unique or key, with the name t
abbrev pub AnsweredBy : Bytes → Text → ℕ → Type 0
AnsweredBy used t r = SetOf used (λ c. not (is_keyref c.kind) && same t c.name) r

-- ---- their number

-- the records with the mark of an ID
unfoldable pub ids_in : Bytes → List Bytes
ids_in used = passing is_id (frames_in used)

-- how many these are, as far as a number of four bytes goes
unfoldable pub count_in : Bytes → ℕ
count_in used = min (length (ids_in used)) 4294967295
