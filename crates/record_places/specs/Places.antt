-- What the code's places say: a text by where it stands, a list by where it starts and how many members it has, and so a record; and what reading at a place finds.
-- Assumes nothing.
use Rattle.std.specs.Prelude.{ℕ, ◌+◌, ◌≤◌, ◌<◌, eqb, leb, length, drop, get_or, ◌≡◌, false, cond, List, []}
use Rattle.std.specs.declared.option.Option as code
use Rattle.std.specs.declared.option.Option.TheVariants.{Some, None}
use Rattle.std.specs.declared.result.Result.{Result}
use Rattle.std.specs.declared.result.Result.TheVariants.{Ok, Err}
use Rattle.std.proofs.Math.Option.{Option, none, some}
use denote.Ref.{Bor}
use Rattle.lists.specs.Lists.{part}
use Rattle.texts.specs.Texts.{Text}
use Rattle.numbers.specs.Numbers.{two}
use Rattle.paths.specs.Names.{Attribute}
use Rattle.records.specs.Readers.{Bytes, Reader, read_text, up_to}
use Rattle.records.specs.Refusals as refusals
use Rattle.records.specs.Refusals.{unknown_mark, too_long, misframed, not_utf8, bad_byte, over_limit}
use Rattle.records.specs.Records.{Rec, ID, NS, ES, EE, FI, read_refer, read_attribute, Parsed, unparsed, parsed}
use Rattle.record_places.specs.declared.Place.{Place}
use Rattle.record_places.specs.declared.TextAt.{TextAt}
use Rattle.record_places.specs.declared.Id.{Id}
use Rattle.record_places.specs.declared.Ns.{Ns}
use Rattle.record_places.specs.declared.Es.{Es}
use Rattle.record_places.specs.declared.Ee.{Ee}
use Rattle.record_places.specs.declared.Refusal.{Refusal}
use Rattle.record_places.specs.declared.Refusal.TheVariants.{UnknownMark, TooLong, Misframed, NotUtf8, BadByte, OverLimit}
use Rattle.record_places.specs.declared.Record.{Record}
use Rattle.record_places.specs.declared.Record.TheVariants as walked

-- ---- a text

abbrev pub text_in : Bytes → Place → Text
text_in s p = part s p.start p.size

abbrev pub Within : Bytes → Place → Type 0
Within s p = p.start + p.size ≤ length s

-- where the text at a place stands: two bytes say its length; nowhere where not all of its bytes are there
unfoldable pub text_place : Bytes → ℕ → code.Option Place
text_place s at = cond (leb (at + 2 + two s at) (length s)) (Some (record { start = at + 2; size = two s at })) None

-- ---- reading at a place

-- `a` is read up to the place `next`; where that is past the end, nothing is
unfoldable pub read_to : {A : Type 0} → Bytes → ℕ → A → Option (A × Bytes)
read_to s next a = cond (leb next (length s)) (some (a, drop next s)) none

-- what a reader finds from a place of the bytes on, where it reads `a` up to `next`
pub record Reads {A : Type 0} (p : Reader A) (s : Bytes) (at next : ℕ) (a : A) : Type 0 where
  pub says : at ≤ length s → p (drop at s) ≡ read_to s next a
  pub on : next ≤ length s → at ≤ next

-- a text; an empty one where none is whole
pub record TextOf (s : Bytes) (at : ℕ) (r : TextAt) : Type 0 where
  pub says : read_text (drop at s) ≡ read_to s r.next (text_in s r.text)
  pub on : r.next ≤ length s → at ≤ r.next
  pub near : r.next ≤ length s + 1
  pub within : Within s r.text
  pub bare : length s < r.next → text_in s r.text ≡ []

-- ---- lists

abbrev pub texts_at : Bytes → ℕ → ℕ → List Text
texts_at s at n = up_to n read_text (drop at s)

-- an attribute whose name and key are lent
abbrev pub name_and_key : Bor Bytes × Bor Bytes → Attribute
name_and_key q = record { name = q.0.now; key = q.1.now }

abbrev pub attributes_at : Bytes → ℕ → ℕ → List Attribute
attributes_at s at n = up_to n read_attribute (drop at s)

-- text i of n from a place on; the empty one where there is none
pub record FieldOf (s : Bytes) (at n i : ℕ) (p : Place) : Type 0 where
  pub says : text_in s p ≡ get_or (texts_at s at n) i []
  pub within : Within s p

-- ---- records

abbrev pub refer_in : Bytes → ℕ → Place → Option Text
refer_in s flag p = cond (eqb flag 1) (some (text_in s p)) none

-- the text behind the refer byte
pub record ReferOf (s : Bytes) (flag at : ℕ) (r : TextAt) : Type 0 where
  pub reads : Reads (read_refer (eqb flag 1)) s at r.next (refer_in s flag r.text)
  pub within : Within s r.text
  pub bare : eqb flag 1 ≡ false → r.text.size ≡ 0

unfoldable pub id_in : Bytes → Id → Rec
id_in s r =
    ID
    (record { kind = r.kind; name = text_in s r.name; flag = r.flag; refer = refer_in s r.flag r.refer; selector = text_in s r.selector; fields = texts_at s r.first r.count })

unfoldable pub ns_in : Bytes → Ns → Rec
ns_in s r = NS (record { target = r.target; prefix = text_in s r.prefix; uri = text_in s r.uri })

unfoldable pub es_in : Bytes → Es → Rec
es_in s r =
    ES
    (record { space = text_in s r.space; name = text_in s r.name; numbers = text_in s r.numbers; attributes = attributes_at s r.first r.count })

unfoldable pub ee_in : Bytes → Ee → Rec
ee_in s r = EE (record { simple = r.simple; key = text_in s r.key })

abbrev pub refusal_of : Refusal → refusals.Refusal
refusal_of UnknownMark = unknown_mark
refusal_of TooLong = too_long
refusal_of Misframed = misframed
refusal_of NotUtf8 = not_utf8
refusal_of BadByte = bad_byte
refusal_of OverLimit = over_limit

-- what a walk answers: a record by its places, or why it is refused
abbrev pub Walked : Type 0
Walked = Result Record Refusal

-- THE RECORD that places in bytes say, or the refusal
abbrev pub parsed_by : Bytes → Walked → Parsed
parsed_by s (Err c) = unparsed (refusal_of c)
parsed_by s (Ok (walked.Id r)) = parsed (id_in s r)
parsed_by s (Ok (walked.Ns r)) = parsed (ns_in s r)
parsed_by s (Ok (walked.Es r)) = parsed (es_in s r)
parsed_by s (Ok (walked.Ee r)) = parsed (ee_in s r)
parsed_by s (Ok walked.Fi) = parsed FI

-- ---- every place is in the bytes, and every list is whole

pub record InsideId (s : Bytes) (r : Id) : Type 0 where
  pub name : Within s r.name
  pub refer : Within s r.refer
  pub bare : eqb r.flag 1 ≡ false → r.refer.size ≡ 0
  pub selector : Within s r.selector
  pub first : r.first ≤ length s
  pub whole : length (texts_at s r.first r.count) ≡ r.count

pub record InsideNs (s : Bytes) (r : Ns) : Type 0 where
  pub prefix : Within s r.prefix
  pub uri : Within s r.uri

pub record InsideEs (s : Bytes) (r : Es) : Type 0 where
  pub space : Within s r.space
  pub name : Within s r.name
  pub numbers : Within s r.numbers
  pub first : r.first ≤ length s
  pub whole : length (attributes_at s r.first r.count) ≡ r.count

pub record InsideEe (s : Bytes) (r : Ee) : Type 0 where
  pub key : Within s r.key

abbrev pub Inside : Bytes → Walked → Type 0
Inside s (Err c) = Unit {0}
Inside s (Ok (walked.Id r)) = InsideId s r
Inside s (Ok (walked.Ns r)) = InsideNs s r
Inside s (Ok (walked.Es r)) = InsideEs s r
Inside s (Ok (walked.Ee r)) = InsideEe s r
Inside s (Ok walked.Fi) = Unit {0}

-- what is answered says `p`, by places inside
pub record Walks (s : Bytes) (p : Parsed) (r : Walked) : Type 0 where
  pub says : parsed_by s r ≡ p
  pub inside : Inside s r
