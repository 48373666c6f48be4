-- What the functions below the two readers answer: the pieces of a text by lengths, what was written by the place behind it, and the room for it.
-- Assumes nothing.
use Rattle.std.specs.Prelude.{ℕ, suc, ◌+◌, ◌≤◌, eqb, ltb, length, drop, ◌≡◌, Bool, cond, ◌&&◌, ◌||◌, not}
use mathlib.Core.List.{List, [], ◌∷◌, ◌++◌, flat_map}
use Rattle.std.specs.declared.option.Option as code
use Rattle.std.specs.declared.option.Option.TheVariants.{Some, None}
use Rattle.std.proofs.Math.Option.{Option, none, some}
use denote.Ref.{Bor}
use Rattle.lists.specs.Lists.{over}
use Rattle.texts.specs.Texts.{Text}
use Rattle.paths.specs.Reading as reading
use Rattle.paths.specs.Reading.{WrittenTest, Walked, attribute_part, self_part, child_part, test_byte, starts_well, star_alone, local_of, name_test, as_part}
use Rattle.records.specs.Readers.{Bytes}
use Rattle.path_pieces.specs.Pieces.{piece_length, standing}
use Rattle.path_entries.specs.Entries.{put_test, put_end}
use Rattle.path_reader.specs.declared.Test.{Test}
use Rattle.path_reader.specs.declared.Steps.{Steps}

-- ---- pieces of a text

-- a byte behind the space and below the limit; up to 0x80, one of ASCII that is no white space
unfoldable pub plain_byte : (limit : ℕ) → ℕ → Bool
plain_byte limit b = ltb 0x20 b && ltb b limit

-- a byte of a name: one of a name test, and neither `:` nor `*`
unfoldable pub name_byte : ℕ → Bool
name_byte c = test_byte c && not (eqb c 58 || eqb c 42)

-- how many of them stand at the front
unfoldable pub name_length : Text → ℕ
name_length [] = 0
name_length (x ∷ xs) = cond (name_byte x) (suc (name_length xs)) 0

-- a name test, as it is answered
abbrev pub test_by : code.Option Test → Option WrittenTest
test_by None = none
test_by (Some n) = some (record { prefix = standing n.prefix; local = local_of n.local.now })

-- a name that may stand behind a colon
unfoldable pub good_name : Text → Bool
good_name t = eqb (name_length t) (length t) && starts_well t

-- what may stand behind a colon: a local part, and no other colon
unfoldable pub good_local : Text → Bool
good_local t = eqb (piece_length 58 t) (length t) && (starts_well t && star_alone t)

-- how many bytes stand before the local part
abbrev pub before_local : code.Option (Bor Text) → ℕ
before_local None = 0
before_local (Some p) = length p.now + 1

abbrev pub test_length : code.Option Test → ℕ
test_length None = 0
test_length (Some n) = before_local n.prefix + length n.local.now

pub record TestOf (t : Text) (r : code.Option Test) : Type 0 where
  pub reads : name_test t ≡ test_by r
  pub inside : test_length r ≤ length t

-- the tests that a part with others behind it adds; none where it may not stand there
unfoldable pub step_of : reading.Part → Option (List WrittenTest)
step_of (attribute_part t) = none
step_of self_part = some []
step_of (child_part t) = reading.on_some (name_test t) (λ n. some (n ∷ []))

-- ---- what is written

-- the text fits a length byte, and what is written for it ends within the first 1,024 bytes of the area
pub record Room (t : Text) (area : Bytes) (end : ℕ) : Type 0 where
  pub short : length t ≤ 255
  pub wide : 1024 ≤ length area
  pub fits : end ≤ 1024

-- what an area keeps where a path is not read
abbrev pub Kept : (before after : Bytes) → Type 0
Kept before after = (length after ≡ length before) × (drop 1024 after ≡ drop 1024 before)

-- bytes written from the place `at` on; `next` is the place behind them
abbrev pub Written : (before : Bytes) (at : ℕ) → Bytes → (next : ℕ) → (after : Bytes) → Type 0
Written before at vs next after = (next ≡ at + length vs) × (after ≡ over before at vs)

-- the bytes of what was read, where it was
abbrev pub Wrote : {A : Type 0} → (A → Bytes) → Option A → (before : Bytes) (at : ℕ) → code.Option ℕ → (after : Bytes) → Type 0
Wrote bytes o before at None after = (o ≡ none) × Kept before after
Wrote {A} bytes o before at (Some next) after = (a : A) × (o ≡ some a) × Written before at (bytes a) next after

-- the same with steps counted, of which n stand before
abbrev pub WroteSteps : {A : Type 0} → (A → ℕ) → (A → Bytes) → Option A → (before : Bytes) (at n : ℕ) → code.Option Steps → (after : Bytes) → Type 0
WroteSteps count bytes o before at n None after = (o ≡ none) × Kept before after
WroteSteps {A} count bytes o before at n (Some r) after = (a : A) × (o ≡ some a) × (r.count ≡ n + count a) × Written before at (bytes a) r.end after

abbrev pub steps_bytes : List WrittenTest → Bytes
steps_bytes ts = flat_map put_test ts

abbrev pub walked_steps : Walked → ℕ
walked_steps w = length w.steps

abbrev pub walked_bytes : Walked → Bytes
walked_bytes w = flat_map put_test w.steps ++ put_end w.attr
