-- What the steps of a walk over the store find: where the records of a constraint begin and end, a count byte, kind and name of an ID, and bits.
-- Assumes nothing.
use Rattle.std.specs.Prelude.{ℕ, ◌+◌, ◌*◌, ◌<◌, ◌≤◌, length, take, drop, get_or, ◌≡◌, Bool, true, cond, ◌&&◌, not, List, [], ◌∷◌, map}
use Rattle.std.proofs.Math.Option.{Option, none, some}
use Rattle.texts.specs.Texts.{Text, same}
use Rattle.tree.specs.Judge.{is_keyref}
use Rattle.records.specs.Readers.{Bytes, read_text}
use Rattle.session_spec.specs.Definitions.{kind_of}
use Rattle.bindings.specs.Bindings.{frames_in}
use Rattle.bindings.specs.Own.{is_id, until_id, own_frames}
use Rattle.constraints.specs.declared.Counted.{Counted}
use Rattle.constraints.specs.Constraints.{joined, ids_in}

-- ---- where the records of a constraint begin and end

-- `r` is empty, or begins with the ID of constraint i
pub record StartsAt (used : Bytes) (i : ℕ) (r : Bytes) : Type 0 where
  pub own : own_frames 0 (frames_in r) ≡ own_frames i (frames_in used)
  pub first : 0 < length r → is_id r ≡ true

-- the first `n` bytes are the records before the next ID
pub record EndsAt (s : Bytes) (n : ℕ) : Type 0 where
  pub own : joined (until_id (frames_in s)) ≡ take n s
  pub inside : n ≤ length s

-- ---- a count byte

-- the byte at the place, and the place behind it; past the end it counts as 0
pub record CountedAt (s : Bytes) (at : ℕ) (r : Counted) : Type 0 where
  pub here : at < length s → (r.count ≡ get_or s at 0) × (r.first ≡ at + 1)
  pub past : length s ≤ at → r.count ≡ 0
  pub inside : r.first ≤ length s

-- ---- kind and name of an ID

-- the text that is read; an empty one where none is
unfoldable pub text_or : Option (Text × Bytes) → Text
text_or none = []
text_or (some q) = q.0

-- the name, behind mark, length and kind
unfoldable pub name_in : Bytes → Text
name_in f = text_or (read_text (drop 5 f))

-- a kind is left out that is a keyref's, where keyrefs are barred
abbrev pub leaves_out : (barred : Bool) → (kind : ℕ) → Bool
leaves_out barred k = barred && is_keyref (kind_of k)

-- an ID has the name t, and is not left out
unfoldable pub bears : (barred : Bool) → Text → Bytes → Bool
bears barred t f = not (leaves_out barred (get_or f 4 0)) && same t (name_in f)

-- ---- bits

-- the set that has number i where member i is true
unfoldable pub bits_of : List Bool → ℕ
bits_of [] = 0
bits_of (b ∷ bs) = cond b 1 0 + 2 * bits_of bs

-- of the first 32 IDs those that pass the test
unfoldable pub ids_with : (Bytes → Bool) → Bytes → ℕ
ids_with test used = bits_of (map test (take 32 (ids_in used)))

-- and those that bear the name
unfoldable pub bearers_in : (barred : Bool) → Text → Bytes → ℕ
bearers_in barred t used = ids_with (bears barred t) used
