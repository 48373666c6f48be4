-- Computed: the answers by the definition's cases, what is refused before anything is written, texts with slashes, and
-- the room for what is written.
-- Assumes nothing.
use Rattle.std.proofs.Common.{arith}
use Rattle.std.specs.Prelude.{ℕ, replicate, ◌≡◌, refl}
use mathlib.Core.List.{List, [], ◌∷◌, map, flat_map}
use Rattle.lists.specs.Lists.{passing, only_if}
use Rattle.texts.specs.Texts.{Text}
use Rattle.paths.specs.Examples.{codes, read}
use Rattle.records.specs.Records.{count_of, long_path}
use Rattle.session_spec.specs.Definitions.{is_some}
use Rattle.canonical.specs.Canonical.{prefix_text, local_text, test_text, attribute_text, or_self, part_texts, joined, alt_text, canonical}
use Rattle.canonical.specs.Respelling.{respell_part}
use Rattle.canonical.specs.Writing as writing
use Rattle.canonical.specs.Writing.{spelled_number, size_then, path_over, placed, spelled_of, spelled}
use Rattle.std.specs.declared.result.Result.TheVariants.{Ok, Err}
use Rattle.std.proofs.Math.Option.{Option, none, some}
use Rattle.path_writer.specs.declared.SpellRefusal.{SpellRefusal}
use Rattle.path_writer.specs.declared.SpellRefusal.TheVariants.{NoUtf8, OtherKind, OverLimit, Unread, NoRoom}
use Rattle.path_writer.specs.Spelling.{number_of, spelled_by, Spells, SpelledOut, turned_back, slashed, slashed_parts, Fits}

-- a text of three bytes, and a refusal
text-of-three : spelled_by (Ok 3) ≡ writing.text 3
text-of-three = refl

refusal-five : spelled_by (Err OverLimit) ≡ writing.refused 5
refusal-five = refl

-- each refusal, by its number
all-numbers : map number_of (NoUtf8 ∷ OtherKind ∷ OverLimit ∷ Unread ∷ NoRoom ∷ []) ≡ 3 ∷ 4 ∷ 5 ∷ 23 ∷ 24 ∷ []
all-numbers = refl

-- `./a` of a selector into two bytes
abbrev one-call : Type 0
one-call = Spells 0 (codes "./a") (7 ∷ 8 ∷ []) (Ok 1) (97 ∷ 8 ∷ [])

promised : one-call
unfolding read passing only_if count_of long_path prefix_text local_text test_text attribute_text or_self part_texts joined alt_text canonical path_over placed spelled_of spelled codes
promised = record { answers = refl; leaves = refl }

-- at the door: another kind is 4, and output and size are as they were
abbrev refused-call : Type 0
refused-call = SpelledOut 2 (codes "a") (7 ∷ []) 9 4 (7 ∷ []) 9

door-refused : refused-call
unfolding spelled_number size_then spelled codes
door-refused = record { number = refl; output = refl; sizes = refl }

-- a kind and a path
abbrev Call : Type 0
Call = ℕ × Text

unfoldable turns : List Call → List (Option SpellRefusal)
unfolding read passing only_if count_of long_path path_over is_some turned_back
turns cs = map (λ (c : Call). turned_back c.0 c.1) cs

other-kind : turns ((2, codes "a") ∷ []) ≡ some OtherKind ∷ []
unfolding turns codes
other-kind = refl

no-utf8 : turns ((0, 0xFF ∷ []) ∷ []) ≡ some NoUtf8 ∷ []
unfolding turns
no-utf8 = refl

too-long : turns ((0, replicate 256 97) ∷ []) ≡ some OverLimit ∷ []
unfolding turns
too-long = refl

not_taken : turns ((0, codes "@a") ∷ []) ≡ some Unread ∷ []
unfolding turns codes
not_taken = refl

taken : turns ((1, codes "@a") ∷ (0, codes "./a") ∷ []) ≡ none ∷ none ∷ []
unfolding turns codes
taken = refl

-- an empty text is one too
with-slashes : slashed (codes "a" ∷ [] ∷ codes "b" ∷ []) ≡ codes "a//b/"
unfolding slashed flat_map codes
with-slashes = refl

parts-with-slashes : slashed_parts (codes "./child::a/@b") ≡ codes "a/@b/"
unfolding read slashed flat_map respell_part codes
parts-with-slashes = refl

-- of three bytes the last two are room for a text of one byte, and the last alone is not
room-for-one : Fits (97 ∷ []) 1 (7 ∷ 8 ∷ 9 ∷ [])
room-for-one = omega arith

no-room-for-one : Fits (97 ∷ []) 2 (7 ∷ 8 ∷ 9 ∷ []) → ⊥
no-room-for-one f = omega (arith, f)
