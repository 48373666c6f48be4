-- Which path may be read into which area, and its text without white space in a room for it.
-- Assumes nothing.
use Rattle.std.specs.Prelude.{ℕ, leb, length, replicate, ◌≡◌, refl, Bool, true, false, cond, ◌&&◌, List, [], ◌∷◌}
use Rattle.texts.specs.Texts.{Text}
use Rattle.utf8.specs.Utf8.{utf8}
use Rattle.paths.specs.Reading.{without_space}
use Rattle.paths.specs.Examples.{codes, read}
use Rattle.records.specs.Readers.{Bytes}

-- a path of at most 255 bytes, and an area of at least 1,024
unfoldable pub roomy : Text → Bytes → Bool
roomy path area = leb (length path) 255 && leb 1024 (length area)

-- both just so, a path with one byte more, an area with one byte less
abbrev some_bytes : ℕ → List ℕ
some_bytes n = replicate n 97

rooms : roomy (some_bytes 255) (some_bytes 1024) ∷ roomy (some_bytes 256) (some_bytes 1024) ∷ roomy (some_bytes 255) (some_bytes 1023) ∷ [] ≡ true ∷ false ∷ false ∷ []
unfolding roomy
rooms = refl

-- the text without white space, where it is UTF-8 and fits as it stands; else nothing
unfoldable pub bare_text : Text → (room : ℕ) → Text
bare_text path room = cond (utf8 path && leb (length path) room) (without_space path) []

unfoldable bared : Text → ℕ → Text
unfolding read bare_text
bared path room = bare_text path room

spaces-out : bared (codes "a b ") 4 ≡ codes "ab"
unfolding bared codes
spaces-out = refl

-- with its white space it does not fit
no_room : bared (codes "a b") 2 ≡ []
unfolding bared codes
no_room = refl

no-text : bared (0xFF ∷ []) 1 ≡ []
unfolding bared
no-text = refl
