-- The character at a place as the code hands it on: the code point and how many bytes it has.
-- Assumes nothing.
use Rattle.std.specs.Prelude.{ℕ, ◌%◌, get_or}
use Rattle.texts.specs.Texts.{Text}
use Rattle.utf8.specs.Front.{code_at, size_at}
use Rattle.code_points.specs.declared.Char.{Char}

abbrev pub char_at : Text → ℕ → Char
char_at s at = record { code = code_at s at; size = size_at s at }

-- the six bits of the byte at a place
abbrev pub bits_at : Text → ℕ → ℕ
bits_at s at = get_or s at 0 % 64
