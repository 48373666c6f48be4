-- WHAT THE WRITER ANSWERS AND LEAVES, for any kind byte, path and output: the first of the refusals 4, 3, 5, 23 and
-- 24 that is met, and the output as it was; or how long the canonical text is, which then stands at the front of the
-- output, with all behind it as it was.
-- Assumes nothing.
use Rattle.std.specs.Prelude.{ℕ, eqb, leb, ltb, length, Bool, cond, not, ◌||◌, List}
use Rattle.std.proofs.Math.Option.{Option, none, some}
use Rattle.lists.specs.Lists.{over}
use Rattle.texts.specs.Texts.{Text}
use Rattle.utf8.specs.Utf8.{utf8}
use Rattle.paths.specs.Reading.{WrittenAlt, read_path}
use Rattle.records.specs.Readers.{Bytes}
use Rattle.records.specs.Records.{long_path}
use Rattle.canonical.specs.Canonical.{canonical}

pub data Spelled : Type 0 where
  -- the text has so many bytes
  text : ℕ → Spelled
  -- turned back, with this number
  refused : ℕ → Spelled

-- the number that a caller gets: 0 where the text is written
unfoldable pub spelled_number : Spelled → ℕ
spelled_number (text n) = 0
spelled_number (refused n) = n

-- the size that the caller then holds: that of the text, and where it is turned back the one from before
unfoldable pub size_then : Spelled → ℕ → ℕ
size_then (text n) before = n
size_then (refused n) before = before

-- 5: over a limit that an ID has for a path: 255 bytes, seven `|`, sixteen `/`
unfoldable pub path_over : Text → Bool
path_over t = ltb 255 (length t) || long_path t

-- 24: the output is shorter than the text
unfoldable pub placed : Text → (out : Bytes) → Spelled × Bytes
placed t out = cond (leb (length t) (length out)) (text (length t), over out 0 t) (refused 24, out)

-- 23: the reader does not take the path
unfoldable pub spelled_of : Option (List WrittenAlt) → (out : Bytes) → Spelled × Bytes
spelled_of none out = (refused 23, out)
spelled_of (some alts) out = placed (canonical alts) out

-- THE WRITER. Kind 0 is a selector, 1 a field; 4 is any other, 3 a path that is no UTF-8.
unfoldable pub spelled : (kind : ℕ) → Text → (out : Bytes) → Spelled × Bytes
spelled kind path out =
    cond (ltb 1 kind) (refused 4, out)
    (cond (not (utf8 path)) (refused 3, out)
    (cond (path_over path) (refused 5, out)
    (spelled_of (read_path (eqb kind 1) path) out)))
