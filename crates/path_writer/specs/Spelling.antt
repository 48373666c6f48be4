-- What the writer promises, and what its functions promise each other.
-- Assumes nothing.
use Rattle.std.specs.Prelude.{ℕ, ◌+◌, ◌≤◌, eqb, ltb, length, take, ◌≡◌, cond, not}
use mathlib.Core.List.{List, [], ◌∷◌, ◌++◌, flat_map}
use Rattle.std.specs.declared.result.Result.{Result}
use Rattle.std.specs.declared.result.Result.TheVariants.{Ok, Err}
use Rattle.std.proofs.Math.Option.{Option, none, some}
use Rattle.texts.specs.Texts.{Text}
use Rattle.utf8.specs.Utf8.{utf8}
use Rattle.paths.specs.Reading.{read_path, split_at}
use Rattle.records.specs.Readers.{Bytes}
use Rattle.session_spec.specs.Definitions.{is_some}
use Rattle.canonical.specs.Respelling.{respelt_parts}
use Rattle.canonical.specs.Writing as writing
use Rattle.canonical.specs.Writing.{spelled_number, size_then, path_over, spelled}
use Rattle.path_writer.specs.declared.SpellRefusal.{SpellRefusal}
use Rattle.path_writer.specs.declared.SpellRefusal.TheVariants.{NoUtf8, OtherKind, OverLimit, Unread, NoRoom}

-- the numbers of document 02
abbrev pub number_of : SpellRefusal → ℕ
number_of NoUtf8 = 3
number_of OtherKind = 4
number_of OverLimit = 5
number_of Unread = 23
number_of NoRoom = 24

-- the answer, by the definition's cases
abbrev pub spelled_by : Result ℕ SpellRefusal → writing.Spelled
spelled_by (Ok n) = writing.text n
spelled_by (Err e) = writing.refused (number_of e)

-- THE PROMISE: the answer and the output are those of the definition, for any kind byte, path and output.
pub record Spells (kind : ℕ) (path : Text) (out : Bytes) (r : Result ℕ SpellRefusal) (out' : Bytes) : Type 0 where
  pub answers : spelled_by r ≡ (spelled kind path out).0
  pub leaves : out' ≡ (spelled kind path out).1

-- THE PROMISE AT THE DOOR: the answer by its number, and the size of the text in a number that is lent.
pub record SpelledOut (kind : ℕ) (path : Text) (out : Bytes) (size : ℕ) (r : ℕ) (out' : Bytes) (size' : ℕ) : Type 0 where
  pub number : r ≡ spelled_number (spelled kind path out).0
  pub output : out' ≡ (spelled kind path out).1
  pub sizes : size' ≡ size_then (spelled kind path out).0 size

-- ---- below the writer

-- the first of 4, 3, 5 and 23 that is met
unfoldable pub turned_back : (kind : ℕ) → Text → Option SpellRefusal
turned_back kind path =
    cond (ltb 1 kind) (some OtherKind)
    (cond (not (utf8 path)) (some NoUtf8) (cond (path_over path) (some OverLimit) (cond (is_some (read_path (eqb kind 1) path)) none (some Unread))))

-- texts, each with a slash behind it
unfoldable pub slashed : List Text → Text
slashed ts = flat_map (λ t. t ++ (47 ∷ [])) ts

-- what is written for the parts of a text, before the last slash is taken off
abbrev pub slashed_parts : Text → Text
slashed_parts s = slashed (respelt_parts (split_at 47 s))

-- from the place `at` on there is room for what is written for `s`: its bytes and one more
abbrev pub Fits : (s : Text) → (at : ℕ) → (text : Bytes) → Type 0
Fits s at text = at + (length s + 1) ≤ length text

-- The bytes `vs` stand behind the first `at` bytes, which are as they were, and `next` is the place behind them. What
-- stands from there on is free.
pub record Adds (before : Bytes) (at : ℕ) (vs : Text) (next : ℕ) (after : Bytes) : Type 0 where
  pub ends : next ≡ at + length vs
  pub holds : take next after ≡ take at before ++ vs
  pub keeps : length after ≡ length before
