-- Marks: a row of words of 32 bits, in which each tuple has one bit by the number of its bytes from 5 on: scope, field count and key texts.
-- Assumes nothing.
use Rattle.std.specs.Prelude.{ℕ, ◌/◌, ◌%◌, ◌^◌, ltb, length, drop, set, get_or, ◌≡◌, Bool, true, false, cond, List, [], ◌∷◌}
use Rattle.std.specs.Int.Bits.{bit_or}
use Rattle.records.specs.Readers.{Bytes}
use Rattle.session_spec.specs.Definitions.{frame}
use Rattle.output_stores.specs.Stores.{standing, in_mask}
use Rattle.hashes.specs.Hashes.{hash_of}
use Rattle.lists.specs.Lists.{All}

-- ---- the bit of a number below 2^32: of its highest eighteen bits thirteen say the word, five the bit

abbrev pub word_of : ℕ → ℕ
word_of h = h / 524288

abbrev pub bit_of : ℕ → ℕ
bit_of h = h / 16384 % 32

-- ---- one tuple, by its tail

-- its bit is set, or lies past the marks
unfoldable pub marked : (marks : List ℕ) → (tail : Bytes) → Bool
marked m t = cond (ltb (word_of (hash_of t)) (length m)) (in_mask (get_or m (word_of (hash_of t)) 0) (bit_of (hash_of t))) true

-- its bit is set, all else as it was
unfoldable pub with_mark : (marks : List ℕ) → (tail : Bytes) → List ℕ
with_mark m t = set m (word_of (hash_of t)) (bit_or (get_or m (word_of (hash_of t)) 0) (2 ^ bit_of (hash_of t)))

-- ---- the records of a store

unfoldable pub with_marks : (marks : List ℕ) → List Bytes → List ℕ
with_marks m [] = m
with_marks m (f ∷ fs) = with_marks (with_mark m (drop 5 f)) fs

-- all that stand in the bytes
abbrev pub AllMarked : (marks : List ℕ) → (used : Bytes) → Type 0
AllMarked m used = All (λ f. marked m (drop 5 f) ≡ true) (standing frame used)
