-- A number for a text, by its words of four bytes.
-- Assumes nothing.
use Rattle.std.specs.Prelude.{ℕ, zero, suc, ◌+◌, ◌*◌, ◌/◌, ◌%◌, length, List}
use Rattle.numbers.specs.Numbers.{four}

-- by the first n words; a byte that is not there counts as 0
unfoldable pub hash_to : (n : ℕ) → List ℕ → ℕ
hash_to zero s = 0
hash_to (suc n) s = (hash_to n s + four s (4 * n)) * 1640531527 % 4294967296

-- by all, the last of which is not full
unfoldable pub hash_of : List ℕ → ℕ
hash_of s = hash_to (length s / 4 + 1) s
