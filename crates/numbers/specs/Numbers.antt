-- Numbers of two and four bytes, the low byte first.
-- Assumes nothing.
use Rattle.std.specs.Prelude.{ℕ, ◌+◌, ◌*◌, ◌/◌, ◌%◌, get_or, List, [], ◌∷◌, ◌++◌}

-- the number at a place; a byte that is not there counts as 0
unfoldable pub two : List ℕ → ℕ → ℕ
two s at = get_or s at 0 + 256 * get_or s (at + 1) 0

unfoldable pub four : List ℕ → ℕ → ℕ
four s at = two s at + 65536 * two s (at + 2)

-- the bytes of a number
unfoldable pub two_bytes : ℕ → List ℕ
two_bytes n = n % 256 ∷ n / 256 ∷ []

unfoldable pub four_bytes : ℕ → List ℕ
four_bytes n = two_bytes (n % 65536) ++ two_bytes (n / 65536)
