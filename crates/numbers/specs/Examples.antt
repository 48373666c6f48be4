-- Computed: numbers read from bytes, and the bytes of numbers.
-- Assumes nothing.
use Rattle.std.specs.Prelude.{◌≡◌, refl, [], ◌∷◌}
use Rattle.numbers.specs.Numbers.{two, four, two_bytes, four_bytes}

-- at 0, at 1, where one byte is left, and past the end
read-two : two (2 ∷ 1 ∷ 3 ∷ []) 0 ∷ two (2 ∷ 1 ∷ 3 ∷ []) 1 ∷ two (2 ∷ 1 ∷ 3 ∷ []) 2 ∷ two (2 ∷ 1 ∷ 3 ∷ []) 3 ∷ [] ≡ 258 ∷ 769 ∷ 3 ∷ 0 ∷ []
unfolding two
read-two = refl

read-four : four (4 ∷ 3 ∷ 2 ∷ 1 ∷ []) 0 ≡ 16909060
unfolding two four
read-four = refl

bytes-of-two : two_bytes 258 ≡ 2 ∷ 1 ∷ []
unfolding two_bytes
bytes-of-two = refl

bytes-of-four : four_bytes 16909060 ≡ 4 ∷ 3 ∷ 2 ∷ 1 ∷ []
unfolding two_bytes four_bytes
bytes-of-four = refl
