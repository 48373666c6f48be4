-- The numbers of five texts, computed: the empty one, two that differ in their last byte, one of a whole word, and one of two words.
-- Assumes nothing.
use Rattle.std.specs.Prelude.{◌≡◌, refl, [], ◌∷◌}
use Rattle.numbers.specs.Numbers.{two, four}
use Rattle.hashes.specs.Hashes.{hash_to, hash_of}

of_none : hash_of [] ≡ 0
unfolding hash_of hash_to two four
of_none = refl

of-12 : hash_of (49 ∷ 50 ∷ []) ≡ 3785068951
unfolding hash_of hash_to two four
of-12 = refl

of-13 : hash_of (49 ∷ 51 ∷ []) ≡ 2854344855
unfolding hash_of hash_to two four
of-13 = refl

of-abcd : hash_of (97 ∷ 98 ∷ 99 ∷ 100 ∷ []) ≡ 2280262673
unfolding hash_of hash_to two four
of-abcd = refl

of-2025 : hash_of (50 ∷ 48 ∷ 50 ∷ 53 ∷ 45 ∷ []) ≡ 833817357
unfolding hash_of hash_to two four
of-2025 = refl
