-- Marks of one word, computed: the text whose number is 0 has the lowest bit of the first word; another lies past it.
-- Assumes nothing.
use Rattle.std.specs.Prelude.{ℕ, ◌≡◌, refl, true, false, List, [], ◌∷◌, replicate, get_or}
use Rattle.numbers.specs.Numbers.{two, four}
use Rattle.output_stores.specs.Stores.{in_mask}
use Rattle.hashes.specs.Hashes.{hash_to, hash_of}
use Rattle.tuple_marks.specs.Marks.{marked, with_mark, with_marks}

-- without any marks nothing is ruled out
none-there : marked [] (49 ∷ 50 ∷ []) ≡ true
unfolding marked hash_of hash_to two four
none-there = refl

-- the bit of the empty text
not_yet : marked (0 ∷ []) [] ≡ false
unfolding marked hash_of hash_to two four in_mask
not_yet = refl

set_then : with_mark (6 ∷ []) [] ≡ 7 ∷ []
unfolding with_mark hash_of hash_to two four
set_then = refl

-- of a record the bytes from 5 on are marked
of-record : with_marks (6 ∷ []) ((84 ∷ 85 ∷ 1 ∷ 0 ∷ 9 ∷ []) ∷ []) ≡ 7 ∷ []
unfolding with_marks with_mark hash_of hash_to two four
of-record = refl

-- '12' has bit 14 of word 7219: its number is 3785068951
past-them : marked (0 ∷ 0 ∷ []) (49 ∷ 50 ∷ []) ≡ true
unfolding marked hash_of hash_to two four in_mask
past-them = refl

of-12 : marked (replicate 7220 0) (49 ∷ 50 ∷ []) ≡ false
unfolding marked hash_of hash_to two four in_mask
of-12 = refl

set-12 : get_or (with_mark (replicate 7220 0) (49 ∷ 50 ∷ [])) 7219 0 ≡ 16384
unfolding with_mark hash_of hash_to two four
set-12 = refl
