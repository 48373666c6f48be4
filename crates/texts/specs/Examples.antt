-- Computed: texts that are the same, that only begin another, and that differ in a byte; the same of tuples; and how many
-- pairs of bytes a comparison looks at.
-- Assumes nothing.
use Prim.Native.Char.{code}
use Prim.Native.String.{String}
use Rattle.std.specs.Prelude.{ℕ, ◌≡◌, refl, true, false, [], ◌∷◌}
use Rattle.texts.specs.Texts.{Text, same, same_all, pairs_back, pairs_of}

-- "ab" and itself, nothing and nothing
equal : same (97 ∷ 98 ∷ []) (97 ∷ 98 ∷ []) ∷ same [] [] ∷ [] ≡ true ∷ true ∷ []
unfolding same
equal = refl

-- "a" begins "ab", and nothing begins any text
beginnings : same (97 ∷ []) (97 ∷ 98 ∷ []) ∷ same [] (97 ∷ []) ∷ [] ≡ false ∷ false ∷ []
unfolding same
beginnings = refl

-- "ab" goes on where "a" ends, and differs from "ac"
different : same (97 ∷ 98 ∷ []) (97 ∷ []) ∷ same (97 ∷ 98 ∷ []) (97 ∷ 99 ∷ []) ∷ [] ≡ false ∷ false ∷ []
unfolding same
different = refl

-- where the bytes of two tuples are cut counts
tuples : same_all ((97 ∷ []) ∷ (98 ∷ []) ∷ []) ((97 ∷ 98 ∷ []) ∷ [] ∷ []) ≡ false
unfolding same_all same
tuples = refl

-- ---- pairs of bytes

-- the bytes of an ASCII text
bytes : String → Text
bytes = elim [ String.[] ↦ [] | String.◌∷◌ c (s → r) ↦ code c ∷ r ]

-- how many pairs a comparison of two names looks at
pairs : String → String → ℕ
unfolding bytes pairs_of pairs_back
pairs a b = pairs_of (bytes a) (bytes b)

-- none where the lengths differ
lengths_differ : pairs "voucher-header" "voucher-header-total" ∷ pairs "" "a" ∷ pairs "a" "" ∷ [] ≡ 0 ∷ 0 ∷ 0 ∷ []
unfolding pairs
lengths_differ = refl

-- the first unequal one from the end: the last bytes, or the first ones where all behind them are equal
one-unequal : pairs "voucher-number" "voucher-amount" ∷ pairs "ab" "bb" ∷ [] ≡ 1 ∷ 2 ∷ []
unfolding pairs
one-unequal = refl

-- and the equal ones behind it
equal-at-the-end : pairs "number-of-voucher" "amount-of-voucher" ≡ 12
unfolding pairs
equal-at-the-end = refl

-- all of the same names
all-equal : pairs "voucher-header" "voucher-header" ∷ pairs "" "" ∷ [] ≡ 14 ∷ 0 ∷ []
unfolding pairs
all-equal = refl
