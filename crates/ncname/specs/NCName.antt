-- NCName of Namespaces in XML 1.0: a name without a colon. A start character, and then name characters.
-- Assumes nothing.
use Rattle.std.specs.Prelude.{ℕ, ◌≡◌, refl, Bool, true, false, ◌&&◌, List, [], ◌∷◌, map}
use Rattle.lists.specs.Lists.{all}
use Rattle.characters.specs.Ranges.{in_ranges}
use Rattle.characters.specs.Names.{start_ranges, more_ranges, name_start, name_char}

-- these code points are an NCName
unfoldable pub nc_name : List ℕ → Bool
nc_name [] = false
nc_name (c ∷ cs) = name_start c && all name_char cs

-- a, _, 7a, a7, -a, a-.b, a:b, é, a and U+1680
abbrev names : List (List ℕ)
names =
    (0x61 ∷ []) ∷ (0x5F ∷ []) ∷ (0x37 ∷ 0x61 ∷ []) ∷ (0x61 ∷ 0x37 ∷ []) ∷ (0x2D ∷ 0x61 ∷ []) ∷ (0x61 ∷ 0x2D ∷ 0x2E ∷ 0x62 ∷ [])
    ∷ (0x61 ∷ 0x3A ∷ 0x62 ∷ []) ∷ (0xE9 ∷ []) ∷ (0x61 ∷ 0x1680 ∷ []) ∷ []

which : map nc_name names ≡ true ∷ true ∷ false ∷ true ∷ false ∷ true ∷ false ∷ true ∷ true ∷ []
unfolding nc_name name_start name_char in_ranges start_ranges more_ranges
which = refl

nothing : nc_name [] ≡ false
unfolding nc_name
nothing = refl
