-- THE CANONICAL TEXT of a path that is read. It is made from what the reader found and from nothing else: so it has
-- no white space, `@` is its only axis, `.` stands only where an alternative would be empty without it, alternatives
-- keep their order, and prefixes stay as they were given.
-- Assumes nothing.
use Rattle.std.specs.Prelude.{ℕ, List, [], ◌∷◌, ◌++◌, map}
use Rattle.std.proofs.Math.Option.{Option, none, some}
use Rattle.lists.specs.Lists.{only_if}
use Rattle.texts.specs.Texts.{Text}
use Rattle.paths.specs.Reading.{WrittenTest, WrittenAlt}

-- ---- a name test: `a`, `*`, `p:a`, `p:*`

-- an empty prefix is one too: `:a`
unfoldable pub prefix_text : Option Text → Text
prefix_text none = []
prefix_text (some p) = p ++ (58 ∷ [])

unfoldable pub local_text : Option Text → Text
local_text none = 42 ∷ []
local_text (some l) = l

unfoldable pub test_text : WrittenTest → Text
test_text t = prefix_text t.prefix ++ local_text t.local

-- ---- an alternative: `.//` where it has one, then its steps and its attribute test with slashes between

unfoldable pub attribute_text : Option WrittenTest → List Text
attribute_text none = []
attribute_text (some t) = (64 ∷ test_text t) ∷ []

-- `.` where there is no step and no attribute test
unfoldable pub or_self : List Text → List Text
or_self [] = (46 ∷ []) ∷ []
or_self (t ∷ ts) = t ∷ ts

unfoldable pub part_texts : WrittenAlt → List Text
part_texts a = or_self (map test_text a.steps ++ attribute_text a.attr)

-- the texts with the byte c between each two
unfoldable pub joined : (c : ℕ) → List Text → Text
joined c [] = []
joined c (t ∷ []) = t
joined c (t ∷ u ∷ ts) = t ++ (c ∷ joined c (u ∷ ts))

unfoldable pub alt_text : WrittenAlt → Text
alt_text a = only_if a.descendant (46 ∷ 47 ∷ 47 ∷ []) ++ joined 47 (part_texts a)

-- ---- THE TEXT: the alternatives with bars between

unfoldable pub canonical : List WrittenAlt → Text
canonical alts = joined 124 (map alt_text alts)
