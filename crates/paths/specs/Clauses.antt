-- Computed: single clauses of the reader and of matching, each on the smallest case that shows it.
-- Assumes nothing.
use Rattle.std.specs.Prelude.{◌≡◌, refl, true, false}
use mathlib.Core.List.{[], ◌∷◌, flat_map}
use Rattle.std.proofs.Math.Option.{none, some}
use Rattle.lists.specs.Lists.{any, only_if, passing}
use Rattle.texts.specs.Texts.{Text, same}
use Rattle.utf8.specs.Utf8.{encode, size_of, code_of, decode_from, decode}
use Rattle.characters.specs.Spaces.{xml_space}
use Rattle.paths.specs.Names.{Name, after_colon}
use Rattle.paths.specs.Matching.{NameTest, space_fits, local_fits, fits, attribute_fits, fit_all, fit_last, matches}
use Rattle.paths.specs.Reading.{WrittenTest, on_some, or_else, behind, without_space, within, starts_well, star_alone, test_of, test_parts, attribute_part, self_part, child_part, element_part, part_of, as_part, walk_part, resolved}
use Rattle.paths.specs.Examples.{codes}

abbrev x : Text
x = 120 ∷ []

abbrev y : Text
y = 121 ∷ []

-- ---- white space

-- a b
space-dropped : without_space (97 ∷ 32 ∷ 98 ∷ []) ≡ 97 ∷ 98 ∷ []
unfolding without_space flat_map encode passing only_if xml_space size_of code_of decode_from decode
space-dropped = refl

-- a, U+A0, b; and a line tabulation
other-space-stays : (without_space (97 ∷ 0xC2 ∷ 0xA0 ∷ 98 ∷ []) ≡ 97 ∷ 0xC2 ∷ 0xA0 ∷ 98 ∷ []) × (without_space (0xB ∷ []) ≡ 0xB ∷ [])
unfolding without_space flat_map encode passing only_if xml_space size_of code_of decode_from decode
other-space-stays = (refl, refl)

-- ---- name tests

-- the local part is not empty and begins with no digit; `*` stands only alone
local-starts : (test_of none [] ≡ none) × (test_of (some x) (codes "1") ≡ none)
unfolding test_of starts_well star_alone within same codes
local-starts = (refl, refl)

star-in-a-name : star_alone (codes "a*") ≡ false
unfolding star_alone same codes
star-in-a-name = refl

-- :x, x:y and x:y:x
empty-prefix-free : test_parts ([] ∷ x ∷ []) ≡ test_of (some []) x
unfolding test_parts starts_well within
empty-prefix-free = refl

prefix-before-local : test_parts (x ∷ y ∷ []) ≡ test_of (some x) y
unfolding test_parts starts_well within
prefix-before-local = refl

two-colons : test_parts (x ∷ y ∷ x ∷ []) ≡ none
unfolding test_parts
two-colons = refl

-- ---- parts

axis-of-attributes : as_part (codes "attribute::x") ≡ attribute_part x
unfolding as_part part_of or_else behind same codes
axis-of-attributes = refl

-- `child::` is dropped, and once
axis-dropped : element_part (codes "child::x") (some x) ≡ child_part x
unfolding element_part codes
axis-dropped = refl

axis-dropped-once : part_of (codes "child::child::x") none
    ≡ element_part (codes "child::child::x") (some (codes "child::x"))
unfolding part_of on_some or_else behind same codes
axis-dropped-once = refl

-- an attribute test in a selector, and one with a part behind it
attribute-of-selector : walk_part false true (attribute_part x) none ≡ none
unfolding walk_part
attribute-of-selector = refl

attribute-not-last : walk_part true false (attribute_part x) none ≡ none
unfolding walk_part
attribute-not-last = refl

-- `.`
self-is-no-step : walk_part false true self_part (some (record { steps = []; attr = none }))
    ≡ some (record { steps = []; attr = none })
unfolding walk_part
self-is-no-step = refl

-- ---- prefixes

abbrev written : WrittenTest
written = record { prefix = some x; local = none }

prefix-found : (resolved (λ p. some y) written).ns ≡ some y
unfolding resolved on_some or_else
prefix-found = refl

prefix-not-found : (resolved (λ p. none) written).ns ≡ none
unfolding resolved on_some or_else
prefix-not-found = refl

-- ---- matching

abbrev named : Text → Name
named t = record { space = []; local = t }

abbrev test : NameTest
test = record { ns = none; local = some x }

-- an element of a namespace, by no prefix; one of none, by a prefix bound to the empty URI
no-prefix-any-space : space_fits none y ≡ true
unfolding space_fits
no-prefix-any-space = refl

empty-URI-no-space : space_fits (some []) [] ≡ false
unfolding space_fits same
empty-URI-no-space = refl

-- y:x by @x
attribute-by-local : attribute_fits (some x) (record { name = codes "y:x"; key = [] }) ≡ true
unfolding attribute_fits local_fits after_colon same codes
attribute-by-local = refl

-- the grandchild y/x: not by x, but by .//x
child-by-all-names : matches (record { descendant = false; steps = test ∷ [] }) (named y ∷ named x ∷ []) ≡ false
unfolding matches fit_last fit_all fits space_fits local_fits same
child-by-all-names = refl

descendant-by-last-names : matches (record { descendant = true; steps = test ∷ [] }) (named y ∷ named x ∷ []) ≡ true
unfolding matches fit_last fit_all fits space_fits local_fits same
descendant-by-last-names = refl

-- the base by .//. and a child by `.`
base-by-descent : fit_last [] [] ≡ true
unfolding fit_last fit_all
base-by-descent = refl

child-by-dot : fit_all [] (named x ∷ []) ≡ false
unfolding fit_all
child-by-dot = refl
