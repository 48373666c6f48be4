-- The canonical text as the writer makes it: from the path's own bytes without white space, part by part, with no
-- name test read. Of a path that is read it is the canonical text (`respelled-is`); the writer's parts are held to it
-- over any bytes.
-- Assumes nothing.
use mathlib.Core.List.{List, [], ◌∷◌, map, flat_map}
use Rattle.std.proofs.Math.Option.{Option, none, some}
use Rattle.texts.specs.Texts.{Text}
use Rattle.paths.specs.Reading.{Part, attribute_part, self_part, child_part, split_at, behind, as_part}
use Rattle.canonical.specs.Canonical.{or_self, joined}

-- what is written for a part; nothing for `.`
unfoldable pub respell_part : Part → List Text
respell_part (attribute_part t) = (64 ∷ t) ∷ []
respell_part self_part = []
respell_part (child_part t) = t ∷ []

-- what is written for the parts between slashes
abbrev pub respelt_parts : List Text → List Text
respelt_parts ts = flat_map (λ t. respell_part (as_part t)) ts

unfoldable pub respell_parts : Text → Text
respell_parts t = joined 47 (or_self (respelt_parts (split_at 47 t)))

-- `.//` stays in front
unfoldable pub respell_marked : Text → Option Text → Text
respell_marked t none = respell_parts t
respell_marked t (some u) = 46 ∷ 47 ∷ 47 ∷ respell_parts u

unfoldable pub respell_alt : Text → Text
respell_alt t = respell_marked t (behind (46 ∷ 47 ∷ 47 ∷ []) t)

unfoldable pub respelled : Text → Text
respelled t = joined 124 (map respell_alt (split_at 124 t))
