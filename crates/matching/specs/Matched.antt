-- What a parsed path matches, as the code is asked: the names of the open elements and the path's entries by their bytes.
-- Assumes nothing.
use Rattle.std.specs.Prelude.{ℕ, ◌+◌, ◌*◌, take, drop, get_or, Bool, List, map}
use Rattle.std.proofs.Math.Option.{Option}
use Rattle.lists.specs.Lists.{any}
use Rattle.texts.specs.Texts.{Text}
use Rattle.paths.specs.Names.{Name, Attribute}
use Rattle.paths.specs.Matching.{matches}
use Rattle.paths.specs.Reading.{step_path_of, field_alt_of}
use Rattle.tree.specs.Cells.{reach}
use Rattle.records.specs.Readers.{Bytes}
use Rattle.session_spec.specs.Layout.{parts}
use Rattle.path_entries.specs.Entries.{path_in}
use Rattle.matching.specs.declared.Branch.{Branch}

-- ---- the open names: 514 bytes each, a text in each half behind its two-byte length

unfoldable pub half_text : Bytes → Text
half_text h = take (get_or h 0 0 + 256 * get_or h 1 0) (drop 2 h)

unfoldable pub name_from : Bytes → Name
name_from e = record { space = half_text (take 257 e); local = half_text (drop 257 e) }

-- the names below the element at depth `base` down to the one at depth `depth`
unfoldable pub names_below : (base depth : ℕ) → Bytes → List Name
names_below base depth names = drop base (map name_from (parts 514 depth names))

-- the names of a branch
abbrev pub names_along : Branch → List Name
names_along b = names_below b.base b.depth b.names.now

-- ---- the path whose entries stand in the area

-- some alternative of the selector matches
unfoldable pub selected_by : (find : Text → Option Text) → (area : Bytes) → List Name → Bool
selected_by find area below = any (λ a. matches (step_path_of find a) below) (path_in area)

-- the hits that the element, or an attribute of it, gives the field: one where some alternative reaches it
unfoldable pub reached_by : (find : Text → Option Text) → (area : Bytes) → List Name → Option Attribute → ℕ
reached_by find area below node = reach (map (field_alt_of find) (path_in area)) below node
