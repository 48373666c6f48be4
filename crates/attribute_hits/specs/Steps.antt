-- The same step by step: the selections of one scope, one field of them, one attribute.
-- Assumes nothing.
use Rattle.std.specs.Prelude.{ℕ, ◌+◌, ◌≤◌, ◌<◌, eqb, length, replicate, ◌≡◌, Bool, true, cond}
use Rattle.std.proofs.Math.ListN.{get_elem?}
use mathlib.Core.List.{List, ◌++◌, map, flat_map}
use Rattle.std.proofs.Math.Option.{Option, some}
use Rattle.texts.specs.Texts.{Text}
use Rattle.paths.specs.Names.{Name}
use Rattle.paths.specs.Matching.{FieldAlt}
use Rattle.paths.specs.Reading.{WrittenAlt, every, read_path, field_alt_of}
use Rattle.tree.specs.Cells.{Hit, attribute_hits}
use Rattle.machine.specs.Machine.{OpenScope, Selection, Giving, feed}
use Rattle.records.specs.Readers.{Bytes}
use Rattle.record_places.specs.Places.{attributes_at}
use Rattle.session_spec.specs.Definitions.{Definitions, read_definitions, or_none}
use Rattle.session_spec.specs.Layout.{parts, name_in, place_of, put_selection}
use Rattle.session_laws.proofs.Constraints.{ConstraintFit}
use Rattle.session_laws.proofs.Areas.{SelectionFit}
use Rattle.session_laws.proofs.OpenSelections.{AttributeFit}
use Rattle.path_entries.specs.Entries.{path_in}
use Rattle.path_area.specs.Scratch.{Scratched}
use Rattle.bindings.specs.Bindings.{uri_in}
use Rattle.matching.specs.Matched.{names_below}
use Rattle.matching.specs.Walks.{node_of}
use Rattle.cells.specs.Cells.{hit_of, hit_field}
use Rattle.reaching.specs.Rows.{reach_from}
use Rattle.attribute_hits.specs.AttributeHits.{given_at}
use Rattle.lists.specs.Lists.{All}

-- ---- selections in the area

-- the selections ss stand in the first n places, and behind them `rest`
pub record Stand (os : List OpenScope) (n : ℕ) (rest : Bytes) (ss : List Selection) (cells : Bytes) : Type 0 where
  pub bytes : cells ≡ flat_map (put_selection os) ss ++ rest
  pub many : n ≡ length ss
  pub few : n ≤ 32
  pub fit : All (SelectionFit os) ss

-- a selection is of the scope at this place among the open ones
abbrev pub is_of : List OpenScope → (place : ℕ) → Selection → Bool
is_of os place s = eqb (place_of s.scope.number os) place

-- one of that scope has this field
abbrev pub Has : List OpenScope → (place field : ℕ) → Selection → Type 0
Has os place field s = is_of os place s ≡ true → field < length s.cells

-- ---- one field

-- a selection of that scope takes in this field the hits that there are for its depth; any other one stays
unfoldable pub hit_here : List OpenScope → (place field : ℕ) → (ℕ → List Hit) → Selection → Selection
hit_here os place field hits s = cond (is_of os place s) (hit_field field (hits s.depth) s) s

-- all n selections do
pub record TakesHits (known : Type 0) (n place field : ℕ) (hits : ℕ → List Hit) (cells cells' : Bytes) : Type 0 where
  pub says : known → field < 4 → (os : List OpenScope) (rest : Bytes) (ss : List Selection) → Stand os n rest ss cells → All (Has os place field) ss
      → Stand os n rest (map (hit_here os place field hits) ss) cells'
  pub size : length cells' ≡ length cells

-- the attributes are whole, and their keys fit
pub record Whole (rec : Bytes) (first count : ℕ) : Type 0 where
  pub all : length (attributes_at rec first count) ≡ count
  pub keys : All AttributeFit (attributes_at rec first count)

-- with the bindings of this field
abbrev pub bound : (own schema : Bytes) → (field : ℕ) → List WrittenAlt → List FieldAlt
bound own schema field alts = map (field_alt_of (uri_in own schema (field + 2))) alts

-- of one attribute, by the path in the area
abbrev pub one_hits : (find : Text → Option Text) → (area names : Bytes) → (depth : ℕ) → (name key : Text) → (base : ℕ) → List Hit
one_hits find area names depth name key base =
    replicate (reach_from find area names depth (node_of true name) base) (hit_of 1 key)

-- of all of them
abbrev pub area_hits : (find : Text → Option Text) → (area names : Bytes) → (depth : ℕ) → (rec : Bytes) → (first count : ℕ) → (base : ℕ) → List Hit
area_hits find area names depth rec first count base =
    attribute_hits (map (field_alt_of find) (path_in area)) (names_below base depth names) (attributes_at rec first count)

-- by a path as it is written
abbrev pub path_hits : (own schema : Bytes) → (path : Text) → (names : Bytes) → (depth field : ℕ) → (rec : Bytes) → (first count : ℕ) → (base : ℕ) → List Hit
path_hits own schema path names depth field rec first count base =
    attribute_hits (bound own schema field (or_none (read_path true path))) (names_below base depth names) (attributes_at rec first count)

-- there is room for the path
pub record Ready (path : Text) (before rec : Bytes) (first count : ℕ) : Type 0 where
  pub short : length path ≤ 255
  pub room : 1024 ≤ length before
  pub whole : Whole rec first count

pub record TakesField (cells : Bytes) (n place field : ℕ) (own : Bytes) (path : Text) (names : Bytes) (depth : ℕ) (schema before rec : Bytes) (first count : ℕ) (cells' after : Bytes) : Type 0 where
  pub hits : TakesHits (Ready path before rec first count) n place field (path_hits own schema path names depth field rec first count) cells cells'
  pub scratched : Scratched before after

-- ---- one scope

-- a selection of that scope is fed; any other one stays
unfoldable pub fed_here : List OpenScope → (place : ℕ) → List Name → Giving → Selection → Selection
fed_here os place called give s = cond (is_of os place s) (feed called give s) s

-- the definitions and the names of a session
pub record Known (names : Bytes) (depth : ℕ) (defs before rec : Bytes) (first count : ℕ) (d : Definitions) (called : List Name) : Type 0 where
  pub definitions : read_definitions defs ≡ some d
  pub named : every name_in (parts 514 depth names) ≡ some called
  pub room : 1024 ≤ length before
  pub whole : Whole rec first count

-- the scope o stands at this place, and its constraint has this number
pub record Placed (os : List OpenScope) (place constraint : ℕ) (d : Definitions) (o : OpenScope) : Type 0 where
  pub here : get_elem? os place ≡ some o
  pub number : o.scope.constraint.number ≡ constraint
  pub fit : ConstraintFit d o.scope.constraint

pub record TakesScope (cells : Bytes) (n place constraint : ℕ) (names : Bytes) (depth : ℕ) (defs before rec : Bytes) (first count : ℕ) (cells' after : Bytes) : Type 0 where
  pub says : (d : Definitions) (called : List Name) → Known names depth defs before rec first count d called
      → (os : List OpenScope) (rest : Bytes) (ss : List Selection) → Stand os n rest ss cells → (o : OpenScope) → Placed os place constraint d o
      → Stand os n rest (map (fed_here os place called (given_at rec first count)) ss) cells'
  pub scratched : Scratched before after
  pub size : length cells' ≡ length cells
