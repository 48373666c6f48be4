-- A number for each open selection: how many hits of a field a node is, from the selected element.
-- Assumes nothing.
use Rattle.std.specs.Prelude.{ℕ, min, ◌*◌, ◌<◌, eqb, ltb, length, get_or, ◌≡◌, Bool, cond, ◌&&◌}
use Rattle.std.proofs.Math.Option.{Option}
use Rattle.texts.specs.Texts.{Text}
use Rattle.paths.specs.Names.{Attribute}
use Rattle.records.specs.Readers.{Bytes}
use Rattle.cells.specs.Cells.{depth_at, scope_at}
use Rattle.matching.specs.Matched.{names_below, reached_by}
use Rattle.std.specs.declared.option.Option as code
use Rattle.std.specs.declared.option.Option.TheVariants.{Some, None}
use Rattle.reaching.specs.declared.Selections.{Selections}

-- from a selected element at depth `base`, by the field in the area, to the element at depth `depth` or an attribute of it
unfoldable pub reach_from : (find : Text → Option Text) → (area names : Bytes) → (depth : ℕ) → Option Attribute → (base : ℕ) → ℕ
reach_from find area names depth node base = reached_by find area (names_below base depth names) node

-- selection j is one of the first n, of which there are 32 at most, and of the scope at this place
unfoldable pub picked : (place n : ℕ) → (cells : Bytes) → (j : ℕ) → Bool
picked place n cells j = ltb j (min 32 n) && eqb (scope_at cells (512 * j)) place

-- the depth of the element of selection j, if it is of the scope that is asked for
abbrev pub base_of : Selections → (j : ℕ) → code.Option ℕ
base_of of j = cond (eqb (scope_at of.cells.now (512 * j)) of.place) (Some (depth_at of.cells.now (512 * j))) None

-- its number is `f` of its depth; the numbers of others stay
pub record RowOf (f : ℕ → ℕ) (place n : ℕ) (cells before after : Bytes) : Type 0 where
  pub same : length after ≡ length before
  pub each : (j : ℕ) → j < length before → get_or after j 0 ≡ cond (picked place n cells j) (f (depth_at cells (512 * j))) (get_or before j 0)
