-- Scope by scope and field by field: what each part of the work leaves of the numbers. Those of other scopes stay.
-- Assumes nothing.
use Rattle.std.specs.Prelude.{ℕ, ◌+◌, ◌*◌, ◌≤◌, ◌<◌, length, drop, get_or, ◌≡◌, Bool, true, false, cond, List, [], map}
use Rattle.std.proofs.Math.Option.{Option, none, some}
use Rattle.texts.specs.Texts.{Text}
use Rattle.paths.specs.Names.{Name}
use Rattle.paths.specs.Reading.{every, read_path, field_alt_of}
use Rattle.tree.specs.Cells.{reach}
use Rattle.records.specs.Readers.{Bytes}
use Rattle.record_places.specs.Places.{texts_at}
use Rattle.session_spec.specs.Definitions.{Definitions, read_definitions, or_none, constraint_at}
use Rattle.session_spec.specs.Layout.{parts, name_in}
use Rattle.bindings.specs.Bindings.{uri_in}
use Rattle.matching.specs.Matched.{names_below}
use Rattle.cells.specs.Cells.{depth_at}
use Rattle.path_area.specs.Scratch.{Scratched}
use Rattle.constraints.specs.declared.Parts.{Parts}
use Rattle.reaching.specs.Rows.{picked, RowOf}
use Rattle.lists.specs.Lists.{All}

-- some selection is of the scope at this place
pub record AnyOf (place n : ℕ) (cells : Bytes) (r : Bool) : Type 0 where
  pub absent : r ≡ false → (j : ℕ) → picked place n cells j ≡ false
  pub present : r ≡ true → (j : ℕ) × (picked place n cells j ≡ true)

-- the hits that the element at depth `depth` gives the field with this text, from a selected element at depth `base`
unfoldable pub reach_of : (find : Text → Option Text) → Text → (names : Bytes) → (depth base : ℕ) → ℕ
reach_of find text names depth base = reach (map (field_alt_of find) (or_none (read_path true text))) (names_below base depth names) none

-- the texts of the fields
abbrev pub field_texts : Bytes → Parts → List Text
field_texts own p = texts_at own p.first p.count

-- in a row, the numbers of the scope at this place are 0
abbrev pub RowBlank : (cells : Bytes) → (n place : ℕ) → Bytes → Type 0
RowBlank cells n place row = (j : ℕ) → j < length row → picked place n cells j ≡ true → get_or row j 0 ≡ 0

-- in all four rows
abbrev pub Blank : (cells : Bytes) → (n place : ℕ) → Bytes → Type 0
Blank cells n place counts = (f j : ℕ) → f < 4 → j < 32 → picked place n cells j ≡ true → get_or counts (32 * f + j) 0 ≡ 0

-- one row, from a blank one
pub record FieldOf (cells : Bytes) (n place : ℕ) (names : Bytes) (depth : ℕ) (own : Bytes) (p : Parts) (f target : ℕ) (defs before row after row' : Bytes) : Type 0 where
  pub says : 1024 ≤ length before → length (get_or (field_texts own p) f []) ≤ 255 → RowBlank cells n place row
      → RowOf (reach_of (uri_in own defs target) (get_or (field_texts own p) f []) names depth) place n cells row row'
  pub same : length row' ≡ length row
  pub scratched : Scratched before after

-- the rows of the fields that there are
pub record RowsOf (cells : Bytes) (n place : ℕ) (names : Bytes) (depth : ℕ) (own : Bytes) (p : Parts) (defs before counts after counts' : Bytes) : Type 0 where
  pub done : 1024 ≤ length before → All (λ (t : Text). length t ≤ 255) (field_texts own p) → Blank cells n place counts
      → (f j : ℕ) → f < 4 → j < 32 → f < p.count
      → get_or counts' (32 * f + j) 0
      ≡ cond (picked place n cells j) (reach_of (uri_in own defs (2 + f)) (get_or (field_texts own p) f []) names depth (depth_at cells (512 * j))) (get_or counts (32 * f + j) 0)
  pub left : (f j : ℕ) → f < 4 → j < 32 → p.count ≤ f → get_or counts' (32 * f + j) 0 ≡ get_or counts (32 * f + j) 0
  pub same : length counts' ≡ length counts
  pub scratched : Scratched before after

-- the numbers of one scope, whose constraint has this number in the definitions
pub record ScopeOf (cells : Bytes) (n place number : ℕ) (names : Bytes) (depth : ℕ) (defs before counts after counts' : Bytes) : Type 0 where
  pub says : (d : Definitions) (nm : List Name) → read_definitions defs ≡ some d → every name_in (parts 514 depth names) ≡ some nm → 1024 ≤ length before
      → number < length d.ids → Blank cells n place counts
      → (f j : ℕ) → f < 4 → j < 32
      → get_or counts' (32 * f + j) 0
      ≡ cond (picked place n cells j) (reach (get_or (constraint_at d number).fields f []) (drop (depth_at cells (512 * j)) nm) none) (get_or counts (32 * f + j) 0)
  pub same : length counts' ≡ length counts
  pub scratched : Scratched before after
