-- What is asked of the paths of the constraint whose records stand in `own`.
-- Assumes nothing.
use Rattle.std.specs.Prelude.{ℕ, ◌≤◌, length, ◌≡◌, Bool, true, false, ◌&&◌, List}
use Rattle.std.proofs.Math.Option.{Option, some}
use Rattle.lists.specs.Lists.{all, any, All}
use Rattle.texts.specs.Texts.{Text}
use Rattle.paths.specs.Names.{Name}
use Rattle.paths.specs.Matching.{matches}
use Rattle.paths.specs.Reading.{read_path, step_path_of}
use Rattle.records.specs.Readers.{Bytes}
use Rattle.records.specs.Records.{IdRecord}
use Rattle.record_places.specs.Places.{texts_at}
use Rattle.session_spec.specs.Definitions.{is_some, or_none}
use Rattle.bindings.specs.Bindings.{uri_in}
use Rattle.matching.specs.Matched.{names_below}
use Rattle.path_area.specs.Scratch.{Scratched}
use Rattle.constraints.specs.Constraints.{id_at}
use Rattle.constraints.specs.declared.Parts.{Parts}

abbrev pub field_reads : Text → Bool
field_reads t = is_some (read_path true t)

-- selector and fields
unfoldable pub all_read : IdRecord → Bool
all_read i = is_some (read_path false i.selector) && all field_reads i.fields

-- In an area of at least 1,024 bytes, whose content is scratch.
pub record PathsRead (own before : Bytes) (r : Bool) (after : Bytes) : Type 0 where
  pub says : 1024 ≤ length before → (i : IdRecord) → id_at own ≡ some i → r ≡ all_read i
  pub scratched : Scratched before after

pub record FieldsRead (own : Bytes) (p : Parts) (before : Bytes) (r : Bool) (after : Bytes) : Type 0 where
  pub says : 1024 ≤ length before → length (texts_at own p.first p.count) ≡ p.count → All (λ (t : Text). length t ≤ 255) (texts_at own p.first p.count)
      → r ≡ all field_reads (texts_at own p.first p.count)
  pub scratched : Scratched before after

-- some alternative of the selector i matches these names
unfoldable pub taken : (find : Text → Option Text) → IdRecord → List Name → Bool
taken find i below = any (λ a. matches (step_path_of find a) below) (or_none (read_path false i.selector))

pub record Takes (own schema names : Bytes) (base depth : ℕ) (before : Bytes) (r : Bool) (after : Bytes) : Type 0 where
  pub says : 1024 ≤ length before → (i : IdRecord) → id_at own ≡ some i → r ≡ taken (uri_in own schema 1) i (names_below base depth names)
  pub scratched : Scratched before after
