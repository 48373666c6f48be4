-- What is asked of one listed constraint or one open scope.
-- Assumes nothing.
use Rattle.std.specs.Prelude.{ℕ, ◌≤◌, ◌<◌, length, drop, ◌≡◌, Bool, ◌&&◌, ◌||◌, not, List}
use Rattle.std.proofs.Math.Option.{some}
use Rattle.lists.specs.Lists.{any}
use Rattle.texts.specs.Texts.{same}
use Rattle.paths.specs.Names.{Name}
use Rattle.paths.specs.Reading.{on_some, every}
use Rattle.tree.specs.Events.{selects}
use Rattle.tree.specs.Judge.{Report}
use Rattle.records.specs.Readers.{Bytes, reads}
use Rattle.session_spec.specs.Definitions.{Definitions, read_definitions, constraint_at, defined_at}
use Rattle.session_spec.specs.Layout.{read_rp, parts, name_in}
use Rattle.session_spec.specs.Session.{reports_in, told_by}
use Rattle.output_stores.specs.Stores.{in_mask}
use Rattle.path_area.specs.Scratch.{Scratched}
use Rattle.open_scopes.specs.declared.Scope.{Scope}
use Rattle.constraint_paths.proofs.Stands.{is_read}

-- it opens a scope
pub record OpensOne (defs : Bytes) (number : ℕ) (before : Bytes) (r : Bool) (after : Bytes) : Type 0 where
  pub says : 1024 ≤ length before → (d : Definitions) → read_definitions defs ≡ some d → number < length d.ids → r ≡ is_read (defined_at d number)
  pub scratched : Scratched before after

-- the set of those with its name
pub record NamedAs (defs : Bytes) (number r : ℕ) : Type 0 where
  pub bears : (d : Definitions) → read_definitions defs ≡ some d → number < length d.ids
      → (c : ℕ) → c < length d.ids → in_mask r c ≡ same (constraint_at d number).name (constraint_at d c).name

-- kind 6 is reported for it: it is not among those that open, and its name neither among those of this event nor among
-- those before
pub record TellsOne (defs : Bytes) (number place opened said : ℕ) (reports : Bytes) (r : Bool) : Type 0 where
  pub says : (d : Definitions) → read_definitions defs ≡ some d → number < length d.ids → (rs : List Report) → on_some (reads read_rp reports) (reports_in d) ≡ some rs
      → r ≡ (not (in_mask opened place) && not (in_mask said number || any (same (constraint_at d number).name) (told_by d rs)))

-- those of its name are then among those of this event too
pub record SaidAfter (defs : Bytes) (number said : ℕ) (here : Bool) (r : ℕ) : Type 0 where
  pub says : (d : Definitions) → read_definitions defs ≡ some d → number < length d.ids
      → (c : ℕ) → c < length d.ids → in_mask r c ≡ (in_mask said c || (here && same (constraint_at d number).name (constraint_at d c).name))

-- it selects the element at depth `depth`
pub record PicksOne (defs : Bytes) (s : Scope) (names : Bytes) (depth : ℕ) (before : Bytes) (r : Bool) (after : Bytes) : Type 0 where
  pub says : 1024 ≤ length before → (d : Definitions) → read_definitions defs ≡ some d → s.constraint < length d.ids
      → (ns : List Name) → every name_in (parts 514 depth names) ≡ some ns → r ≡ selects (constraint_at d s.constraint) (drop s.depth ns)
  pub scratched : Scratched before after
