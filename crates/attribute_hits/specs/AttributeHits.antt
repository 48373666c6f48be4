-- What the attributes of an element leave of the open selections.
-- Assumes nothing.
use Rattle.std.specs.Prelude.{ℕ, ◌*◌, ◌≤◌, length, drop, ◌≡◌}
use mathlib.Core.List.{List, ◌++◌, map, flat_map}
use Rattle.std.proofs.Math.Option.{some}
use Rattle.paths.specs.Names.{Name}
use Rattle.paths.specs.Reading.{every}
use Rattle.tree.specs.Cells.{attribute_hits}
use Rattle.machine.specs.Machine.{OpenScope, Selection, Giving, feed}
use Rattle.records.specs.Readers.{Bytes}
use Rattle.record_places.specs.Places.{attributes_at}
use Rattle.session_spec.specs.Definitions.{Definitions, read_definitions}
use Rattle.session_spec.specs.Layout.{parts, name_in, put_scope, put_selection, selection_in}
use Rattle.session_laws.proofs.Constraints.{ConstraintFit}
use Rattle.session_laws.proofs.Areas.{SelectionFit}
use Rattle.session_laws.proofs.OpenSelections.{AttributeFit}
use Rattle.open_scopes.specs.declared.Scopes.{Scopes}
use Rattle.open_scopes.specs.OpenScopes.{records_of}
use Rattle.path_area.specs.Scratch.{Scratched}
use Rattle.lists.specs.Lists.{All}

-- what an element with these attributes gives at its start
abbrev pub given_at : (rec : Bytes) → (first count : ℕ) → Giving
given_at rec first count alts below = attribute_hits alts below (attributes_at rec first count)

-- Of a session: its definitions d, the names of its open elements, its open scopes os and open selections ss; and the attributes are whole.
pub record Described (cells : Bytes) (n : ℕ) (scopes : Scopes) (names : Bytes) (depth : ℕ) (defs before rec : Bytes) (first count : ℕ)
    (d : Definitions) (called : List Name) (os : List OpenScope) (ss : List Selection) : Type 0 where
  pub definitions : read_definitions defs ≡ some d
  pub named : every name_in (parts 514 depth names) ≡ some called
  pub scoped : records_of scopes ≡ map put_scope os
  pub known : All (λ (o : OpenScope). ConstraintFit d o.scope.constraint) os
  pub selected : every (selection_in os) (parts 512 n cells) ≡ some ss
  pub many : n ≡ length ss
  pub few : n ≤ 32
  pub fit : All (SelectionFit os) ss
  pub room : 1024 ≤ length before
  pub whole : length (attributes_at rec first count) ≡ count
  pub keys : All AttributeFit (attributes_at rec first count)

-- THE PROMISE: the bytes of the selections are those of the selections after these hits, and what stands behind them stays.
pub record TakesAttributes (cells : Bytes) (n : ℕ) (scopes : Scopes) (names : Bytes) (depth : ℕ) (defs before rec : Bytes) (first count : ℕ) (cells' after : Bytes) : Type 0 where
  pub says : (d : Definitions) (called : List Name) (os : List OpenScope) (ss : List Selection) → Described cells n scopes names depth defs before rec first count d called os ss
      → cells' ≡ flat_map (put_selection os) (map (feed called (given_at rec first count)) ss) ++ drop (512 * n) cells
  pub scratched : Scratched before after
  pub size : length cells' ≡ length cells
