-- How often the element that ends hits each field of each open selection.
-- Assumes nothing.
use Rattle.std.specs.Prelude.{ℕ, ◌+◌, ◌*◌, ◌≤◌, ◌<◌, length, drop, get_or, ◌≡◌, List, [], map}
use Rattle.std.proofs.Math.ListN.{get_elem?}
use Rattle.std.proofs.Math.Option.{Option, none, some}
use Rattle.paths.specs.Names.{Name}
use Rattle.paths.specs.Reading.{every}
use Rattle.tree.specs.Cells.{reach}
use Rattle.machine.specs.Machine.{OpenScope, Selection}
use Rattle.records.specs.Readers.{Bytes}
use Rattle.session_spec.specs.Definitions.{Definitions, read_definitions}
use Rattle.session_spec.specs.Layout.{parts, name_in, put_scope, selection_in}
use Rattle.session_laws.proofs.Areas.{SelectionFit}
use Rattle.session_laws.proofs.Constraints.{ConstraintFit}
use Rattle.open_scopes.specs.OpenScopes.{records_of}
use Rattle.open_scopes.specs.declared.Scopes.{Scopes}
use Rattle.path_area.specs.Scratch.{Scratched}
use Rattle.lists.specs.Lists.{All}

-- of field f of a selection; a field that its constraint lacks has no alternative
unfoldable pub hits_of : List Name → (f : ℕ) → Option Selection → ℕ
hits_of nm f none = 0
hits_of nm f (some x) = reach (get_or x.scope.constraint.fields f []) (drop x.depth nm) none

-- of field f of selection j; 0 where there is no such selection
unfoldable pub hits_at : List Name → List Selection → (f j : ℕ) → ℕ
hits_at nm ss f j = hits_of nm f (get_elem? ss j)

-- The store and the areas read as definitions d, names nm of the open elements, open scopes os and open selections ss.
pub record Described (cells : Bytes) (n : ℕ) (scopes : Scopes) (names : Bytes) (depth : ℕ) (defs area : Bytes)
    (d : Definitions) (nm : List Name) (os : List OpenScope) (ss : List Selection) : Type 0 where
  pub defined : read_definitions defs ≡ some d
  pub named : every name_in (parts 514 depth names) ≡ some nm
  pub opened : records_of scopes ≡ map put_scope os
  pub known : All (λ (o : OpenScope). ConstraintFit d o.scope.constraint) os
  pub many : n ≡ length ss
  pub selected : every (selection_in os) (parts 512 n cells) ≡ some ss
  pub fit : All (SelectionFit os) ss
  pub room : 1024 ≤ length area

-- THE PROMISE: number 32·f + j is that of field f of selection j. The area is scratch.
pub record HitsOf (cells : Bytes) (n : ℕ) (scopes : Scopes) (names : Bytes) (depth : ℕ) (defs before : Bytes) (r : List ℕ) (after : Bytes) : Type 0 where
  pub says : (d : Definitions) (nm : List Name) (os : List OpenScope) (ss : List Selection) → Described cells n scopes names depth defs before d nm os ss
      → (f j : ℕ) → f < 4 → j < 32 → get_or r (32 * f + j) 0 ≡ hits_at nm ss f j
  pub sized : length r ≡ 128
  pub scratched : Scratched before after
