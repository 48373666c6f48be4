-- The numbers of an area of cells that reads as selections: of each selection its own depth, and the place of its scope.
-- Assumes nothing.
use Prim.Native.Nat.{ℕ, ◌*◌}
use lib.ListN.{length, get_elem?}
use mathlib.Core.Path.{◌≡◌}
use mathlib.Core.List.{List}
use mathlib.Core.Option.{some}
use Rattle.lists.specs.Lists.{All}
use Rattle.lists.proofs.Places.{All-get_elem}
use Rattle.paths.specs.Reading.{every}
use Rattle.machine.specs.Machine.{OpenScope, Selection}
use Rattle.records.specs.Readers.{Bytes}
use Rattle.session_spec.specs.Layout.{parts, place_of, selection_in}
use Rattle.session_laws.proofs.Areas.{SelectionFit, selection-at}
use Rattle.cells.specs.Cells.{depth_at, scope_at}
use Rattle.cells.proofs.Selections.{depth-here, scope-here}

module _ (os : List OpenScope) (ss : List Selection) (area : Bytes) (e : every (selection_in os) (parts 512 (length ss) area) ≡ some ss) (fit : All (SelectionFit os) ss)
    (j : ℕ) (s : Selection) (g : get_elem? ss j ≡ some s) where
  pub depth_is : depth_at area (512 * j) ≡ s.depth
  depth_is =
      depth-here os s area (512 * j) (All-get_elem (SelectionFit os) ss j s fit g).keys
      (selection-at os (length ss) ss area e j s g)

  pub scope-is : scope_at area (512 * j) ≡ place_of s.scope.number os
  scope-is =
      scope-here os s area (512 * j) (All-get_elem (SelectionFit os) ss j s fit g).keys
      (selection-at os (length ss) ss area e j s g)
