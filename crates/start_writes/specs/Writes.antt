-- What is written for the members of a list whose places are in a set: scopes, reports of kind 6, blank selections.
-- Assumes nothing.
use Rattle.std.specs.Prelude.{ℕ, zero, suc, ◌+◌, ◌*◌, ◌≤◌, ◌<◌, length, ◌≡◌, Bool, cond}
use mathlib.Core.List.{List, [], ◌∷◌, ◌++◌, map, flat_map}
use Rattle.lists.specs.Lists.{only_if, foldl, over, put}
use Rattle.tree.specs.Judge.{kind_six}
use Rattle.records.specs.Readers.{Bytes}
use Rattle.session_spec.specs.Layout.{put_rp}
use Rattle.cells.specs.Cells.{blank_cells}
use Rattle.open_scopes.specs.declared.Scope.{Scope}
use Rattle.open_scopes.specs.declared.Scopes.{Scopes}
use Rattle.open_scopes.specs.OpenScopes.{pushed}
use Rattle.start_places.specs.StartPass.{marked}

-- ---- scopes

abbrev pub new_scope : (constraint number depth : ℕ) → Scope
new_scope c n d = record { constraint = c; number = n; depth = d }

-- scopes of these constraints on one element, numbered from n + 1 on
unfoldable pub new_scopes : (n depth : ℕ) → (constraints : List ℕ) → List Scope
new_scopes n depth [] = []
new_scopes n depth (c ∷ cs) = new_scope c (suc n) depth ∷ new_scopes (suc n) depth cs

-- `after` has a new scope for each marked number, while the last number of a scope fits four bytes
abbrev pub PushedBy : Scopes → (numbers : List ℕ) → (mask opened depth : ℕ) → (after : Scopes) → Type 0
PushedBy ss numbers mask opened depth after =
    opened ≤ 4000000000 → length numbers ≤ 32 → after ≡ foldl pushed ss (new_scopes opened depth (marked mask 0 numbers))

-- ---- reports

-- the reports that say that these constraints do not read
abbrev pub sixes : (event : ℕ) → (constraints : List ℕ) → Bytes
sixes event cs = flat_map put_rp (map (λ i. kind_six event i) cs)

-- A call that appends one for each marked number, where there is room for all: the new used length, and what the store
-- is then.
pub record Sixes (before : Bytes) (used : ℕ) (numbers : List ℕ) (mask event next : ℕ) (after : Bytes) : Type 0 where
  pub writes : length numbers ≤ 32 → used + 18 * length (marked mask 0 numbers) ≤ length before
      → (next ≡ used + 18 * length (marked mask 0 numbers)) × (after ≡ over before used (sixes event (marked mask 0 numbers)))
  pub keeps : length after ≡ length before

-- ---- selections

-- the first k places: 0, 1, ..
unfoldable pub places : ℕ → List ℕ
places zero = []
places (suc k) = places k ++ (k ∷ [])

-- one blank selection more behind the first n, where `chosen` says so
pub record OneOpened (before : Bytes) (n : ℕ) (chosen : Bool) (depth scope next : ℕ) (after : Bytes) : Type 0 where
  pub opens : n < 64 → (next ≡ n + cond chosen 1 0) × (after ≡ put before (512 * n) (flat_map (blank_cells depth) (only_if chosen (scope ∷ []))))
  pub keeps : length after ≡ length before

-- A call that opens one for each marked scope, where there is room for all: how many there are then, and the area.
pub record Opened (before : Bytes) (n mask scopes depth next : ℕ) (after : Bytes) : Type 0 where
  pub opens : n ≤ 32 → scopes ≤ 32 → 512 * (n + length (marked mask 0 (places scopes))) ≤ length before
      → (next ≡ n + length (marked mask 0 (places scopes))) × (after ≡ over before (512 * n) (flat_map (blank_cells depth) (marked mask 0 (places scopes))))
  pub keeps : length after ≡ length before
