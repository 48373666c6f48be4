-- What an ES comes to before anything is written: the listed constraints that open a scope, those that kind 6 is
-- reported for, and the open scopes that select the new element. Each is a set of places.
-- Assumes nothing.
use Rattle.std.specs.Prelude.{ℕ, suc, ◌≤◌, ◌<◌, length, drop, get_or, ◌≡◌, count_ones, false, List, [], ◌∷◌, ◌++◌, map}
use Rattle.std.proofs.Math.ListN.{get_elem?}
use Rattle.std.proofs.Math.Option.{some}
use Rattle.lists.specs.Lists.{only_if, All}
use Rattle.paths.specs.Names.{Name}
use Rattle.paths.specs.Reading.{on_some, every}
use Rattle.tree.specs.Cells.{Unset}
use Rattle.tree.specs.Events.{Constraint, Scope, openings, selects}
use Rattle.tree.specs.Judge.{Report, kind_six}
use Rattle.machine.specs.Machine.{OpenScope, Selection}
use Rattle.records.specs.Readers.{Bytes, reads}
use Rattle.session_spec.specs.Definitions.{Definitions, read_definitions, defined_at}
use Rattle.session_spec.specs.Layout.{read_rp, parts, name_in, put_scope}
use Rattle.session_spec.specs.Session.{reports_in, told_by}
use Rattle.session_laws.proofs.Constraints.{ConstraintFit}
use Rattle.output_stores.specs.Stores.{in_mask}
use Rattle.path_area.specs.Scratch.{Scratched}
use Rattle.open_scopes.specs.OpenScopes.{records_of}
use Rattle.open_scopes.specs.declared.Scopes.{Scopes}
use Rattle.constraint_paths.proofs.Stands.{is_read}
use Rattle.plans.specs.Plans.{six_from}

-- ---- sets of places

-- the members whose place, counted from j on, is in the set
unfoldable pub marked : {A : Type 0} → (mask j : ℕ) → List A → List A
marked m j [] = []
marked m j (x ∷ xs) = only_if (in_mask m j) (x ∷ []) ++ marked m (suc j) xs

-- the set has places of this list only, and as many as it has bits
pub record Places {A : Type 0} (xs : List A) (mask : ℕ) : Type 0 where
  pub past : (j : ℕ) → length xs ≤ j → in_mask mask j ≡ false
  pub counted : count_ones mask ≡ length (marked mask 0 xs)

-- ---- the listed constraints

-- all are defined, and they are no more than are looked at
pub record Listed (d : Definitions) (numbers : List ℕ) : Type 0 where
  pub known : All (λ (i : ℕ). i < length d.ids) numbers
  pub few : length numbers ≤ 32

-- the set has the places of those whose paths read
abbrev pub Reading : Definitions → List ℕ → (mask : ℕ) → Type 0
Reading d numbers mask = (j : ℕ) → j < length numbers → in_mask mask j ≡ is_read (defined_at d (get_or numbers j 0))

-- THE SCOPES that open, with the area as scratch
pub record Opens (defs numbers before : Bytes) (r : ℕ) (after : Bytes) : Type 0 where
  pub says : 1024 ≤ length before → (d : Definitions) → read_definitions defs ≡ some d → Listed d numbers → Reading d numbers r
  pub places : Places numbers r
  pub scratched : Scratched before after

-- THE REPORTS of kind 6, where `opened` has those that read
pub record Tells (defs numbers : Bytes) (opened : ℕ) (reports : Bytes) (r : ℕ) : Type 0 where
  pub says : (d : Definitions) → read_definitions defs ≡ some d → Listed d numbers → Reading d numbers opened
      → (rs : List Report) → on_some (reads read_rp reports) (reports_in d) ≡ some rs
      → (e n : ℕ) → six_from e (told_by d rs) (openings (defined_at d) n numbers) ≡ map (λ i. kind_six e i) (marked r 0 numbers)
  pub places : Places numbers r

-- the scopes of these constraints, where n were opened before
unfoldable pub numbered : (n : ℕ) → List Constraint → List Scope
numbered n [] = []
numbered n (c ∷ cs) = record { number = suc n; constraint = c } ∷ numbered (suc n) cs

-- ---- the open scopes

-- the set has the places of those that select the element that these names lead to
abbrev pub Selecting : List Name → List OpenScope → (mask : ℕ) → Type 0
Selecting names os mask = (j : ℕ) (o : OpenScope) → get_elem? os j ≡ some o → in_mask mask j ≡ selects o.scope.constraint (drop o.depth names)

-- THE SCOPES THAT SELECT, each seen from its own element
pub record Picks (defs : Bytes) (scopes : Scopes) (names : Bytes) (depth : ℕ) (before : Bytes) (r : ℕ) (after : Bytes) : Type 0 where
  pub says : 1024 ≤ length before → (d : Definitions) → read_definitions defs ≡ some d → (ns : List Name) → every name_in (parts 514 depth names) ≡ some ns
      → (os : List OpenScope) → records_of scopes ≡ map put_scope os → All (λ (o : OpenScope). ConstraintFit d o.scope.constraint) os
      → Selecting ns os r × Places os r
  pub scratched : Scratched before after

-- the selection of the innermost element by an open scope, before any hit
abbrev pub blank_on : List Name → OpenScope → Selection
blank_on names o = record { scope = o.scope; depth = length names; cells = map (λ _. Unset) o.scope.constraint.fields }
