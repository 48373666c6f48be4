-- Computed: demand 3 on document 01's run, from its bytes. It speaks of something: the run has a closed key scope.
-- Assumes nothing.
use Rattle.std.specs.Prelude.{replicate, ◌≡◌, refl, [], ◌∷◌}
use Rattle.tree.specs.Events.{Scope, key}
use Rattle.tree.specs.Tree.{Forest}
use Rattle.tree.specs.Counts.{ClosedScope, here, key-keyed, first, second, selection}
use Rattle.session_spec.specs.Definitions.{constraint_at}
use Rattle.session_spec.specs.Runs.{accepted, definitions_of, tree_of}
use Rattle.session_spec.specs.Computed.{id, es, left, grown, tree_replies, reports_left}
use Rattle.session_spec.specs.Examples.{small, whole_run}

-- ---- demand 3 on it: its key scope is closed and selects three elements with one tuple, and two reports bear its number

abbrev run-tree : Forest
run-tree = tree_of (accepted small whole_run)

key-scope : Scope
unfolding grown
key-scope = record { number = 1; constraint = constraint_at (definitions_of (accepted small whole_run)) 0 }

key-closed : ClosedScope run-tree key-scope
unfolding grown key-scope
key-closed = record { element = _; kids = _; end = _; found = here; opens = record { before = []; behind = []; split = refl }; keyed = key-keyed }

three-is-one-and-two : (first key (selection run-tree key-scope key-closed) ≡ 3) × (second key (selection run-tree key-scope key-closed) ≡ 1) × (reports_left small whole_run 1 ≡ 2)
unfolding reports_left key-scope key-closed
three-is-one-and-two = (refl, refl, refl)

-- ---- the same calls on the tree are answered alike, and what the run has left behind its third record: two elements, a scope and a selection open

one-run-tree-replies : tree_replies small whole_run ≡ replicate 10 0
unfolding tree_replies
one-run-tree-replies = refl

one-run-begun : left small (id 1 "" "r" ("@id" ∷ []) ∷ es "t" (0 ∷ []) [] ∷ es "r" [] (("id", "a") ∷ []) ∷ []) ≡ (3, 266371, 17, 0, 0, [], [])
unfolding left
one-run-begun = refl
