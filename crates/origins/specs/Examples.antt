-- Computed: the events that made the tuples of small documents, written as in the tree definition's own examples.
-- Assumes nothing.
use Rattle.std.specs.Prelude.{ℕ, length, replicate, ◌≡◌, refl, List, [], ◌∷◌, ◌++◌}
use Rattle.std.proofs.Math.Option.{none, some}
use Rattle.tree.specs.Events.{Event, unique, key, keyref, Scope}
use Rattle.tree.specs.Tree.{Item, failed, finished, items}
use Rattle.tree.specs.Judge.{Out, blank, judge}
use Rattle.tree.specs.Build.{tree}
use Rattle.tree.specs.Examples.{Id, id, at, el, leaf, bare, judged}
use Rattle.origins.specs.Origins.{event_of, kept_by, origins_of}

-- ---- one happening

of-finished : (s : Scope) → event_of (finished 4 s []) ≡ 4
unfolding event_of
of-finished s = refl

of-failed : event_of (failed 3 9 []) ≡ 3
unfolding event_of
of-failed = refl

-- ---- of all in a document; its definitions are events too

origins : List Id → List Event → List ℕ
unfolding judged origins_of kept_by event_of
origins ds xs = origins_of blank (items [] (tree (at ds 0) (length ds) xs))

-- document 01, "One run, whole": the first `r` ends with event 4, and its TU is the only one
one-run : origins (id key "k" none "r" ("@id" ∷ []) ∷ []) (el "t" (0 ∷ []) [] (leaf "r" "a" ++ leaf "r" "a" ++ bare "r")) ≡ 4 ∷ []
unfolding origins
one-run = refl

-- a tuple for each, made at its end; between them one that is not kept
two-kept : origins (id unique "k" none "r" ("@id" ∷ []) ∷ []) (el "t" (0 ∷ []) [] (leaf "r" "a" ++ leaf "r" "a" ++ leaf "r" "b")) ≡ 4 ∷ 8 ∷ []
unfolding origins
two-kept = refl

-- a keyref keeps repeats, and one event makes a tuple of each of two constraints
at-one-event : origins (id key "k" none "r" ("@id" ∷ []) ∷ id keyref "f" (some "k") "r" ("@id" ∷ []) ∷ []) (el "t" (0 ∷ 1 ∷ []) [] (leaf "r" "a" ++ leaf "r" "a")) ≡ 5 ∷ 5 ∷ 7 ∷ []
unfolding origins
at-one-event = refl
