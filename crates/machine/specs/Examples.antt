-- Two documents run event by event. What the machine is to put out and to keep is written by hand.
-- Assumes nothing.
use Rattle.std.specs.Prelude.{ℕ, zero, suc, ◌≡◌, refl, true, false}
use mathlib.Core.List.{List, [], ◌∷◌, ◌++◌, flat_map, zip_with}
use Rattle.std.proofs.Math.Option.{none, some}
use Rattle.lists.specs.Lists.{any, only_if, passing, foldl}
use Rattle.texts.specs.Texts.{Text, same, same_all}
use Rattle.paths.specs.Names.{Attribute, after_colon}
use Rattle.paths.specs.Matching.{StepPath, FieldAlt, space_fits, local_fits, fits, attribute_fits, fit_all, fit_last, matches}
use Rattle.tree.specs.Events.{Event, es, ee, Constraint, unique, key, keyref, selects, Defined, reads, opening, after, openings, opened, scope_of, scopes_of}
use Rattle.tree.specs.Cells.{Cell, Unset, Set, one, ends_at, reaches, reach, attribute_hits, element_hit, element_hits}
use Rattle.tree.specs.Tree.{failed_item, failures}
use Rattle.tree.specs.Judge.{Tuple, Report, is_multiple, is_not_simple, first_unset, keys_of, missing_or, first_nillable, set_or, outcome, report, keep, against, tuple_of, is_tuple, place, keep_or, present, completed, missed, nillable_key, settle, tell, judge, judge_all, is_keyref, named, answers, kind_five, unanswered, kind_fives, finish_out}
use Rattle.machine.specs.Machine.{OpenScope, Selection, State, initial, hit, feed_cells, feed, at, pick_up, start_a, finished_item, end_open, end_if, end_a, step, run, finish_a}

-- ---- names, paths, events

abbrev a : Text
a = 97 ∷ []

abbrev r : Text
r = 114 ∷ []

abbrev t : Text
t = 116 ∷ []

abbrev id : Text
id = 105 ∷ 100 ∷ []

abbrev v : Text
v = 118 ∷ []

abbrev w : Text
w = 119 ∷ []

-- `.`, a child of this name, and any element of this name below
abbrev self : StepPath
self = record { descendant = false; steps = [] }

abbrev child : Text → StepPath
child x = record { descendant = false; steps = record { ns = none; local = some x } ∷ [] }

abbrev descendant : Text → StepPath
descendant x = record { descendant = true; steps = record { ns = none; local = some x } ∷ [] }

abbrev element : StepPath → FieldAlt
element p = record { path = p; attr = none }

abbrev attribute : Text → FieldAlt
attribute x = record { path = self; attr = some (some x) }

abbrev start : Text → List ℕ → List Attribute → Event
start x numbers attributes = es (record { name = record { space = []; local = x }; numbers = numbers; attributes = attributes })

abbrev close : Text → Event
close x = ee (record { simple = 1; key = x })

-- ---- a key on `@id`, a unique on the element's own value, and a keyref on child `a` that names nothing, all three on the children `r` of `t`

abbrev on_id : Constraint
on_id = record { number = 0; name = a; kind = key; refer = none; selector = child r ∷ []; fields = (attribute id ∷ []) ∷ [] }

abbrev on_value : Constraint
on_value = record { number = 1; name = r; kind = unique; refer = none; selector = child r ∷ []; fields = (element self ∷ []) ∷ [] }

abbrev on_child : Constraint
on_child = record { number = 2; name = t; kind = keyref; refer = some t; selector = child r ∷ []; fields = (element (child a) ∷ []) ∷ [] }

abbrev three : ℕ → Defined
three zero = reads on_id
three (suc zero) = reads on_value
three (suc (suc i)) = reads on_child

-- after three definitions: two `r` alike, the second with two children `a`; at the end an EE with nothing open, and FI
abbrev document : List Event
document =
    start t (0 ∷ 1 ∷ 2 ∷ []) []
    ∷ start r [] (record { name = id; key = v } ∷ [])
    ∷ start a [] []
    ∷ close v
    ∷ close w
    ∷ start r [] (record { name = id; key = v } ∷ [])
    ∷ start a [] []
    ∷ close v
    ∷ start a [] []
    ∷ close v
    ∷ close w
    ∷ close []
    ∷ close []
    ∷ []

-- the state after the events, and after FI, computed
after-events : (ℕ → Defined) → ℕ → List Event → State
unfolding only_if passing flat_map zip_with same same_all after_colon space_fits local_fits fits attribute_fits fit_all fit_last matches selects opening after openings opened scope_of scopes_of one ends_at reaches reach attribute_hits element_hit element_hits failed_item failures is_multiple is_not_simple first_unset keys_of missing_or first_nillable set_or outcome report keep against tuple_of is_tuple place keep_or present completed missed nillable_key settle tell judge judge_all hit feed_cells feed at pick_up start_a finished_item end_open end_if end_a step run
after-events defs k xs = run defs (initial k) xs

after_finish : (ℕ → Defined) → ℕ → List Event → State
unfolding after-events finish_a finish_out kind_fives unanswered kind_five is_keyref named answers
after_finish defs k xs = finish_a (after-events defs k xs)

abbrev tuple : Constraint → ℕ → Text → Tuple
tuple c s x = record { constraint = c; scope = s; keys = x ∷ [] }

abbrev line : (kind constraint field scope event tuple : ℕ) → Report
line k c f s e n = record { kind = k; constraint = c; field = f; scope = s; event = e; tuple = n }

tuples-kept : (after_finish three 3 document).out.tuples ≡ tuple on_id 1 v ∷ tuple on_value 2 w ∷ tuple on_child 3 v ∷ []
unfolding after_finish
tuples-kept = refl

reports-made : (after_finish three 3 document).out.reports
    ≡ line 4 0 0 1 14 1 ∷ line 4 1 0 2 14 2 ∷ line 1 2 0 3 14 0 ∷ line 5 2 0 3 16 3 ∷ []
unfolding after_finish
reports-made = refl

-- twelve of the thirteen events count, and nothing is open behind them
all_closed : after-events three 3 document
    ≡ record { names = []; scopes = []; selections = []; count = 3; events = 15; out = (after-events three 3 document).out }
unfolding after-events
all_closed = refl

-- and FI counts too
finish-counts : (after_finish three 3 document).events ≡ 16
unfolding after_finish
finish-counts = refl

-- ---- `r` inside `r`, both selected by one scope on `t`: what is open then

abbrev below : Constraint
below = record { number = 0; name = a; kind = key; refer = none; selector = descendant r ∷ []; fields = (attribute id ∷ []) ∷ (element (child r) ∷ []) ∷ [] }

abbrev nested : List Event
nested = start t (0 ∷ []) [] ∷ start r [] (record { name = id; key = v } ∷ []) ∷ start r [] [] ∷ []

abbrev scoped : OpenScope
scoped = record { scope = record { number = 1; constraint = below }; depth = 1 }

abbrev open_at : ℕ → List Cell → Selection
open_at d cs = record { scope = scoped.scope; depth = d; cells = cs }

scopes-open : (after-events (λ i. reads below) 1 nested).scopes ≡ scoped ∷ []
unfolding after-events
scopes-open = refl

selections-open : (after-events (λ i. reads below) 1 nested).selections ≡ open_at 2 (Set v ∷ Unset ∷ []) ∷ open_at 3 (Unset ∷ Unset ∷ []) ∷ []
unfolding after-events
selections-open = refl

-- the inner one ends: its value is a hit of the outer one
outer-left : (after-events (λ i. reads below) 1 (nested ++ (close w ∷ []))).selections ≡ open_at 2 (Set v ∷ Set w ∷ []) ∷ []
unfolding after-events
outer-left = refl
