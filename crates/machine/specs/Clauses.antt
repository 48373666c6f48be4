-- Computed: single steps of the machine, each on the smallest state that shows it. Examples has whole documents.
-- Assumes nothing.
use Rattle.std.specs.Prelude.{ℕ, ◌≡◌, refl, true, false}
use mathlib.Core.List.{List, [], ◌∷◌, ◌++◌, map, flat_map, zip_with}
use Rattle.std.proofs.Math.Option.{none, some}
use Rattle.lists.specs.Lists.{any, only_if, passing, foldl}
use Rattle.texts.specs.Texts.{Text, same, same_all}
use Rattle.paths.specs.Names.{Name, after_colon}
use Rattle.paths.specs.Matching.{StepPath, FieldAlt, space_fits, local_fits, fits, attribute_fits, fit_all, fit_last, matches}
use Rattle.tree.specs.Events.{Start, End, key, selects, reads, Scope, opening, after, openings, opened, scope_of, scopes_of}
use Rattle.tree.specs.Cells.{simple, nillable, complex, Unset, Set, SetNillable, Multiple, one, ends_at, reaches, reach, attribute_hits, element_hit, element_hits}
use Rattle.tree.specs.Judge.{Tuple, Report, blank, is_multiple, is_not_simple, first_unset, keys_of, missing_or, first_nillable, set_or, outcome, report, keep, against, tuple_of, is_tuple, place, keep_or, completed, missed, nillable_key, settle, judge, judge_all, finish_out}
use Rattle.machine.specs.Machine.{Selection, State, initial, hit, feed_cells, feed, at, pick_up, start_a, finished_item, end_open, end_if, finish_a}

abbrev x : Text
x = 120 ∷ []

abbrev y : Text
y = 121 ∷ []

-- `.`, `.//.` and a child x
abbrev self : StepPath
self = record { descendant = false; steps = [] }

abbrev anywhere : StepPath
anywhere = record { descendant = true; steps = [] }

abbrev child : StepPath
child = record { descendant = false; steps = record { ns = none; local = some x } ∷ [] }

-- a key that selects everything, with this field; its scope with this number
abbrev scope : FieldAlt → ℕ → Scope
scope f n =
    record {
      number = n;
      constraint = record { number = 0; name = x; kind = key; refer = none; selector = anywhere ∷ []; fields = (f ∷ []) ∷ [] };
    }

abbrev to : StepPath → FieldAlt
to p = record { path = p; attr = none }

-- x, and y inside it
abbrev name : Text → Name
name t = record { space = []; local = t }

abbrev start : Start
start = record { name = name y; numbers = []; attributes = record { name = x; key = y } ∷ [] }

abbrev end : End
end = record { simple = 1; key = y }

-- an open selection of x by the scope with this number, and no hit so far
abbrev selected : FieldAlt → ℕ → Selection
selected f n = record { scope = scope f n; depth = 1; cells = Unset ∷ [] }

-- x is open after 5 records, with scope 1 on it and these selections
abbrev in-x : FieldAlt → List Selection → State
in-x f ss =
    record {
      names = name x ∷ [];
      scopes = record { scope = scope f 1; depth = 1 } ∷ [];
      selections = ss;
      count = 1;
      events = 5;
      out = blank;
    }

-- ---- hits

hit-again : hit (Set x) (simple x) ≡ Multiple
unfolding hit
hit-again = refl

-- a mark is gone with the second hit, whatever it is
marked-hit-again : map (hit (SetNillable x)) (simple x ∷ nillable x ∷ complex ∷ []) ++ (hit (Set x) (nillable x) ∷ []) ≡ Multiple ∷ Multiple ∷ Multiple ∷ Multiple ∷ []
unfolding hit
marked-hit-again = refl

-- the names that lead to y from the selected x: y alone, here each a hit
names-below-selected : (feed (name x ∷ name y ∷ []) (λ alts below. map (λ (n : Name). simple n.local) below) (selected (to self) 1)).cells
    ≡ Set y ∷ []
unfolding feed feed_cells zip_with hit one
names-below-selected = refl

-- ---- ES

-- the element's own attributes hit a selection that opens with it: the field is .//@x
abbrev attributes : FieldAlt
attributes = record { path = anywhere; attr = some (some x) }

attribute-hits-new : map (λ (s : Selection). s.cells) (start_a (λ i. reads (scope attributes 1).constraint) (initial 0) (record { name = name y; numbers = 0 ∷ []; attributes = start.attributes })).selections
    ≡ (Set y ∷ []) ∷ []
unfolding start_a at pick_up feed feed_cells zip_with hit one only_if passing flat_map same after_colon local_fits attribute_fits fit_all fit_last matches selects opening after openings opened scope_of scopes_of ends_at reaches reach attribute_hits
attribute-hits-new = refl

-- an open selection stands before the new ones: that of x is of scope 7, that of y of scope 1
open-before-new : map (λ (s : Selection). s.scope.number) (start_a (λ i. reads (scope (to self) 1).constraint) (in-x (to self) (selected (to self) 7 ∷ [])) start).selections
    ≡ 7 ∷ 1 ∷ []
unfolding start_a at pick_up feed only_if flat_map fit_all fit_last matches selects openings opened scopes_of
open-before-new = refl

-- ---- EE

end-counts : (end_open (in-x (to self) []) end).events ≡ 6
unfolding end_open
end-counts = refl

scope-closes : (end_open (in-x (to self) []) end).scopes ≡ []
unfolding end_open passing only_if
scope-closes = refl

selection-closes : (end_open (in-x (to self) (selected (to self) 1 ∷ [])) end).selections ≡ []
unfolding end_open passing only_if feed
selection-closes = refl

no-element-open : end_if [] (initial 5) end ≡ initial 5
unfolding end_if
no-element-open = refl

-- what ends is put out: the reports by scope and event, the tuples' texts
reported : State → List (ℕ × ℕ)
unfolding end_open feed feed_cells zip_with hit one only_if passing flat_map same same_all space_fits local_fits fits fit_all fit_last matches ends_at reaches reach element_hit element_hits is_multiple is_not_simple first_unset keys_of missing_or first_nillable set_or outcome report keep against tuple_of is_tuple place keep_or completed missed nillable_key settle judge judge_all finished_item
reported st = map (λ (r : Report). (r.scope, r.event)) (end_open st end).out.reports

keys : State → List (List Text)
unfolding reported
keys st = map (λ (t : Tuple). t.keys) (end_open st end).out.tuples

-- a field without a hit is reported by the end's own event
event-of-the-end : map (λ (q : ℕ × ℕ). q.1) (reported (in-x (to child) (selected (to child) 1 ∷ []))) ≡ 6 ∷ []
unfolding reported
event-of-the-end = refl

-- the element's own value is a hit of the field .//.
own-value-hits : keys (in-x (to anywhere) (selected (to anywhere) 1 ∷ [])) ≡ (y ∷ []) ∷ []
unfolding keys
own-value-hits = refl

-- two selections finish in the order of their opening
in-order : map (λ (q : ℕ × ℕ). q.0) (reported (in-x (to child) (selected (to child) 1 ∷ selected (to child) 2 ∷ [])))
    ≡ 1 ∷ 2 ∷ []
unfolding reported
in-order = refl

-- ---- FI

event-of-FI : (finish_a (initial 5)).out ≡ finish_out 6 blank
unfolding finish_a
event-of-FI = refl
