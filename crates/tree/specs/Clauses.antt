-- Computed: single clauses of the tree definition, each on the smallest case that shows it. Whole documents are in
-- Examples and Runs.
-- Assumes nothing.
use Rattle.std.specs.Prelude.{ℕ, ◌≡◌, refl, true, false}
use mathlib.Core.List.{List, [], ◌∷◌, ◌++◌, map, flat_map}
use Rattle.std.proofs.Math.Option.{Option, none, some}
use Rattle.lists.specs.Lists.{all, any, only_if, passing}
use Rattle.texts.specs.Texts.{Text, same, same_all}
use Rattle.paths.specs.Names.{Attribute, after_colon}
use Rattle.paths.specs.Matching.{StepPath, FieldAlt, space_fits, local_fits, fits, attribute_fits, fit_all, fit_last, matches}
use Rattle.tree.specs.Events.{Kind, unique, key, keyref, Constraint, selects, reads, unread, Scope, Opening, opens, fails, opening, after, openings, scope_of, scopes_of}
use Rattle.tree.specs.Cells.{simple, nillable, complex, Unset, Set, SetNillable, NotSimple, Multiple, one, cell, ends_at, reaches, reach, routes, attribute_hits, element_hit, element_hits}
use Rattle.tree.specs.Tree.{Element, Ended, Forest, empty, node, end_hits, hits, own_hits, cells_of, failed, finished, deeper, fresh, enter, failed_item, failures, finish, finishes, items}
use Rattle.tree.specs.Judge.{Tuple, Report, Out, blank, is_multiple, is_not_simple, first_unset, keys_of, several_nodes, no_simple_value, missing, on_nillable, complete, missing_or, first_nillable, set_or, outcome, report, keep, against, tuple_of, is_tuple, keep_or, present, completed, missed, nillable_key, settle, kind_six, tell, is_keyref, named, answers, unanswered, kind_fives}
use Rattle.tree.specs.Build.{◌⊕◌, top, inside, add, end_z}
use Rattle.tree.specs.Counts.{chosen, selected_by, allowed, complete_in, tuples_in, has, nub, second, bears}
use Rattle.tree.specs.Open.{while_open, is_selected, open_selections}
use Rattle.tree.specs.Routes.{attribute_hits_by_routes, end_hits_by_routes, hits_by_routes, own_hits_by_routes, one_route_at, one_route, own_one_route}

-- ---- texts, paths, constraints, elements

abbrev x : Text
x = 120 ∷ []

abbrev y : Text
y = 121 ∷ []

-- `.`, `.//.` and `x`
abbrev self : StepPath
self = record { descendant = false; steps = [] }

abbrev anywhere : StepPath
anywhere = record { descendant = true; steps = [] }

abbrev child : StepPath
child = record { descendant = false; steps = record { ns = none; local = some x } ∷ [] }

-- `.//x`
abbrev below : StepPath
below = record { descendant = true; steps = record { ns = none; local = some x } ∷ [] }

abbrev to : StepPath → FieldAlt
to p = record { path = p; attr = none }

-- `@x`
abbrev at_x : FieldAlt
at_x = record { path = self; attr = some (some x) }

-- a constraint named y, without fields
abbrev constraint : Kind → Option Text → StepPath → Constraint
constraint k r p = record { number = 2; name = y; kind = k; refer = r; selector = p ∷ []; fields = [] }

-- one with the field x
abbrev child_field : Constraint
child_field = record { number = 2; name = y; kind = key; refer = none; selector = self ∷ []; fields = (to child ∷ []) ∷ [] }

-- the scope of one without fields, with this number
abbrev scope : Kind → Option Text → ℕ → Scope
scope k r n = record { number = n; constraint = constraint k r anywhere }

-- an element x that opens these, and its end with the key y
abbrev element : List Opening → Element
element os =
    record {
      event = 3;
      start = record { name = record { space = []; local = x }; numbers = []; attributes = [] };
      openings = os;
    }

-- an element y, and an element x with an attribute x
abbrev other : Element
other = record { event = 3; start = record { name = record { space = []; local = y }; numbers = []; attributes = [] }; openings = [] }

abbrev attribute : Text → Attribute
attribute t = record { name = t; key = y }

abbrev attributed : Element
attributed = record { event = 3; start = record { name = record { space = []; local = x }; numbers = []; attributes = attribute x ∷ [] }; openings = [] }

abbrev ended : Ended
ended = record { event = 4; close = record { simple = 1; key = y } }

abbrev tuple : Kind → Option Text → ℕ → Text → Tuple
tuple k r n t = record { constraint = constraint k r self; scope = n; keys = t ∷ [] }

-- ---- hits and cells

empty-text-is-set : one (simple []) ≡ Set []
unfolding one
empty-text-is-set = refl

two-are-multiple : cell (simple x ∷ simple x ∷ []) ≡ Multiple
unfolding cell one
two-are-multiple = refl

no-element-for-a-test : ends_at (some none) none ≡ false
unfolding ends_at
no-element-for-a-test = refl

one-node-one-hit : reach (to self ∷ to self ∷ []) [] none ≡ 1
unfolding reach passing only_if reaches ends_at fit_all matches
one-node-one-hit = refl

-- the attributes x and y:x are two nodes for @x, and so are x and x
two-attributes : map (λ (t : Text). attribute_hits (at_x ∷ []) [] (attribute x ∷ attribute t ∷ [])) ((121 ∷ 58 ∷ 120 ∷ []) ∷ x ∷ []) ≡ (simple y ∷ simple y ∷ []) ∷ (simple y ∷ simple y ∷ []) ∷ []
unfolding attribute_hits flat_map reach passing only_if reaches ends_at attribute_fits after_colon local_fits same fit_all matches
two-attributes = refl

no-value-no-key : element_hit (record { simple = 0; key = x }) ≡ complex
unfolding element_hit
no-value-no-key = refl

-- simple byte 1 and 2: both have the key
nillable-with-key : map (λ (s : ℕ). element_hit (record { simple = s; key = x })) (1 ∷ 2 ∷ []) ≡ simple x ∷ nillable x ∷ []
unfolding element_hit
nillable-with-key = refl

-- the cell remembers it, and a hit more makes it Multiple, before or behind
mark-remembered : map cell ((nillable x ∷ []) ∷ (nillable [] ∷ []) ∷ (nillable x ∷ simple x ∷ []) ∷ (simple x ∷ nillable x ∷ []) ∷ (nillable x ∷ nillable x ∷ []) ∷ [])
    ≡ SetNillable x ∷ SetNillable [] ∷ Multiple ∷ Multiple ∷ Multiple ∷ []
unfolding cell one
mark-remembered = refl

-- the child x of the selected element, by the field x
child-is-hit : own_hits (to child ∷ []) (element []) (node (element []) empty (some ended) empty) none ≡ simple y ∷ []
unfolding own_hits hits end_hits attribute_hits element_hits element_hit reach reaches ends_at flat_map matches fit_all fits space_fits local_fits same
child-is-hit = refl

-- two children x are two nodes for it
two-children : cells_of child_field (element []) (node (element []) empty (some ended) (node (element []) empty (some ended) empty)) none ≡ Multiple ∷ []
unfolding cells_of cell own_hits hits end_hits attribute_hits element_hits element_hit reach reaches ends_at flat_map matches fit_all fits space_fits local_fits same
two-children = refl

-- ---- routes

two-routes : routes (to self ∷ to anywhere ∷ []) [] none ≡ 2
unfolding routes passing only_if reaches ends_at fit_all fit_last matches
two-routes = refl

-- x and .//x meet on a child x, and not on a child of it
meet-on-a-child : map (λ (f : Forest). one_route (to child ∷ to below ∷ []) [] f) (node (element []) empty none empty ∷ node other (node (element []) empty none empty) none empty ∷ []) ≡ false ∷ true ∷ []
unfolding one_route one_route_at routes passing only_if reaches ends_at fit_all fit_last fits space_fits local_fits same matches
meet-on-a-child = refl

-- @x and @x meet on each attribute x, @x and x on no node
meet-on-an-attribute : map (λ (f : FieldAlt). own_one_route (at_x ∷ f ∷ []) attributed empty) (at_x ∷ to child ∷ []) ≡ false ∷ true ∷ []
unfolding own_one_route one_route one_route_at routes passing only_if reaches ends_at attribute_fits after_colon fit_all fits space_fits local_fits same matches
meet-on-an-attribute = refl

-- and then each alternative would be a hit
hits-by-routes : own_hits_by_routes (at_x ∷ at_x ∷ to self ∷ to anywhere ∷ []) attributed empty (some ended) ≡ simple y ∷ simple y ∷ simple y ∷ simple y ∷ []
unfolding own_hits_by_routes hits_by_routes attribute_hits_by_routes end_hits_by_routes element_hit routes passing only_if reaches ends_at attribute_fits after_colon fit_all fit_last fits space_fits local_fits same flat_map matches
hits-by-routes = refl

-- ---- scopes

-- the first scope has number 1, and a constraint that does not read takes none
first-number : openings (λ i. reads (constraint key none self)) 0 (2 ∷ [])
    ≡ opens (record { number = 1; constraint = constraint key none self }) ∷ []
unfolding openings opening after
first-number = refl

no_number : after (unread x) 4 ≡ 4
unfolding after
no_number = refl

-- an element inside scope 1 that opens scope 2: the outer one first, with the element's name below it
scopes-entered : enter (element (opens (scope key none 2) ∷ [])) (record { scope = scope key none 1; below = [] } ∷ [])
    ≡ record { scope = scope key none 1; below = record { space = []; local = x } ∷ [] } ∷ record { scope = scope key none 2; below = [] } ∷ []
unfolding enter deeper fresh scope_of scopes_of flat_map
scopes-entered = refl

-- what happens inside an element comes before its own finish
inside-first : items [] (node (element (opens (scope key none 1) ∷ [])) (node (element (fails 5 y ∷ [])) empty none empty) (some ended) empty)
    ≡ failed 3 5 y ∷ finished 4 (scope key none 1) [] ∷ []
unfolding items enter deeper fresh scope_of scopes_of flat_map failed_item failures finish finishes cells_of only_if selects matches fit_last fit_all
inside-first = refl

-- ---- building

roots-stay : add (top (node (element []) empty (some ended) empty)) (node (element []) empty none empty)
    ≡ top (node (element []) empty (some ended) (node (element []) empty none empty))
unfolding add ◌⊕◌
roots-stay = refl

end-counts : (end_z (inside (top empty) (element []) empty) 0 5 ended.close).events ≡ 6
unfolding end_z
end-counts = refl

-- ---- a finished selection

multiple-before-not-simple : outcome (NotSimple ∷ Multiple ∷ []) ≡ several_nodes
unfolding outcome is_multiple is_not_simple first_unset keys_of missing_or first_nillable set_or
multiple-before-not-simple = refl

not-simple-before-unset : outcome (Unset ∷ NotSimple ∷ []) ≡ no_simple_value
unfolding outcome is_multiple is_not_simple first_unset keys_of missing_or first_nillable set_or
not-simple-before-unset = refl

-- an Unset field before one that is marked, wherever it stands
unset-before-nillable : map outcome ((SetNillable x ∷ Unset ∷ []) ∷ (Unset ∷ SetNillable x ∷ []) ∷ []) ≡ missing 1 ∷ missing 0 ∷ []
unfolding outcome is_multiple is_not_simple first_unset keys_of missing_or first_nillable set_or
unset-before-nillable = refl

-- SEVEN IS ASKED LAST: beside a Multiple, a NotSimple or an Unset field a mark says nothing; else the lowest marked field counts, and without a mark
-- the tuple is complete
seven-last : map outcome (
    (SetNillable x ∷ Multiple ∷ [])
    ∷ (SetNillable x ∷ NotSimple ∷ [])
    ∷ (SetNillable x ∷ Unset ∷ [])
    ∷ (Set x ∷ SetNillable y ∷ [])
    ∷ (SetNillable x ∷ SetNillable y ∷ [])
    ∷ (Set x ∷ Set y ∷ [])
    ∷ [])
    ≡ several_nodes ∷ no_simple_value ∷ missing 1 ∷ on_nillable 1 (x ∷ y ∷ []) ∷ on_nillable 0 (x ∷ y ∷ []) ∷ complete (x ∷ y ∷ []) ∷ []
unfolding outcome is_multiple is_not_simple first_unset keys_of missing_or first_nillable set_or
seven-last = refl

-- TWO IS ONE for unique and keyref: a tuple on an element declared nillable is what the same tuple on any other is
two-is-one : (i : ℕ) (ks : List Text) (e : ℕ) (s : Scope) (o : Out)
    → (settle unique (on_nillable i ks) e s o ≡ settle unique (complete ks) e s o) × (settle keyref (on_nillable i ks) e s o ≡ settle keyref (complete ks) e s o)
unfolding settle nillable_key
two-is-one i ks e s o = (refl, refl)

-- of a key it is reported with the field, although the same tuple is there, and nothing is kept
seven-of-key : nillable_key key 9 (scope key none 6) 7 (x ∷ []) (keep (tuple key none 6 x) blank)
    ≡ report (against 9 (scope key none 6) 7 7 0) (keep (tuple key none 6 x) blank)
unfolding nillable_key
seven-of-key = refl

-- field 7 of scope 6, at event 9
missing-of-key : missed key 9 (scope key none 6) 7 blank ≡ report (against 9 (scope key none 6) 3 7 0) blank
unfolding missed
missing-of-key = refl

missing-of-unique : missed unique 9 (scope unique none 6) 7 blank ≡ blank
unfolding missed
missing-of-unique = refl

missing-of-keyref : missed keyref 9 (scope keyref none 6) 7 blank ≡ blank
unfolding missed
missing-of-keyref = refl

-- one that is not there is kept, one that is there as tuple 8 is reported
new-one-kept : keep_or none 9 (scope key none 6) (x ∷ []) blank ≡ keep (tuple_of (scope key none 6) (x ∷ [])) blank
unfolding keep_or
new-one-kept = refl

old-one-named : keep_or (some 8) 9 (scope key none 6) (x ∷ []) blank ≡ report (against 9 (scope key none 6) 4 0 8) blank
unfolding keep_or
old-one-named = refl

-- of a keyref with refer every one is kept, of one without refer none
keyref-kept : completed keyref 9 (scope keyref (some x) 6) (x ∷ []) blank
    ≡ keep (tuple_of (scope keyref (some x) 6) (x ∷ [])) blank
unfolding completed present
keyref-kept = refl

keyref-without-refer : completed keyref 9 (scope keyref none 6) (x ∷ []) blank ≡ blank
unfolding completed present
keyref-without-refer = refl

-- the same texts in another scope, and other texts in the same scope
other-scope-no-tuple : is_tuple 1 (x ∷ []) (tuple key none 2 x) ≡ false
unfolding is_tuple same_all same
other-scope-no-tuple = refl

other-texts-no-tuple : is_tuple 1 (x ∷ []) (tuple key none 1 y) ≡ false
unfolding is_tuple same_all same
other-texts-no-tuple = refl

-- ---- reports

abbrev line : (scope event : ℕ) → Report
line s e = record { kind = 4; constraint = 2; field = 0; scope = s; event = e; tuple = 8 }

report-at-its-event : against 9 (scope key none 6) 4 0 8 ≡ line 6 9
unfolding against
report-at-its-event = refl

every-scope-reports : (report (line 6 9) blank).reports ≡ line 6 9 ∷ []
unfolding report only_if
every-scope-reports = refl

-- kind 6: the name is remembered, and another name is reported too
name-told : (tell 9 2 x blank).told ≡ x ∷ []
unfolding tell
name-told = refl

other-name-reported : (tell 9 2 x (record { tuples = []; reports = []; told = y ∷ [] })).reports ≡ kind_six 9 2 ∷ []
unfolding tell same
other-name-reported = refl

-- ---- FI

other-name-no-answer : named (some x) y ≡ false
unfolding named same
other-name-no-answer = refl

keyref-no-answer : answers (tuple keyref (some y) 1 x) (tuple keyref none 2 x) ≡ false
unfolding answers is_keyref named same same_all
keyref-no-answer = refl

answered-not-reported : unanswered 9 (tuple key none 2 x ∷ []) 1 (tuple keyref (some y) 1 x) ≡ []
unfolding unanswered only_if answers is_keyref named same same_all
answered-not-reported = refl

-- behind four tuples the keyref's own number is 5
own-number : kind_fives 9 [] 4 (tuple keyref (some y) 1 x ∷ []) ≡ unanswered 9 [] 5 (tuple keyref (some y) 1 x) ++ []
unfolding kind_fives
own-number = refl

-- ---- counts

-- equal tuples count once; those that differ in their second text only are two
equal-once : second key ((Set x ∷ []) ∷ (Set x ∷ []) ∷ []) ≡ 1
unfolding second tuples_in allowed complete_in has nub flat_map same same_all outcome is_multiple is_not_simple first_unset keys_of missing_or first_nillable set_or
equal-once = refl

second-text-counts : second key ((Set x ∷ Set x ∷ []) ∷ (Set x ∷ Set y ∷ []) ∷ []) ≡ 2
unfolding second tuples_in allowed complete_in has nub flat_map same same_all outcome is_multiple is_not_simple first_unset keys_of missing_or first_nillable set_or
second-text-counts = refl

-- one on an element declared nillable: of a unique and of a keyref, equal to another one; of a key none, and the equal one counts
nillable-counts : map (λ (k : Kind). second k ((SetNillable x ∷ []) ∷ (Set x ∷ []) ∷ (SetNillable y ∷ []) ∷ [])) (unique ∷ key ∷ keyref ∷ []) ≡ 2 ∷ 1 ∷ 2 ∷ []
unfolding second tuples_in allowed complete_in has nub flat_map same same_all outcome is_multiple is_not_simple first_unset keys_of missing_or first_nillable set_or
nillable-counts = refl

own-element-counts : selected_by (constraint key none self) (element []) empty (some ended) ≡ [] ∷ []
unfolding selected_by chosen only_if selects matches fit_all cells_of
own-element-counts = refl

other-scope-not-against : bears 1 (line 2 9) ≡ false
unfolding bears
other-scope-not-against = refl

-- ---- what is open

ended-not-open : while_open (some ended) 1 ≡ 0
unfolding while_open
ended-not-open = refl

-- an element and its child, both selected by the element's scope
child-in-own-scope : open_selections [] (node (element (opens (scope key none 1) ∷ [])) (node (element []) empty none empty) none empty)
    ≡ 2
unfolding open_selections while_open is_selected passing only_if enter deeper fresh scope_of scopes_of flat_map selects matches fit_last fit_all
child-in-own-scope = refl
