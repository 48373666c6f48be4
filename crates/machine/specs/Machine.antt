-- The streaming machine: what is kept from event to event, and what ES, EE and FI do to it. It keeps the names of the open elements, the open scopes,
-- the open selections with their cells, and what has been put out; no tree. That it puts out what the tree definition says is proved in proofs/.
-- Assumes nothing.
use Rattle.std.specs.Prelude.{ℕ, suc, ◌-◌, eqb, length, take, drop, not}
use mathlib.Core.List.{List, [], ◌∷◌, ◌++◌, map, flat_map, zip_with}
use Rattle.lists.specs.Lists.{only_if, passing, foldl}
use Rattle.paths.specs.Names.{Name}
use Rattle.paths.specs.Matching.{FieldAlt}
use Rattle.tree.specs.Events.{Start, End, Event, es, ee, Scope, Defined, openings, opened, scopes_of, selects}
use Rattle.tree.specs.Cells.{Hit, Cell, Unset, Set, SetNillable, NotSimple, Multiple, one, attribute_hits, element_hits}
use Rattle.tree.specs.Tree.{Element, Item, finished, failures}
use Rattle.tree.specs.Judge.{Out, blank, judge_all, finish_out}

-- ---- the state

-- An open scope. `depth` counts the open elements down to its own one, itself included.
pub record OpenScope : Type 0 where
  pub scope : Scope
  pub depth : ℕ

-- An open selection: the scope that selected an element, that element's depth, and the cells of the fields after the hits so far.
pub record Selection : Type 0 where
  pub scope : Scope
  pub depth : ℕ
  pub cells : List Cell

-- `names`: of the open elements, outermost first; `scopes`, `selections`: in the order of their opening;
-- `count`: scopes opened so far; `events`: records accepted so far.
pub record State : Type 0 where
  pub names : List Name
  pub scopes : List OpenScope
  pub selections : List Selection
  pub count : ℕ
  pub events : ℕ
  pub out : Out

-- `k` records, the definitions, are accepted before the first event
abbrev pub initial : ℕ → State
initial k = record { names = []; scopes = []; selections = []; count = 0; events = k; out = blank }

-- ---- hits

-- a cell takes one hit more
unfoldable pub hit : Cell → Hit → Cell
hit Unset h = one h
hit (Set k) h = Multiple
hit (SetNillable k) h = Multiple
hit NotSimple h = Multiple
hit Multiple h = Multiple

-- the cells of a selection, each after the hits that `give` has for its field
unfoldable pub feed_cells : (List FieldAlt → List Hit) → List (List FieldAlt) → List Cell → List Cell
feed_cells give fields cells = zip_with (λ alts c. foldl hit c (give alts)) fields cells

-- What an element gives: to a field, where these names lead to the element from the selected one.
abbrev pub Giving : Type 0
Giving = List FieldAlt → List Name → List Hit

-- at its start by its attributes, and at its end by itself
abbrev pub start_gives : Start → Giving
start_gives s alts below = attribute_hits alts below s.attributes

abbrev pub end_gives : End → Giving
end_gives e alts below = element_hits alts below e

-- a selection after what the innermost open element gives; the names below the selected element lead to it
unfoldable pub feed : List Name → Giving → Selection → Selection
feed names give s =
    record {
      scope = s.scope;
      depth = s.depth;
      cells = feed_cells (λ alts. give alts (drop s.depth names)) s.scope.constraint.fields s.cells;
    }

-- ---- ES

unfoldable pub at : ℕ → Scope → OpenScope
at d s = record { scope = s; depth = d }

-- the selection of the innermost open element, if the open scope selects it
unfoldable pub pick_up : List Name → OpenScope → List Selection
pick_up names o =
    only_if (selects o.scope.constraint (drop o.depth names))
    (record { scope = o.scope; depth = length names; cells = map (λ _. Unset) o.scope.constraint.fields } ∷ [])

-- The listed scopes open, then the new selections, of every open scope; then all selections take the attributes' hits.
unfoldable pub start_a : (ℕ → Defined) → State → Start → State
start_a defs st s =
    let n : Element = record { event = suc st.events; start = s; openings = openings defs st.count s.numbers } in
    let names : List Name = st.names ++ (s.name ∷ []) in
    let scopes : List OpenScope = st.scopes ++ map (at (length names)) (scopes_of n.openings) in
    record {
      names = names;
      scopes = scopes;
      selections = map (feed names (start_gives s)) (st.selections ++ flat_map (pick_up names) scopes);
      count = opened defs st.count s.numbers;
      events = suc st.events;
      out = judge_all st.out (failures n);
    }

-- ---- EE

unfoldable pub finished_item : ℕ → Selection → Item
finished_item e s = finished e s.scope s.cells

-- All selections take the element's hit; then those of the element finish, in the order of their opening, and its scopes close.
unfoldable pub end_open : State → End → State
end_open st e =
    let d : ℕ = length st.names in
    let event : ℕ = suc st.events in
    let fed : List Selection = map (feed st.names (end_gives e)) st.selections in
    record {
      names = take (d - 1) st.names;
      scopes = passing (λ o. not (eqb o.depth d)) st.scopes;
      selections = passing (λ s. not (eqb s.depth d)) fed;
      count = st.count;
      events = event;
      out = judge_all st.out (map (finished_item event) (passing (λ s. eqb s.depth d) fed));
    }

-- with no element open it does nothing
unfoldable pub end_if : List Name → State → End → State
end_if [] st e = st
end_if (n ∷ ns) st e = end_open st e

unfoldable pub end_a : State → End → State
end_a st e = end_if st.names st e

-- ---- a run, and FI

unfoldable pub step : (ℕ → Defined) → State → Event → State
step defs st (es s) = start_a defs st s
step defs st (ee e) = end_a st e

unfoldable pub run : (ℕ → Defined) → State → List Event → State
run defs st xs = foldl (step defs) st xs

unfoldable pub finish_a : State → State
finish_a st =
    record {
      names = st.names;
      scopes = st.scopes;
      selections = st.selections;
      count = st.count;
      events = suc st.events;
      out = finish_out (suc st.events) st.out;
    }
