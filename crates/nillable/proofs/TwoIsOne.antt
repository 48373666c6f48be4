-- TWO IS ONE: where no selection of a key finishes, tuples and reports are those of the document with simple byte 1 for each 2. A hit, a cell and an outcome
-- lose their marks one after the other, and what is settled is the same; the tree of the changed events is the changed tree.
-- Assumes nothing.
use Prim.Native.Nat.{ℕ, suc}
use native.Mathlib.Omega.{arith}
use borrow.Author.Tests.{eqb-true}
use lib.Dec.{eqb}
use lib.ListN.{replicate}
use mathlib.Core.Path.{◌≡◌, refl, ap, ap₂, sym, ◌∙◌}
use mathlib.Core.Bool.{Bool, true, false, cond, false≢true}
use mathlib.Core.List.{List, [], ◌∷◌, ◌++◌, map, map-append}
use mathlib.Core.Option
use mathlib.Core.Option.{Option, none, some}
use lib.LanesLaws.{map-replicate}
use Rattle.lists.specs.Lists.{any, only_if, foldl, All}
use Rattle.lists.proofs.Folds.{map-only_if, flat_map-then-map}
use Rattle.texts.specs.Texts.{Text}
use Rattle.paths.specs.Names.{Name, Attribute}
use Rattle.paths.specs.Matching.{FieldAlt}
use Rattle.tree.specs.Events.{End, Event, es, ee, Kind, unique, key, keyref, Constraint, selects, Scope, Opening, opens, fails, Defined}
use Rattle.tree.specs.Cells.{Hit, simple, nillable, complex, Cell, Unset, Set, SetNillable, NotSimple, Multiple, one, cell, reach, attribute_hits, element_hit, element_hits}
use Rattle.tree.specs.Tree.{Element, Ended, Forest, empty, node, name, end_hits, hits, own_hits, cells_of, Item, failed, finished, Live, enter, failures, failed_item, finish, finishes, items}
use Rattle.tree.specs.Judge.{Out, blank, is_multiple, is_not_simple, first_unset, first_nillable, keys_of, Outcome, several_nodes, no_simple_value, missing, on_nillable, complete, set_or, missing_or, outcome, settle, nillable_key, tell, judge, judge_all}
use Rattle.tree.specs.Build.{◌⊕◌, Zipper, top, inside, plug_with, plug, add, Built, start_b, end_z, end_b, step_b, build, begun, tree}
use Rattle.nillable.specs.Plain.{plain_end, plain_event, plain_ended, plain, is_key, OfNoKey}

-- ---- hits

unfoldable plain_hit : Hit → Hit
plain_hit (simple k) = simple k
plain_hit (nillable k) = simple k
plain_hit complex = complex

plain-hit : (e : End) → element_hit (plain_end e) ≡ plain_hit (element_hit e)
unfolding element_hit plain_end plain_hit
plain-hit e = by (eqb e.simple 2) refl (eqb e.simple 0) refl
  where
    by : (b : Bool) → eqb e.simple 2 ≡ b → (z : Bool) → eqb e.simple 0 ≡ z
        → cond (eqb (cond b 1 e.simple) 0) complex (cond (eqb (cond b 1 e.simple) 2) (nillable e.key) (simple e.key)) ≡ plain_hit (cond z complex (cond b (nillable e.key) (simple e.key)))
    by true p true q = let n : e.simple ≡ 2 = eqb-true e.simple 2 p in let m : e.simple ≡ 0 = eqb-true e.simple 0 q in absurd (omega arith)
    by true p false q = refl
    by false p true q = rw q
    by false p false q = rw (q, p)

-- no attribute is marked
plain-attributes : (alts : List FieldAlt) (below : List Name) (xs : List Attribute) → attribute_hits alts below xs ≡ map plain_hit (attribute_hits alts below xs)
unfolding attribute_hits
plain-attributes alts below xs =
    flat_map-then-map (λ (x : Attribute). replicate (reach alts below (some x)) (simple x.key)) plain_hit (λ (x : Attribute). replicate (reach alts below (some x)) (simple x.key))
    (λ x. unfold plain_hit in sym (map-replicate plain_hit (reach alts below (some x)) (simple x.key))) xs

plain-end : (alts : List FieldAlt) (here : List Name) (e : Option Ended) → end_hits alts here (plain_ended e) ≡ map plain_hit (end_hits alts here e)
unfolding end_hits plain_ended element_hits
plain-end alts here none = refl
plain-end alts here (some e) = ap (λ (h : Hit). replicate (reach alts here none) h) (plain-hit e.close) ∙ sym (map-replicate plain_hit (reach alts here none) (element_hit e.close))

joined : (a b c d : List Hit) → a ≡ map plain_hit c → b ≡ map plain_hit d → a ++ b ≡ map plain_hit (c ++ d)
joined a b c d p q = ap₂ {C = List Hit} ◌++◌ p q ∙ sym (map-append plain_hit c d)

plain-hits : (alts : List FieldAlt) (above : List Name) (f : Forest) → hits alts above (plain f) ≡ map plain_hit (hits alts above f)
unfolding hits plain
plain-hits alts above empty = refl
plain-hits alts above (node n kids e rest) =
    let here : List Name = above ++ (name n ∷ []) in
    joined (attribute_hits alts here n.start.attributes) (hits alts here (plain kids) ++ (end_hits alts here (plain_ended e) ++ hits alts above (plain rest)))
    (attribute_hits alts here n.start.attributes) (hits alts here kids ++ (end_hits alts here e ++ hits alts above rest))
    (plain-attributes alts here n.start.attributes)
    (joined (hits alts here (plain kids)) (end_hits alts here (plain_ended e) ++ hits alts above (plain rest)) (hits alts here kids) (end_hits alts here e ++ hits alts above rest)
    (plain-hits alts here kids)
    (joined (end_hits alts here (plain_ended e)) (hits alts above (plain rest)) (end_hits alts here e) (hits alts above rest) (plain-end alts here e) (plain-hits alts above rest)))

plain-own : (alts : List FieldAlt) (n : Element) (kids : Forest) (e : Option Ended) → own_hits alts n (plain kids) (plain_ended e) ≡ map plain_hit (own_hits alts n kids e)
unfolding own_hits
plain-own alts n kids e =
    joined (attribute_hits alts [] n.start.attributes) (hits alts [] (plain kids) ++ end_hits alts [] (plain_ended e))
    (attribute_hits alts [] n.start.attributes) (hits alts [] kids ++ end_hits alts [] e) (plain-attributes alts [] n.start.attributes)
    (joined (hits alts [] (plain kids)) (end_hits alts [] (plain_ended e)) (hits alts [] kids) (end_hits alts [] e) (plain-hits alts [] kids) (plain-end alts [] e))

-- ---- cells

unfoldable plain_cell : Cell → Cell
plain_cell Unset = Unset
plain_cell (Set k) = Set k
plain_cell (SetNillable k) = Set k
plain_cell NotSimple = NotSimple
plain_cell Multiple = Multiple

plain-one : (h : Hit) → one (plain_hit h) ≡ plain_cell (one h)
unfolding one plain_hit plain_cell
plain-one (simple k) = refl
plain-one (nillable k) = refl
plain-one complex = refl

plain-cell : (hs : List Hit) → cell (map plain_hit hs) ≡ plain_cell (cell hs)
unfolding cell
plain-cell [] = unfold plain_cell in refl
plain-cell (h ∷ []) = plain-one h
plain-cell (h ∷ g ∷ hs) = unfold plain_cell in refl

plain_cells : (c : Constraint) (n : Element) (kids : Forest) (e : Option Ended) → cells_of c n (plain kids) (plain_ended e) ≡ map plain_cell (cells_of c n kids e)
unfolding cells_of
plain_cells c n kids e = by c.fields
  where
    by : (fs : List (List FieldAlt))
        → map (λ (alts : List FieldAlt). cell (own_hits alts n (plain kids) (plain_ended e))) fs ≡ map plain_cell (map (λ (alts : List FieldAlt). cell (own_hits alts n kids e)) fs)
    by [] = refl
    by (alts ∷ fs) = ap₂ {C = List Cell} ◌∷◌ (ap cell (plain-own alts n kids e) ∙ plain-cell (own_hits alts n kids e)) (by fs)

-- ---- outcomes

unfoldable plain_outcome : Outcome → Outcome
plain_outcome several_nodes = several_nodes
plain_outcome no_simple_value = no_simple_value
plain_outcome (missing i) = missing i
plain_outcome (on_nillable i ks) = complete ks
plain_outcome (complete ks) = complete ks

same-multiple : (cs : List Cell) → any is_multiple (map plain_cell cs) ≡ any is_multiple cs
unfolding is_multiple plain_cell
same-multiple [] = refl
same-multiple (Unset ∷ cs) = same-multiple cs
same-multiple (Set k ∷ cs) = same-multiple cs
same-multiple (SetNillable k ∷ cs) = same-multiple cs
same-multiple (NotSimple ∷ cs) = same-multiple cs
same-multiple (Multiple ∷ cs) = refl

same-not-simple : (cs : List Cell) → any is_not_simple (map plain_cell cs) ≡ any is_not_simple cs
unfolding is_not_simple plain_cell
same-not-simple [] = refl
same-not-simple (Unset ∷ cs) = same-not-simple cs
same-not-simple (Set k ∷ cs) = same-not-simple cs
same-not-simple (SetNillable k ∷ cs) = same-not-simple cs
same-not-simple (NotSimple ∷ cs) = refl
same-not-simple (Multiple ∷ cs) = same-not-simple cs

same-unset : (cs : List Cell) → first_unset (map plain_cell cs) ≡ first_unset cs
unfolding first_unset plain_cell
same-unset [] = refl
same-unset (Unset ∷ cs) = refl
same-unset (Set k ∷ cs) = ap (Option.map suc) (same-unset cs)
same-unset (SetNillable k ∷ cs) = ap (Option.map suc) (same-unset cs)
same-unset (NotSimple ∷ cs) = ap (Option.map suc) (same-unset cs)
same-unset (Multiple ∷ cs) = ap (Option.map suc) (same-unset cs)

same_keys : (cs : List Cell) → keys_of (map plain_cell cs) ≡ keys_of cs
unfolding keys_of plain_cell
same_keys [] = refl
same_keys (Unset ∷ cs) = same_keys cs
same_keys (Set k ∷ cs) = ap (λ (l : List Text). k ∷ l) (same_keys cs)
same_keys (SetNillable k ∷ cs) = ap (λ (l : List Text). k ∷ l) (same_keys cs)
same_keys (NotSimple ∷ cs) = same_keys cs
same_keys (Multiple ∷ cs) = same_keys cs

none-marked : (cs : List Cell) → first_nillable (map plain_cell cs) ≡ none
unfolding first_nillable plain_cell
none-marked [] = refl
none-marked (Unset ∷ cs) = ap (Option.map suc) (none-marked cs)
none-marked (Set k ∷ cs) = ap (Option.map suc) (none-marked cs)
none-marked (SetNillable k ∷ cs) = ap (Option.map suc) (none-marked cs)
none-marked (NotSimple ∷ cs) = ap (Option.map suc) (none-marked cs)
none-marked (Multiple ∷ cs) = ap (Option.map suc) (none-marked cs)

plain-outcome : (cs : List Cell) → outcome (map plain_cell cs) ≡ plain_outcome (outcome cs)
unfolding outcome
plain-outcome cs =
    rw (same-multiple cs, same-not-simple cs, same-unset cs, same_keys cs, none-marked cs) (by (any is_multiple cs) (any is_not_simple cs) (first_unset cs) (first_nillable cs))
  where
    by : (m n : Bool) (u v : Option ℕ) → cond m several_nodes (cond n no_simple_value (missing_or u (set_or none (keys_of cs)))) ≡ plain_outcome (cond m several_nodes (cond n no_simple_value (missing_or u (set_or v (keys_of cs)))))
    by true n u v = unfold plain_outcome in refl
    by false true u v = unfold plain_outcome in refl
    by false false (some i) v = unfold plain_outcome missing_or in refl
    by false false none none = unfold plain_outcome missing_or set_or in refl
    by false false none (some i) = unfold plain_outcome missing_or set_or in refl

settled-alike : (k : Kind) → is_key k ≡ false → (o : Outcome) (e : ℕ) (s : Scope) (out : Out) → settle k (plain_outcome o) e s out ≡ settle k o e s out
unfolding settle nillable_key plain_outcome is_key
settled-alike k h several_nodes e s out = refl
settled-alike k h no_simple_value e s out = refl
settled-alike k h (missing i) e s out = refl
settled-alike unique h (on_nillable i ks) e s out = refl
settled-alike key h (on_nillable i ks) e s out = absurd (false≢true (sym h))
settled-alike keyref h (on_nillable i ks) e s out = refl
settled-alike k h (complete ks) e s out = refl

-- ---- what happens

unfoldable plain_item : Item → Item
plain_item (failed e c t) = failed e c t
plain_item (finished e s cs) = finished e s (map plain_cell cs)

joined_items : (a b c d : List Item) → a ≡ map plain_item c → b ≡ map plain_item d → a ++ b ≡ map plain_item (c ++ d)
joined_items a b c d p q = ap₂ {C = List Item} ◌++◌ p q ∙ sym (map-append plain_item c d)

plain-failures : (n : Element) → failures n ≡ map plain_item (failures n)
unfolding failures
plain-failures n = flat_map-then-map (failed_item n.event) plain_item (failed_item n.event) (λ o. one-failure o) n.openings
  where
    one-failure : (o : Opening) → failed_item n.event o ≡ map plain_item (failed_item n.event o)
    one-failure (opens s) = unfold failed_item in refl
    one-failure (fails c t) = unfold failed_item plain_item in refl

plain-finish : (n : Element) (kids : Forest) (e : Ended) (l : Live)
    → finish n (plain kids) (record { event = e.event; close = plain_end e.close }) l ≡ map plain_item (finish n kids e l)
unfolding finish plain_item plain_ended
plain-finish n kids e l =
    let b : Bool = selects l.scope.constraint l.below in
    ap (λ (cs : List Cell). only_if b (finished e.event l.scope cs ∷ [])) (plain_cells l.scope.constraint n kids (some e))
    ∙ map-only_if plain_item b (finished e.event l.scope (cells_of l.scope.constraint n kids (some e)))

plain-finishes : (ls : List Live) (n : Element) (kids : Forest) (e : Option Ended) → finishes ls n (plain kids) (plain_ended e) ≡ map plain_item (finishes ls n kids e)
unfolding finishes plain_ended
plain-finishes ls n kids none = refl
plain-finishes ls n kids (some e) =
    flat_map-then-map (finish n kids e) plain_item (finish n (plain kids) (record { event = e.event; close = plain_end e.close })) (plain-finish n kids e) ls

plain-items : (ls : List Live) (f : Forest) → items ls (plain f) ≡ map plain_item (items ls f)
unfolding items plain
plain-items ls empty = refl
plain-items ls (node n kids e rest) =
    let here : List Live = enter n ls in
    joined_items (failures n) (items here (plain kids) ++ (finishes here n (plain kids) (plain_ended e) ++ items ls (plain rest))) (failures n) (items here kids ++ (finishes here n kids e ++ items ls rest))
    (plain-failures n)
    (joined_items (items here (plain kids)) (finishes here n (plain kids) (plain_ended e) ++ items ls (plain rest)) (items here kids) (finishes here n kids e ++ items ls rest)
    (plain-items here kids)
    (joined_items (finishes here n (plain kids) (plain_ended e)) (items ls (plain rest)) (finishes here n kids e) (items ls rest) (plain-finishes here n kids e) (plain-items ls rest)))

judged-alike : (is : List Item) (o : Out) → All OfNoKey is → judge_all o (map plain_item is) ≡ judge_all o is
unfolding judge_all judge plain_item
judged-alike [] o a = refl
judged-alike (failed e c t ∷ is) o a = judged-alike is (tell e c t o) a.1
judged-alike (finished e s cs ∷ is) o a =
    let p : settle s.constraint.kind (outcome (map plain_cell cs)) e s o ≡ settle s.constraint.kind (outcome cs) e s o =
    ap (λ (x : Outcome). settle s.constraint.kind x e s o) (plain-outcome cs) ∙ settled-alike s.constraint.kind a.0 (outcome cs) e s o in
    ap (λ (q : Out). foldl judge q (map plain_item is)) p ∙ judged-alike is (settle s.constraint.kind (outcome cs) e s o) a.1

-- IN A TREE: `ls` are the scopes that its elements lie in
pub two-acts-as-one : (ls : List Live) (f : Forest) (o : Out) → All OfNoKey (items ls f) → judge_all o (items ls (plain f)) ≡ judge_all o (items ls f)
two-acts-as-one ls f o a = ap (judge_all o) (plain-items ls f) ∙ judged-alike (items ls f) o a

-- ---- the tree of a list of events

plain-behind : (f g : Forest) → plain (f ⊕ g) ≡ plain f ⊕ plain g
unfolding plain ◌⊕◌
plain-behind empty g = refl
plain-behind (node n kids e rest) g = ap (λ (r : Forest). node n (plain kids) (plain_ended e) r) (plain-behind rest g)

unfoldable plain_zipper : Zipper → Zipper
plain_zipper (top f) = top (plain f)
plain_zipper (inside z n kids) = inside (plain_zipper z) n (plain kids)

plain-plugged : (z : Zipper) (g : Forest) → plug_with (plain_zipper z) (plain g) ≡ plain (plug_with z g)
unfolding plug_with plain_zipper plain plain_ended
plain-plugged (top f) g = sym (plain-behind f g)
plain-plugged (inside z n kids) g =
    ap (λ (f : Forest). plug_with (plain_zipper z) (node n f none empty)) (sym (plain-behind kids g))
    ∙ plain-plugged z (node n (kids ⊕ g) none empty)

plain-added : (z : Zipper) (g : Forest) → add (plain_zipper z) (plain g) ≡ plain_zipper (add z g)
unfolding add plain_zipper
plain-added (top f) g = ap top (sym (plain-behind f g))
plain-added (inside z n kids) g = ap (inside (plain_zipper z) n) (sym (plain-behind kids g))

abbrev plain_built : Built → Built
plain_built b = record { zipper = plain_zipper b.zipper; count = b.count; events = b.events }

plain-ended : (z : Zipper) (c k : ℕ) (e : End) → end_z (plain_zipper z) c k (plain_end e) ≡ plain_built (end_z z c k e)
unfolding end_z plain_zipper plain plain_ended
plain-ended (top f) c k e = refl
plain-ended (inside z n kids) c k e =
    ap (λ (y : Zipper). record { zipper = y; count = c; events = suc k }) (plain-added z (node n kids (some (record { event = suc k; close = e })) empty))

plain_step : (defs : ℕ → Defined) (b : Built) (x : Event) → step_b defs (plain_built b) (plain_event x) ≡ plain_built (step_b defs b x)
unfolding step_b plain_event
plain_step defs b (es s) = unfold start_b plain_zipper plain in refl
plain_step defs b (ee e) = unfold end_b in plain-ended b.zipper b.count b.events e

plain-build : (defs : ℕ → Defined) (b : Built) (xs : List Event) → build defs (plain_built b) (map plain_event xs) ≡ plain_built (build defs b xs)
unfolding build
plain-build defs b [] = refl
plain-build defs b (x ∷ xs) = ap (λ (a : Built). foldl (step_b defs) a (map plain_event xs)) (plain_step defs b x) ∙ plain-build defs (step_b defs b x) xs

plain-tree : (defs : ℕ → Defined) (k : ℕ) (xs : List Event) → tree defs k (map plain_event xs) ≡ plain (tree defs k xs)
unfolding tree plug plain_zipper plain
plain-tree defs k xs =
    ap (λ (b : Built). plug_with b.zipper empty) (plain-build defs (begun k) xs) ∙ plain-plugged (build defs (begun k) xs).zipper empty

-- OVER A DOCUMENT, event by event
pub two-is-one-in-runs : (defs : ℕ → Defined) (k : ℕ) (xs : List Event) → All OfNoKey (items [] (tree defs k xs))
    → judge_all blank (items [] (tree defs k (map plain_event xs))) ≡ judge_all blank (items [] (tree defs k xs))
two-is-one-in-runs defs k xs a = ap (λ (f : Forest). judge_all blank (items [] f)) (plain-tree defs k xs) ∙ two-acts-as-one [] (tree defs k xs) blank a
