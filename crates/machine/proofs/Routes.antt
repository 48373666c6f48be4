-- Where no two alternatives of a field reach the same node, its hits are those that each alternative gives by itself: by
-- recursion on the elements.
-- Assumes nothing.
use Prim.Native.Nat.{ℕ, ◌≤◌}
use native.Mathlib.Omega.{arith}
use borrow.Author.Tests.{leb-true}
use lib.Dec.{leb}
use lib.ListN.{length, replicate}
use mathlib.Core.Path.{◌≡◌, refl, ap, ap₂}
use mathlib.Core.Bool.{Bool, true, false, cond, ◌&&◌, ◌||◌}
use mathlib.Core.List.{List, [], ◌∷◌, ◌++◌, map, flat_map}
use mathlib.Core.Option.{Option, none, some}
use Rattle.std.proofs.lemmas.Bool.{and_parts}
use Rattle.lists.specs.Lists.{all, any, only_if, passing}
use Rattle.paths.specs.Names.{Name, Attribute}
use Rattle.paths.specs.Matching.{FieldAlt}
use Rattle.tree.specs.Events.{Constraint}
use Rattle.tree.specs.Cells.{Hit, simple, Cell, cell, reaches, routes, reach, attribute_hits, element_hit, element_hits}
use Rattle.tree.specs.Tree.{Element, Ended, Forest, empty, node, name, end_hits, hits, own_hits, cells_of}
use Rattle.tree.specs.Routes.{attribute_hits_by_routes, end_hits_by_routes, hits_by_routes, own_hits_by_routes, one_route_at, one_route, own_one_route}

-- ---- one node

once : {A : Type 0} (test : A → Bool) (xs : List A) → length (passing test xs) ≤ 1 → cond (any test xs) 1 0 ≡ length (passing test xs)
unfolding passing
once test [] h = refl
once {A} test (x ∷ xs) h = by (test x) (once test xs) h
  where
    by : (b : Bool) → (length (passing test xs) ≤ 1 → cond (any test xs) 1 0 ≡ length (passing test xs)) → length (only_if b (x ∷ []) ++ passing test xs) ≤ 1
        → cond (b || any test xs) 1 0 ≡ length (only_if b (x ∷ []) ++ passing test xs)
    by true ih h = unfold only_if in omega (arith, h)
    by false ih h = unfold only_if in ih h

pub reach-most : (alts : List FieldAlt) (below : List Name) (x : Option Attribute) → reach alts below x ≤ 1
unfolding reach
reach-most alts below x = by (any (reaches below x) alts)
  where
    by : (b : Bool) → cond b 1 0 ≤ 1
    by true = omega arith
    by false = omega arith

pub reach-as-before : (alts : List FieldAlt) (below : List Name) (x : Option Attribute) → routes alts below x ≤ 1 → reach alts below x ≡ routes alts below x
unfolding reach routes
reach-as-before alts below x h = once (reaches below x) alts h

-- ---- the hits of an element

attributes-as-before : (alts : List FieldAlt) (below : List Name) (xs : List Attribute) → all (λ x. leb (routes alts below (some x)) 1) xs ≡ true
    → attribute_hits alts below xs ≡ attribute_hits_by_routes alts below xs
unfolding attribute_hits attribute_hits_by_routes flat_map
attributes-as-before alts below [] h = refl
attributes-as-before alts below (x ∷ xs) h =
    let q = and_parts (leb (routes alts below (some x)) 1) (all (λ y. leb (routes alts below (some y)) 1) xs) h in
    ap₂ {C = List Hit}
    ◌++◌
    (ap (λ (n : ℕ). replicate n (simple x.key)) (reach-as-before alts below (some x) (leb-true (routes alts below (some x)) 1 q.0)))
    (attributes-as-before alts below xs q.1)

end-as-before : (alts : List FieldAlt) (here : List Name) (e : Option Ended) → leb (routes alts here none) 1 ≡ true → end_hits alts here e ≡ end_hits_by_routes alts here e
unfolding end_hits end_hits_by_routes element_hits
end-as-before alts here none h = refl
end-as-before alts here (some e) h =
    ap (λ (n : ℕ). replicate n (element_hit e.close)) (reach-as-before alts here none (leb-true (routes alts here none) 1 h))

-- ---- in a tree

pub hits-as-before : (alts : List FieldAlt) (above : List Name) (f : Forest) → one_route alts above f ≡ true → hits alts above f ≡ hits_by_routes alts above f
unfolding hits hits_by_routes one_route one_route_at
hits-as-before alts above empty h = refl
hits-as-before alts above (node n kids e rest) h =
    let here : List Name = above ++ (name n ∷ []) in
    let q = and_parts (one_route_at alts here n) (one_route alts here kids && one_route alts above rest) h in
    let p = and_parts (leb (routes alts here none) 1) (all (λ x. leb (routes alts here (some x)) 1) n.start.attributes) q.0 in
    let r = and_parts (one_route alts here kids) (one_route alts above rest) q.1 in
    ap₂ {C = List Hit}
    ◌++◌
    (attributes-as-before alts here n.start.attributes p.1)
    (ap₂ {C = List Hit}
    ◌++◌
    (hits-as-before alts here kids r.0)
    (ap₂ {C = List Hit} ◌++◌ (end-as-before alts here e p.0) (hits-as-before alts above rest r.1)))

-- and of a selected element
pub own-hits-as-before : (alts : List FieldAlt) (n : Element) (kids : Forest) (e : Option Ended) → own_one_route alts n kids ≡ true
    → own_hits alts n kids e ≡ own_hits_by_routes alts n kids e
unfolding own_hits own_hits_by_routes own_one_route one_route_at
own-hits-as-before alts n kids e h =
    let q = and_parts (one_route_at alts [] n) (one_route alts [] kids) h in
    let p = and_parts (leb (routes alts [] none) 1) (all (λ x. leb (routes alts [] (some x)) 1) n.start.attributes) q.0 in
    ap₂ {C = List Hit}
    ◌++◌
    (attributes-as-before alts [] n.start.attributes p.1)
    (ap₂ {C = List Hit} ◌++◌ (hits-as-before alts [] kids q.1) (end-as-before alts [] e p.0))

-- its cells, from which outcomes and both counts are made
pub cells-as-before : (c : Constraint) (n : Element) (kids : Forest) (e : Option Ended) → all (λ alts. own_one_route alts n kids) c.fields ≡ true
    → cells_of c n kids e ≡ map (λ alts. cell (own_hits_by_routes alts n kids e)) c.fields
unfolding cells_of
cells-as-before c n kids e h = by c.fields h
  where
    by : (fs : List (List FieldAlt)) → all (λ alts. own_one_route alts n kids) fs ≡ true
        → map (λ (alts : List FieldAlt). cell (own_hits alts n kids e)) fs ≡ map (λ (alts : List FieldAlt). cell (own_hits_by_routes alts n kids e)) fs
    by [] h = refl
    by (alts ∷ fs) h =
        let q = and_parts (own_one_route alts n kids) (all (λ a. own_one_route a n kids) fs) h in
        ap₂ {C = List Cell} ◌∷◌ (ap cell (own-hits-as-before alts n kids e q.0)) (by fs q.1)
