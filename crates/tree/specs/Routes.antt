-- A field's hits where each alternative counts by itself, as before request U5 and in the Rust; and where that makes no
-- difference: no two alternatives of the field reach the same node.
-- Assumes nothing.
use Rattle.std.specs.Prelude.{ℕ, leb, replicate, Bool, true, ◌&&◌}
use mathlib.Core.List.{List, [], ◌∷◌, ◌++◌, flat_map}
use Rattle.std.proofs.Math.Option.{Option, none, some}
use Rattle.lists.specs.Lists.{all}
use Rattle.paths.specs.Names.{Name, Attribute}
use Rattle.paths.specs.Matching.{FieldAlt}
use Rattle.tree.specs.Cells.{Hit, simple, element_hit, routes}
use Rattle.tree.specs.Tree.{Element, Ended, Forest, empty, node, name}

-- ---- a hit for each alternative that reaches a node

unfoldable pub attribute_hits_by_routes : List FieldAlt → List Name → List Attribute → List Hit
attribute_hits_by_routes alts below xs = flat_map (λ x. replicate (routes alts below (some x)) (simple x.key)) xs

unfoldable pub end_hits_by_routes : List FieldAlt → List Name → Option Ended → List Hit
end_hits_by_routes alts here none = []
end_hits_by_routes alts here (some e) = replicate (routes alts here none) (element_hit e.close)

-- in these elements and below them
unfoldable pub hits_by_routes : List FieldAlt → List Name → Forest → List Hit
hits_by_routes alts above empty = []
hits_by_routes alts above (node n kids e rest) =
    let here : List Name = above ++ (name n ∷ []) in
    attribute_hits_by_routes alts here n.start.attributes ++ (hits_by_routes alts here kids ++ (end_hits_by_routes alts here e ++ hits_by_routes alts above rest))

-- of a selected element: on itself and below it
unfoldable pub own_hits_by_routes : List FieldAlt → Element → Forest → Option Ended → List Hit
own_hits_by_routes alts n kids e = attribute_hits_by_routes alts [] n.start.attributes ++ (hits_by_routes alts [] kids ++ end_hits_by_routes alts [] e)

-- ---- no node is reached twice

-- the element that `here` leads to, and its attributes
unfoldable pub one_route_at : List FieldAlt → List Name → Element → Bool
one_route_at alts here n = leb (routes alts here none) 1 && all (λ x. leb (routes alts here (some x)) 1) n.start.attributes

-- these elements and those below them
unfoldable pub one_route : List FieldAlt → List Name → Forest → Bool
one_route alts above empty = true
one_route alts above (node n kids e rest) =
    let here : List Name = above ++ (name n ∷ []) in one_route_at alts here n && (one_route alts here kids && one_route alts above rest)

-- a selected element and those below it
unfoldable pub own_one_route : List FieldAlt → Element → Forest → Bool
own_one_route alts n kids = one_route_at alts [] n && one_route alts [] kids
