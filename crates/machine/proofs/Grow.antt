-- What an event adds to the tree comes at the end: of the hits of every open selection, and of the happenings. An open element stands last among its
-- siblings, so one hypothesis on the innermost element's children, how their hits or happenings grow, is carried outwards through all open elements.
-- Assumes nothing.
use Prim.Native.Nat.{ℕ, ◌≤◌}
use native.Mathlib.Omega.{arith}
use lib.ListN.{length, drop}
use lib.Seq.{drop-append-le, drop-length}
use mathlib.Core.Path.{◌≡◌, refl, ap, ap₂, sym, ◌∙◌}
use mathlib.Core.Bool.{Bool, true, false}
use mathlib.Core.List.{List, [], ◌∷◌, ◌++◌, map, flat_map, zip_with, map-append, map-map, append_assoc, append-nil}
use mathlib.Core.Option.{none, some}
use Rattle.lists.specs.Lists.{only_if, All}
use Rattle.lists.proofs.Folds.{length-snoc, flat_map-then-map, All-append, All-weaken, All-only_if, map-alike}
use Rattle.paths.specs.Names.{Name}
use Rattle.paths.specs.Matching.{FieldAlt}
use Rattle.tree.specs.Events.{Constraint, Scope, scopes_of, selects}
use Rattle.tree.specs.Cells.{Hit, Cell, cell}
use Rattle.tree.specs.Tree.{Element, Ended, Forest, empty, node, name, end_hits, hits, own_hits, cells_of, Item, Live, deeper, fresh, enter, failures, finishes, items}
use Rattle.tree.specs.Build.{◌⊕◌, Zipper, top, inside, plug_with, add}
use Rattle.machine.specs.Machine.{OpenScope, Selection, at, Giving, start_gives, end_gives, feed_cells, feed}
use Rattle.machine.proofs.Cells.{cell-hits}
use Rattle.machine.proofs.StateOf.{open_node, closed_node, path_to, way_to, scopes_at, lives_at, sel_at, sels_at}

-- ---- forests behind forests

pub ⊕-empty : (f : Forest) → f ⊕ empty ≡ f
unfolding ◌⊕◌
⊕-empty empty = refl
⊕-empty (node n kids e rest) = ap (node n kids e) (⊕-empty rest)

pub ⊕-assoc : (f g h : Forest) → (f ⊕ g) ⊕ h ≡ f ⊕ (g ⊕ h)
unfolding ◌⊕◌
⊕-assoc empty g h = refl
⊕-assoc (node n kids e rest) g h = ap (node n kids e) (⊕-assoc rest g h)

-- four parts of an element, and what stands behind it
regroup : {A : Type 0} (a k c r g : List A) → a ++ (k ++ (c ++ (r ++ g))) ≡ a ++ (k ++ (c ++ r)) ++ g
regroup a k c r g = simp append_assoc

-- ---- hits

pub hits-append : (alts : List FieldAlt) (above : List Name) (f g : Forest) → hits alts above (f ⊕ g) ≡ hits alts above f ++ hits alts above g
unfolding hits ◌⊕◌
hits-append alts above empty g = refl
hits-append alts above (node n kids e rest) g =
    let here : List Name = above ++ (name n ∷ []) in
    let start : List Hit = start_gives n.start alts here in
    ap (λ (l : List Hit). start ++ (hits alts here kids ++ (end_hits alts here e ++ l))) (hits-append alts above rest g)
    ∙ regroup start (hits alts here kids) (end_hits alts here e) (hits alts above rest) (hits alts above g)

-- an open element gives its start's hits and its children's; once it has ended, its end's come behind them
pub open-hits : (alts : List FieldAlt) (above : List Name) (n : Element) (f : Forest)
    → hits alts above (open_node n f) ≡ start_gives n.start alts (above ++ (name n ∷ [])) ++ hits alts (above ++ (name n ∷ [])) f
unfolding hits end_hits
open-hits alts above n f = simp append-nil

pub end-hits : (alts : List FieldAlt) (above : List Name) (n : Element) (f : Forest) (e : Ended)
    → hits alts above (closed_node n f e) ≡ hits alts above (open_node n f) ++ end_gives e.close alts (above ++ (name n ∷ []))
unfolding hits end_hits
end-hits alts above n f e = simp (append-nil, append_assoc)

-- what is given one step further down, at `x`
abbrev pub under : Name → Giving → Giving
under x give alts above = give alts (above ++ (x ∷ []))

-- `h` has the hits of `g`, and behind them those that `give` has for the way to their parent
abbrev pub Grows : Forest → Forest → Giving → Type 0
Grows g h give = (alts : List FieldAlt) (above : List Name) → hits alts above h ≡ hits alts above g ++ give alts above

-- so an open element grows with its children
module _ (n : Element) (kids g h : Forest) (give : Giving) (grows : Grows g h give) where
  kids-grow : Grows (kids ⊕ g) (kids ⊕ h) give
  kids-grow alts above =
      rw (hits-append alts above kids h, hits-append alts above kids g, grows alts above)
      (sym (append_assoc (hits alts above kids) (hits alts above g) (give alts above)))

  pub inside-grows : Grows (open_node n (kids ⊕ g)) (open_node n (kids ⊕ h)) (under (name n) give)
  inside-grows alts above =
      let here : List Name = above ++ (name n ∷ []) in
      rw (open-hits alts above n (kids ⊕ h), open-hits alts above n (kids ⊕ g), kids-grow alts here)
      (sym (append_assoc (start_gives n.start alts here) (hits alts here (kids ⊕ g)) (give alts here)))

  -- the hits of its own selections
  pub own-grows : (alts : List FieldAlt) → own_hits alts n (kids ⊕ h) none ≡ own_hits alts n (kids ⊕ g) none ++ give alts []
  unfolding own_hits end_hits
  own-grows alts = rw (kids-grow alts []) (simp (append-nil, append_assoc))

-- ---- cells

-- the fields' hits `more` are those of `less` and then what `give` has
pub cells-feed : (give less more : List FieldAlt → List Hit) → ((alts : List FieldAlt) → more alts ≡ less alts ++ give alts)
    → (fs : List (List FieldAlt)) → map (λ alts. cell (more alts)) fs ≡ feed_cells give fs (map (λ alts. cell (less alts)) fs)
unfolding feed_cells zip_with
cells-feed give less more h [] = refl
cells-feed give less more h (alts ∷ fs) =
    ap₂ {C = List Cell} ◌∷◌ (ap cell (h alts) ∙ cell-hits (less alts) (give alts)) (cells-feed give less more h fs)

-- ---- depths

-- at or above the innermost of `names`
abbrev pub Above : List Name → Selection → Type 0
Above names s = s.depth ≤ length names

abbrev pub ScopeAbove : List Name → OpenScope → Type 0
ScopeAbove names o = o.depth ≤ length names

-- the selections of an element have its depth
pub own-depth : (p : Selection → Type 0) (names : List Name) (n : Element) (f : Forest) → ((s : Selection) → s.depth ≡ length names → p s)
    → (os : List OpenScope) → All p (flat_map (sel_at names n f) os)
unfolding flat_map sel_at
own-depth p names n f h [] = tt
own-depth p names n f h (o ∷ os) =
    All-append p (sel_at names n f o) (flat_map (sel_at names n f) os)
    (All-only_if p (selects o.scope.constraint (drop o.depth names)) _ (h _ refl))
    (own-depth p names n f h os)

pub sels-above : (z : Zipper) (g : Forest) → All (Above (path_to z)) (sels_at z g)
unfolding sels_at path_to
sels-above (top f) g = tt
sels-above (inside z n kids) g =
    let outer : List Selection = sels_at z (open_node n (kids ⊕ g)) in
    All-append (Above (way_to z n)) outer _
    (All-weaken (Above (path_to z)) (Above (way_to z n)) (λ s h. omega (arith, length-snoc (path_to z) (name n))) outer
    (sels-above z (open_node n (kids ⊕ g))))
    (own-depth (Above (way_to z n)) (way_to z n) n (kids ⊕ g) (λ s h. omega arith) _)

pub at-depth : (p : OpenScope → Type 0) (d : ℕ) → ((o : OpenScope) → o.depth ≡ d → p o) → (ss : List Scope) → All p (map (at d) ss)
unfolding at
at-depth p d h [] = tt
at-depth p d h (s ∷ ss) = (h (at d s) refl, at-depth p d h ss)

pub scopes-above : (z : Zipper) → All (ScopeAbove (path_to z)) (scopes_at z)
unfolding scopes_at path_to
scopes-above (top f) = tt
scopes-above (inside z n kids) =
    All-append (ScopeAbove (way_to z n)) (scopes_at z) _
    (All-weaken (ScopeAbove (path_to z)) (ScopeAbove (way_to z n)) (λ o h. omega (arith, length-snoc (path_to z) (name n))) (scopes_at z)
    (scopes-above z))
    (at-depth (ScopeAbove (way_to z n)) _ (λ o h. omega arith) (scopes_of n.openings))

-- ---- selections

-- a selection at or above `names` is fed one step further down
feed-deeper : (names : List Name) (x : Name) (give : Giving) (s : Selection) → Above names s → feed names (under x give) s ≡ feed (names ++ (x ∷ [])) give s
unfolding feed
feed-deeper names x give s h = rw (drop-append-le s.depth names (x ∷ []) h)

pub all-deeper : (names : List Name) (x : Name) (give : Giving) (ss : List Selection) → All (Above names) ss
    → map (feed names (under x give)) ss ≡ map (feed (names ++ (x ∷ [])) give) ss
all-deeper names x give ss a = map-alike (Above names) _ _ (feed-deeper names x give) ss a

-- the selection of the innermost element itself: no name leads to it
fed-cells : (names : List Name) (n : Element) (f g : Forest) (give : Giving)
    → ((alts : List FieldAlt) → own_hits alts n f none ≡ own_hits alts n g none ++ give alts []) → (c : Constraint)
    → cells_of c n f none ≡ feed_cells (λ alts. give alts (drop (length names) names)) c.fields (cells_of c n g none)
unfolding cells_of
fed-cells names n f g give h c =
    rw (drop-length names) (cells-feed (λ alts. give alts []) (λ alts. own_hits alts n g none) (λ alts. own_hits alts n f none) h c.fields)

pub fed-if : (b : Bool) (names : List Name) (give : Giving) (sc : Scope) (cs ds : List Cell)
    → ds ≡ feed_cells (λ alts. give alts (drop (length names) names)) sc.constraint.fields cs
    → only_if b (record { scope = sc; depth = length names; cells = ds } ∷ [])
    ≡ map (feed names give) (only_if b (record { scope = sc; depth = length names; cells = cs } ∷ []))
unfolding only_if feed
fed-if true names give sc cs ds h = rw h
fed-if false names give sc cs ds h = refl

sel-feed : (names : List Name) (n : Element) (f g : Forest) (give : Giving)
    → ((alts : List FieldAlt) → own_hits alts n f none ≡ own_hits alts n g none ++ give alts []) → (o : OpenScope)
    → sel_at names n f o ≡ map (feed names give) (sel_at names n g o)
unfolding sel_at
sel-feed names n f g give h o =
    let c : Constraint = o.scope.constraint in
    fed-if (selects c (drop o.depth names)) names give o.scope (cells_of c n g none) (cells_of c n f none) (fed-cells names n f g give h c)

-- THE APPEND LEMMA. Where `h` has `give`'s hits behind those of `g`, every open selection is fed them.
pub sels-grow : (z : Zipper) (g h : Forest) (give : Giving) → Grows g h give → sels_at z h ≡ map (feed (path_to z) give) (sels_at z g)
unfolding sels_at path_to
sels-grow (top f) g h give grows = refl
sels-grow (inside z n kids) g h give grows =
    let outer : List Selection = sels_at z (open_node n (kids ⊕ g)) in
    ap₂ {C = List Selection} ◌++◌
    (sels-grow z (open_node n (kids ⊕ g)) (open_node n (kids ⊕ h)) (under (name n) give) (inside-grows n kids g h give grows)
    ∙ all-deeper (path_to z) (name n) give outer (sels-above z (open_node n (kids ⊕ g))))
    (flat_map-then-map (sel_at (way_to z n) n (kids ⊕ g)) (feed (way_to z n) give) (sel_at (way_to z n) n (kids ⊕ h))
    (sel-feed (way_to z n) n (kids ⊕ h) (kids ⊕ g) give (own-grows n kids g h give grows)) _)
    ∙ sym (map-append (feed (way_to z n) give) outer _)

-- ---- happenings

pub items-append : (ls : List Live) (f g : Forest) → items ls (f ⊕ g) ≡ items ls f ++ items ls g
unfolding items ◌⊕◌
items-append ls empty g = refl
items-append ls (node n kids e rest) g =
    ap (λ (l : List Item). failures n ++ (items (enter n ls) kids ++ (finishes (enter n ls) n kids e ++ l))) (items-append ls rest g)
    ∙ regroup (failures n) (items (enter n ls) kids) (finishes (enter n ls) n kids e) (items ls rest) (items ls g)

pub open-items : (ls : List Live) (n : Element) (f : Forest) → items ls (open_node n f) ≡ failures n ++ items (enter n ls) f
unfolding items finishes
open-items ls n f = simp append-nil

pub end-items : (ls : List Live) (n : Element) (f : Forest) (e : Ended)
    → items ls (closed_node n f e) ≡ items ls (open_node n f) ++ finishes (enter n ls) n f (some e)
unfolding items finishes
end-items ls n f e = simp (append-nil, append_assoc)

-- what happens more in the innermost element's children happens at the end
pub items-grow : (z : Zipper) (g h : Forest) (more : List Item) → items (lives_at z) h ≡ items (lives_at z) g ++ more
    → items [] (plug_with z h) ≡ items [] (plug_with z g) ++ more
unfolding plug_with lives_at
items-grow (top f) g h more e = rw (items-append [] f h, items-append [] f g, e) (sym (append_assoc (items [] f) (items [] g) more))
items-grow (inside z n kids) g h more e =
    let here : List Live = enter n (lives_at z) in
    items-grow z (open_node n (kids ⊕ g)) (open_node n (kids ⊕ h)) more
    (rw (open-items (lives_at z) n (kids ⊕ h), open-items (lives_at z) n (kids ⊕ g), items-append here kids h, items-append here kids g, e)
    (simp append_assoc))

-- ---- an element that has ended goes to its parent's children

pub plug-add : (z : Zipper) (h g : Forest) → plug_with (add z h) g ≡ plug_with z (h ⊕ g)
unfolding plug_with add
plug-add (top f) h g = ⊕-assoc f h g
plug-add (inside z n kids) h g = ap (λ (f : Forest). plug_with z (open_node n f)) (⊕-assoc kids h g)

pub path-add : (z : Zipper) (h : Forest) → path_to (add z h) ≡ path_to z
unfolding path_to add
path-add (top f) h = refl
path-add (inside z n kids) h = refl

pub scopes-add : (z : Zipper) (h : Forest) → scopes_at (add z h) ≡ scopes_at z
unfolding scopes_at add
scopes-add (top f) h = refl
scopes-add (inside z n kids) h = refl

pub sels-add : (z : Zipper) (h g : Forest) → sels_at (add z h) g ≡ sels_at z (h ⊕ g)
unfolding sels_at add
sels-add (top f) h g = refl
sels-add (inside z n kids) h g = rw (⊕-assoc kids h g)

-- ---- the open scopes are the scopes that the tree definition hands down

unfoldable pub to_live : List Name → OpenScope → Live
to_live names o = record { scope = o.scope; below = drop o.depth names }

live-deeper : (names : List Name) (x : Name) (o : OpenScope) → ScopeAbove names o → deeper x (to_live names o) ≡ to_live (names ++ (x ∷ [])) o
unfolding deeper to_live
live-deeper names x o h = rw (drop-append-le o.depth names (x ∷ []) h)

live-fresh : (names : List Name) (ss : List Scope) → map fresh ss ≡ map (to_live names) (map (at (length names)) ss)
unfolding fresh to_live at
live-fresh names [] = refl
live-fresh names (s ∷ ss) = ap₂ {C = List Live} ◌∷◌ (rw (drop-length names)) (live-fresh names ss)

pub lives-are : (z : Zipper) → lives_at z ≡ map (to_live (path_to z)) (scopes_at z)
unfolding lives_at path_to scopes_at enter
lives-are (top f) = refl
lives-are (inside z n kids) =
    ap₂ {C = List Live} ◌++◌
    (ap (map (deeper (name n))) (lives-are z)
    ∙ map-map (deeper (name n)) (to_live (path_to z)) (scopes_at z)
    ∙ map-alike (ScopeAbove (path_to z)) _ _ (live-deeper (path_to z) (name n)) (scopes_at z) (scopes-above z))
    (live-fresh (way_to z n) (scopes_of n.openings))
    ∙ sym (map-append (to_live (way_to z n)) (scopes_at z) _)
