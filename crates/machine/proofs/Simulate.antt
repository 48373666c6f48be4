-- THE MACHINE COMPUTES THE TREE DEFINITION. Its state after any events is `state_of` the tree that they make: an equation for a start and one for an end,
-- field by field. What an event brings stands at the end of all hits and happenings (Grow), so a start is a feed of all selections, and an end a feed
-- after which the innermost element's selections and scopes, which alone have its depth, are told from the others by that depth.
-- Assumes nothing.
use Prim.Native.Nat.{ℕ, suc, ◌-◌, ◌<◌}
use native.Mathlib.Omega.{arith}
use lib.Dec.{eqb}
use lib.ListN.{length, take, drop}
use lib.Seq.{take-append_seam, drop-length}
use borrow.Author.Tests.{eq-eqb, ne_eqb}
use mathlib.Core.Path.{◌≡◌, refl, ap, ap₂, sym, ◌∙◌}
use mathlib.Core.Bool.{Bool, true, false, not}
use mathlib.Core.List.{List, [], ◌∷◌, ◌++◌, map, flat_map, map-append, map-map, append_assoc, append-nil}
use mathlib.Core.Option.{none, some}
use Rattle.std.proofs.lemmas.List.Sums.{fold-append}
use Rattle.lists.specs.Lists.{only_if, passing, foldl, All}
use Rattle.lists.proofs.Folds.{length-snoc, flat_map-then-map, flat_map-of-map, All-weaken, All-map, passing-left, passing-right}
use Rattle.paths.specs.Names.{Name}
use Rattle.tree.specs.Events.{Start, End, Event, es, ee, Constraint, Scope, Defined, openings, scopes_of, selects}
use Rattle.tree.specs.Cells.{Cell, Unset, cell}
use Rattle.tree.specs.Tree.{Element, Ended, Forest, empty, name, end_hits, hits, own_hits, cells_of, Item, finished, failures, finish, finishes, items}
use Rattle.tree.specs.Judge.{Out, blank, judge, judge_all, finish_out}
use Rattle.tree.specs.Build.{◌⊕◌, Zipper, top, inside, plug_with, plug, add, Built, start_b, end_z, end_b, step_b, build, begun, tree}
use Rattle.machine.specs.Machine.{OpenScope, Selection, State, initial, start_gives, end_gives, feed_cells, feed, pick_up, start_a, finished_item, end_open, end_if, end_a, step, run, finish_a}
use Rattle.machine.proofs.StateOf.{open_node, closed_node, path_to, way_to, scopes_at, lives_at, sel_at, sels_at, state_of}
use Rattle.machine.proofs.Grow.{⊕-empty, open-hits, end-hits, under, Grows, cells-feed, Above, ScopeAbove, own-depth, sels-above, at-depth, scopes-above, all-deeper, fed-if, sels-grow, open-items, end-items, items-grow, plug-add, path-add, scopes-add, sels-add, to_live, lives-are}

state-path : {a b : State} → a.names ≡ b.names → a.scopes ≡ b.scopes → a.selections ≡ b.selections → a.count ≡ b.count → a.events ≡ b.events
    → a.out ≡ b.out → a ≡ b
state-path p q r s t u = λ i. record { names = p i; scopes = q i; selections = r i; count = s i; events = t i; out = u i }

judge-append : (o : Out) (xs ys : List Item) → judge_all o (xs ++ ys) ≡ judge_all (judge_all o xs) ys
unfolding judge_all
judge-append o xs ys = fold-append judge o xs ys

-- ---- a start

-- an element with no children yet gives its attributes' hits
start-grows : (n : Element) → Grows empty (open_node n (empty ⊕ empty)) (under (name n) (start_gives n.start))
unfolding hits ◌⊕◌
start-grows n alts above = open-hits alts above n empty ∙ append-nil (start_gives n.start alts (above ++ (name n ∷ [])))

-- the cells of its own selections are blank ones fed with them
start-cells : (names : List Name) (n : Element) (c : Constraint)
    → cells_of c n (empty ⊕ empty) none ≡ feed_cells (λ alts. start_gives n.start alts (drop (length names) names)) c.fields (map (λ _. Unset) c.fields)
unfolding cells_of own_hits hits end_hits cell ◌⊕◌
start-cells names n c =
    rw (drop-length names)
    (cells-feed (λ alts. start_gives n.start alts []) (λ alts. []) (λ alts. own_hits alts n empty none) (λ alts. append-nil (start_gives n.start alts []))
    c.fields)

picked : (names : List Name) (n : Element) (o : OpenScope) → sel_at names n (empty ⊕ empty) o ≡ map (feed names (start_gives n.start)) (pick_up names o)
unfolding sel_at pick_up
picked names n o =
    fed-if (selects o.scope.constraint (drop o.depth names)) names _ o.scope _ _ (start-cells names n o.scope.constraint)

module _ (z : Zipper) (n : Element) where
  start-sels : map (feed (way_to z n) (start_gives n.start)) (sels_at z empty ++ flat_map (pick_up (way_to z n)) (scopes_at (inside z n empty)))
      ≡ sels_at (inside z n empty) empty
  unfolding sels_at path_to scopes_at
  start-sels =
      map-append (feed (way_to z n) (start_gives n.start)) (sels_at z empty) _
      ∙ sym (ap₂ {C = List Selection} ◌++◌
      (sels-grow z empty (open_node n (empty ⊕ empty)) (under (name n) (start_gives n.start)) (start-grows n)
      ∙ all-deeper (path_to z) (name n) (start_gives n.start) (sels_at z empty) (sels-above z empty))
      (flat_map-then-map (pick_up (way_to z n)) (feed (way_to z n) (start_gives n.start)) (sel_at (way_to z n) n (empty ⊕ empty)) (picked (way_to z n) n) _))

  pub start-items : items [] (plug_with (inside z n empty) empty) ≡ items [] (plug_with z empty) ++ failures n
  unfolding plug_with ◌⊕◌ items
  start-items = items-grow z empty (open_node n (empty ⊕ empty)) (failures n) (open-items (lives_at z) n empty ∙ append-nil (failures n))

  start-out : judge_all (judge_all blank (items [] (plug_with z empty))) (failures n) ≡ judge_all blank (items [] (plug_with (inside z n empty) empty))
  start-out = rw start-items (sym (judge-append blank (items [] (plug_with z empty)) (failures n)))

pub start-simulated : (defs : ℕ → Defined) (b : Built) (s : Start) → start_a defs (state_of b) s ≡ state_of (start_b defs b s)
unfolding start_a state_of start_b plug scopes_at path_to
start-simulated defs b s =
    let n : Element = record { event = suc b.events; start = s; openings = openings defs b.count s.numbers } in
    state-path refl refl (start-sels b.zipper n) refl refl (start-out b.zipper n)

-- ---- an end: the selections of the element that ends

abbrev ended : ℕ → End → Ended
ended event e = record { event = event; close = e }

end-cells : (names : List Name) (n : Element) (kids : Forest) (event : ℕ) (e : End) (c : Constraint)
    → cells_of c n kids (some (ended event e)) ≡ feed_cells (λ alts. end_gives e alts (drop (length names) names)) c.fields (cells_of c n kids none)
unfolding cells_of own_hits end_hits
end-cells names n kids event e c =
    rw (drop-length names)
    (cells-feed (λ alts. end_gives e alts []) (λ alts. own_hits alts n kids none) (λ alts. own_hits alts n kids (some (ended event e)))
    (λ alts. simp (append-nil, append_assoc)) c.fields)

item-if : (b : Bool) (names : List Name) (event : ℕ) (e : End) (sc : Scope) (cs ds : List Cell)
    → ds ≡ feed_cells (λ alts. end_gives e alts (drop (length names) names)) sc.constraint.fields cs
    → only_if b (finished event sc ds ∷ [])
    ≡ map (λ s. finished_item event (feed names (end_gives e) s)) (only_if b (record { scope = sc; depth = length names; cells = cs } ∷ []))
unfolding only_if feed finished_item
item-if true names event e sc cs ds h = rw h
item-if false names event e sc cs ds h = refl

-- what the tree definition says of them is what the machine makes of its selections
finish-is : (names : List Name) (n : Element) (kids : Forest) (event : ℕ) (e : End) (o : OpenScope)
    → finish n kids (ended event e) (to_live names o) ≡ map (λ s. finished_item event (feed names (end_gives e) s)) (sel_at names n kids o)
unfolding finish to_live sel_at
finish-is names n kids event e o =
    item-if (selects o.scope.constraint (drop o.depth names)) names event e o.scope _ _ (end-cells names n kids event e o.scope.constraint)

-- ---- an end: told apart by the depth

-- is the depth that of the innermost of these names?
abbrev innermost : List Name → ℕ → Bool
innermost names d = eqb d (length names)

outer-depth : (names : List Name) (x : Name) (d : ℕ) → d < length (names ++ (x ∷ [])) → innermost (names ++ (x ∷ [])) d ≡ false
outer-depth names x d h = ne_eqb d (length (names ++ (x ∷ []))) (λ e. omega arith)

module _ (z : Zipper) (n : Element) (kids : Forest) (event : ℕ) (e : End) where
  after-end : Zipper
  after-end = add z (closed_node n kids (ended event e))

  -- the selections of the elements above, and of this one, once they are fed
  staying : List Selection
  staying = sels_at z (closed_node n kids (ended event e))

  leaving : List Selection
  leaving = map (feed (way_to z n) (end_gives e)) (flat_map (sel_at (way_to z n) n kids) (scopes_at (inside z n kids)))

  end-fed : map (feed (way_to z n) (end_gives e)) (sels_at (inside z n kids) empty) ≡ staying ++ leaving
  unfolding staying leaving sels_at scopes_at
  end-fed =
      rw (⊕-empty kids)
      (map-append (feed (way_to z n) (end_gives e)) (sels_at z (open_node n kids)) _
      ∙ ap (λ (l : List Selection). l ++ leaving)
      (sym (sels-grow z (open_node n kids) (closed_node n kids (ended event e)) (under (name n) (end_gives e)) (λ alts above. end-hits alts above n kids (ended event e))
      ∙ all-deeper (path_to z) (name n) (end_gives e) (sels_at z (open_node n kids)) (sels-above z (open_node n kids)))))

  staying-outer : All (λ s. innermost (way_to z n) s.depth ≡ false) staying
  unfolding staying
  staying-outer =
      All-weaken (Above (path_to z)) _ (λ s h. outer-depth (path_to z) (name n) s.depth (omega (arith, length-snoc (path_to z) (name n))))
      (sels_at z (closed_node n kids (ended event e))) (sels-above z (closed_node n kids (ended event e)))

  leaving-inner : All (λ s. innermost (way_to z n) s.depth ≡ true) leaving
  unfolding leaving feed
  leaving-inner =
      All-map (λ s. innermost (way_to z n) s.depth ≡ true) (feed (way_to z n) (end_gives e)) (flat_map (sel_at (way_to z n) n kids) (scopes_at (inside z n kids)))
      (own-depth (λ s. innermost (way_to z n) s.depth ≡ true) (way_to z n) n kids (λ s h. eq-eqb s.depth (length (way_to z n)) h)
      (scopes_at (inside z n kids)))

  -- ---- field by field

  end-names : take (length (way_to z n) - 1) (way_to z n) ≡ path_to z
  end-names =
      let h : length (way_to z n) - 1 ≡ length (path_to z) = omega (arith, length-snoc (path_to z) (name n)) in
      rw h (take-append_seam (path_to z) (name n ∷ []))

  end-scopes : passing (λ o. not (innermost (way_to z n) o.depth)) (scopes_at (inside z n kids)) ≡ scopes_at z
  unfolding scopes_at
  end-scopes =
      passing-left (λ o. not (innermost (way_to z n) o.depth)) (scopes_at z) _
      (All-weaken (ScopeAbove (path_to z)) _ (λ o h. ap not (outer-depth (path_to z) (name n) o.depth (omega (arith, length-snoc (path_to z) (name n)))))
      (scopes_at z) (scopes-above z))
      (at-depth _ (length (way_to z n)) (λ o h. ap not (eq-eqb o.depth (length (way_to z n)) h)) (scopes_of n.openings))

  end-sels : passing (λ s. not (innermost (way_to z n) s.depth)) (map (feed (way_to z n) (end_gives e)) (sels_at (inside z n kids) empty)) ≡ staying
  end-sels =
      rw end-fed
      (passing-left (λ s. not (innermost (way_to z n) s.depth)) staying leaving
      (All-weaken (λ s. innermost (way_to z n) s.depth ≡ false) _ (λ s h. ap not h) staying staying-outer)
      (All-weaken (λ s. innermost (way_to z n) s.depth ≡ true) _ (λ s h. ap not h) leaving leaving-inner))

  sels-after : staying ≡ sels_at after-end empty
  unfolding staying after-end ◌⊕◌
  sels-after = sym (sels-add z (closed_node n kids (ended event e)) empty)

  end-leaving : passing (λ s. innermost (way_to z n) s.depth) (map (feed (way_to z n) (end_gives e)) (sels_at (inside z n kids) empty)) ≡ leaving
  end-leaving = rw end-fed (passing-right (λ s. innermost (way_to z n) s.depth) staying leaving staying-outer leaving-inner)

  leaving-items : finishes (lives_at (inside z n kids)) n kids (some (ended event e)) ≡ map (finished_item event) leaving
  unfolding finishes leaving path_to
  leaving-items =
      ap (flat_map (finish n kids (ended event e))) (lives-are (inside z n kids))
      ∙ flat_map-of-map (finish n kids (ended event e)) (to_live (way_to z n)) (scopes_at (inside z n kids))
      ∙ flat_map-then-map (sel_at (way_to z n) n kids) (λ s. finished_item event (feed (way_to z n) (end_gives e) s)) _ (finish-is (way_to z n) n kids event e)
      (scopes_at (inside z n kids))
      ∙ sym (map-map (finished_item event) (feed (way_to z n) (end_gives e)) (flat_map (sel_at (way_to z n) n kids) (scopes_at (inside z n kids))))

  end-items-are : items [] (plug_with after-end empty) ≡ items [] (plug_with (inside z n kids) empty) ++ map (finished_item event) leaving
  unfolding after-end plug_with ◌⊕◌ lives_at
  end-items-are =
      rw (plug-add z (closed_node n kids (ended event e)) empty, ⊕-empty kids, ← leaving-items)
      (items-grow z (open_node n kids) (closed_node n kids (ended event e)) (finishes (lives_at (inside z n kids)) n kids (some (ended event e)))
      (end-items (lives_at z) n kids (ended event e)))

  end-out : judge_all (judge_all blank (items [] (plug_with (inside z n kids) empty)))
      (map (finished_item event) (passing (λ s. innermost (way_to z n) s.depth) (map (feed (way_to z n) (end_gives e)) (sels_at (inside z n kids) empty))))
      ≡ judge_all blank (items [] (plug_with after-end empty))
  end-out =
      rw (end-leaving, end-items-are)
      (sym (judge-append blank (items [] (plug_with (inside z n kids) empty)) (map (finished_item event) leaving)))

-- some element is open
end-open : (names : List Name) (x : Name) (st : State) (e : End) → end_if (names ++ (x ∷ [])) st e ≡ end_open st e
unfolding end_if
end-open [] x st e = refl
end-open (y ∷ names) x st e = refl

end-at : (z : Zipper) (c k : ℕ) (e : End) → end_a (state_of (record { zipper = z; count = c; events = k })) e ≡ state_of (end_z z c k e)
unfolding end_a state_of end_z plug path_to end_open end_if after-end
end-at (top f) c k e = refl
end-at (inside z n kids) c k e =
    end-open (path_to z) (name n) (state_of (record { zipper = inside z n kids; count = c; events = k })) e
    ∙ state-path
    (end-names z n kids (suc k) e ∙ sym (path-add z (closed_node n kids (ended (suc k) e))))
    (end-scopes z n kids (suc k) e ∙ sym (scopes-add z (closed_node n kids (ended (suc k) e))))
    (end-sels z n kids (suc k) e ∙ sels-after z n kids (suc k) e)
    refl
    refl
    (end-out z n kids (suc k) e)

pub end-simulated : (b : Built) (e : End) → end_a (state_of b) e ≡ state_of (end_b b e)
unfolding end_b
end-simulated b e = end-at b.zipper b.count b.events e

-- ---- a run

pub run-simulated : (defs : ℕ → Defined) (b : Built) (xs : List Event) → run defs (state_of b) xs ≡ state_of (build defs b xs)
unfolding run build step step_b
run-simulated defs b [] = refl
run-simulated defs b (es s ∷ xs) = ap (λ st. run defs st xs) (start-simulated defs b s) ∙ run-simulated defs (start_b defs b s) xs
run-simulated defs b (ee e ∷ xs) = ap (λ st. run defs st xs) (end-simulated b e) ∙ run-simulated defs (end_b b e) xs

-- THE MAIN THEOREM. After any events the machine has put out what the tree definition says of the tree that they make.
pub streamed : (defs : ℕ → Defined) (k : ℕ) (xs : List Event) → (run defs (initial k) xs).out ≡ judge_all blank (items [] (tree defs k xs))
unfolding state_of tree plug plug_with path_to scopes_at sels_at ◌⊕◌ items judge_all
streamed defs k xs = ap (λ st. st.out) (run-simulated defs (begun k) xs)

-- its event number is that of the tree
pub streamed-events : (defs : ℕ → Defined) (k : ℕ) (xs : List Event) → (run defs (initial k) xs).events ≡ (build defs (begun k) xs).events
unfolding state_of plug plug_with path_to scopes_at sels_at ◌⊕◌ items judge_all
streamed-events defs k xs = ap (λ st. st.events) (run-simulated defs (begun k) xs)

-- and once FI has been read
pub streamed-finished : (defs : ℕ → Defined) (k : ℕ) (xs : List Event)
    → (finish_a (run defs (initial k) xs)).out ≡ finish_out (suc (run defs (initial k) xs).events) (judge_all blank (items [] (tree defs k xs)))
unfolding finish_a
streamed-finished defs k xs = ap (finish_out (suc (run defs (initial k) xs).events)) (streamed defs k xs)
