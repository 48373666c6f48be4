-- What is reached in the tree grows by what the machine finishes, event by event: the selections of the innermost element, which alone have its depth, are
-- those that its scopes make of it, whatever their cells hold.
-- Assumes nothing.
use Prim.Native.Nat.{ℕ, suc, ◌+◌, ◌<◌}
use native.Mathlib.Nat.{add-zero}
use native.Mathlib.Omega.{arith}
use borrow.Author.Tests.{eq-eqb, ne_eqb}
use lib.Dec.{eqb}
use lib.ListN.{length, drop, length-map}
use mathlib.Core.Path.{◌≡◌, refl, ap, ap₂, sym, ◌∙◌}
use mathlib.Core.Bool.{Bool, true, false}
use mathlib.Core.List.{List, [], ◌∷◌, ◌++◌, map, flat_map, map-append}
use mathlib.Core.Option.{none, some}
use Rattle.lists.specs.Lists.{only_if, passing}
use Rattle.lists.proofs.Folds.{passing-right, length-snoc, flat_map-of-map, All-weaken, count-append}
use Rattle.paths.specs.Names.{Name}
use Rattle.tree.specs.Events.{Start, End, Event, es, ee, Scope, Opening, opens, fails, Defined, openings, selects}
use Rattle.tree.specs.Cells.{Cell}
use Rattle.tree.specs.Tree.{Element, Ended, Forest, empty, name, Item, failed, finished, failed_item, failures, finish, finishes, items}
use Rattle.tree.specs.Build.{◌⊕◌, Zipper, top, inside, plug_with, plug, add, Built, start_b, end_z, end_b, step_b}
use Rattle.machine.specs.Machine.{OpenScope, Selection}
use Rattle.machine.proofs.StateOf.{open_node, closed_node, path_to, way_to, scopes_at, lives_at, sel_at, sels_at, state_of}
use Rattle.machine.proofs.Grow.{⊕-empty, Above, own-depth, sels-above, end-items, items-grow, plug-add, to_live, lives-are}
use Rattle.totals.specs.Counts.{finished_for, reached, times, finishing}
use Rattle.machine.proofs.Simulate.{start-items}

-- beside the law of the other `times`, of machine: each is `count-append` unfolded, and cited unfolded it is no plainer
pub times-append : (n : ℕ) (xs ys : List ℕ) → times n (xs ++ ys) ≡ times n xs + times n ys
unfolding times
times-append n xs ys = count-append (λ m. eqb m n) xs ys

reached-append : (k : ℕ) (xs ys : List Item) → reached k (xs ++ ys) ≡ reached k xs + reached k ys
unfolding reached
reached-append k xs ys = count-append (finished_for k) xs ys

-- ---- a start: constraints that do not read finish nothing

failures-none : (k e : ℕ) (os : List Opening) → passing (finished_for k) (flat_map (failed_item e) os) ≡ []
unfolding passing flat_map failed_item finished_for only_if
failures-none k e [] = refl
failures-none k e (opens s ∷ os) = failures-none k e os
failures-none k e (fails c t ∷ os) = failures-none k e os

start-reached : (k : ℕ) (defs : ℕ → Defined) (b : Built) (s : Start) → reached k (items [] (plug (start_b defs b s).zipper)) ≡ reached k (items [] (plug b.zipper)) + times k (finishing (state_of b) (es s))
unfolding start_b plug finishing times passing failures
start-reached k defs b s =
    let n : Element = record { event = suc b.events; start = s; openings = openings defs b.count s.numbers } in
    ap (reached k) (start-items b.zipper n)
    ∙ reached-append k (items [] (plug_with b.zipper empty)) _
    ∙ ap (λ (m : ℕ). reached k (items [] (plug_with b.zipper empty)) + m) (unfold reached in ap length (failures-none k (suc b.events) n.openings))

-- ---- an end

abbrev number : Selection → ℕ
number x = x.scope.constraint.number

-- a scope selects the element in the tree where the machine has a selection of it
one-reached : (k : ℕ) (b : Bool) (e d : ℕ) (sc : Scope) (cs ds : List Cell)
    → reached k (only_if b (finished e sc cs ∷ [])) ≡ times k (map number (only_if b (record { scope = sc; depth = d; cells = ds } ∷ [])))
unfolding reached times only_if passing finished_for
one-reached k false e d sc cs ds = refl
one-reached k true e d sc cs ds = by (eqb sc.constraint.number k)
  where
    by : (b : Bool) → length {A = Item} (only_if b (finished e sc cs ∷ []) ++ []) ≡ length {A = ℕ} (only_if b (sc.constraint.number ∷ []) ++ [])
    by true = refl
    by false = refl

all-reached : (k : ℕ) (names : List Name) (n : Element) (kids : Forest) (e : Ended) (os : List OpenScope)
    → reached k (flat_map (finish n kids e) (map (to_live names) os)) ≡ times k (map number (flat_map (sel_at names n kids) os))
unfolding flat_map finish to_live sel_at
all-reached k names n kids e [] = unfold reached times passing in refl
all-reached k names n kids e (o ∷ os) =
    reached-append k (finish n kids e (to_live names o)) (flat_map (finish n kids e) (map (to_live names) os))
    ∙ ap₂ {C = ℕ} ◌+◌ (one-reached k (selects o.scope.constraint (drop o.depth names)) e.event (length names) o.scope _ _) (all-reached k names n kids e os)
    ∙ sym (ap (times k) (map-append number (sel_at names n kids o) (flat_map (sel_at names n kids) os)) ∙ times-append k (map number (sel_at names n kids o)) (map number (flat_map (sel_at names n kids) os)))

module _ (z : Zipper) (n : Element) (kids : Forest) where
  abbrev innermost : Selection → Bool
  innermost x = eqb x.depth (length (way_to z n))

  -- the machine's selections of that depth
  own-selections : passing innermost (sels_at (inside z n kids) empty) ≡ flat_map (sel_at (way_to z n) n kids) (scopes_at (inside z n kids))
  unfolding sels_at scopes_at
  own-selections =
      rw (⊕-empty kids)
      (passing-right innermost (sels_at z (open_node n kids)) _
      (All-weaken (Above (path_to z)) _ (λ s h. ne_eqb s.depth (length (way_to z n)) (λ e. omega (arith, h, e, length-snoc (path_to z) (name n))))
      (sels_at z (open_node n kids)) (sels-above z (open_node n kids)))
      (own-depth (λ s. innermost s ≡ true) (way_to z n) n kids (λ s h. eq-eqb s.depth (length (way_to z n)) h) _))

  module _ (e : Ended) where
    end-items-are : items [] (plug_with (add z (closed_node n kids e)) empty) ≡ items [] (plug_with (inside z n kids) empty) ++ finishes (lives_at (inside z n kids)) n kids (some e)
    unfolding plug_with ◌⊕◌ lives_at
    end-items-are =
        rw (plug-add z (closed_node n kids e) empty, ⊕-empty kids)
        (items-grow z (open_node n kids) (closed_node n kids e) (finishes (lives_at (inside z n kids)) n kids (some e)) (end-items (lives_at z) n kids e))

    finishes-reached : (k : ℕ) → reached k (finishes (lives_at (inside z n kids)) n kids (some e)) ≡ times k (map number (passing innermost (sels_at (inside z n kids) empty)))
    unfolding finishes path_to
    finishes-reached k =
        ap (λ ls. reached k (flat_map (finish n kids e) ls)) (lives-are (inside z n kids))
        ∙ all-reached k (way_to z n) n kids e (scopes_at (inside z n kids))
        ∙ ap (λ (xs : List Selection). times k (map number xs)) (sym own-selections)

end-reached : (k : ℕ) (z : Zipper) (c j : ℕ) (e : End) → reached k (items [] (plug (end_z z c j e).zipper)) ≡ reached k (items [] (plug z)) + times k (finishing (state_of (record { zipper = z; count = c; events = j })) (ee e))
unfolding end_z plug finishing state_of path_to
end-reached k (top f) c j e = unfold sels_at times passing in (sym (add-zero (reached k (items [] (plug_with (top f) empty)))))
end-reached k (inside z n kids) c j e =
    ap (reached k) (end-items-are z n kids (record { event = suc j; close = e }))
    ∙ reached-append k (items [] (plug_with (inside z n kids) empty)) _
    ∙ ap (λ (m : ℕ). reached k (items [] (plug_with (inside z n kids) empty)) + m) (finishes-reached z n kids (record { event = suc j; close = e }) k)

-- ONE EVENT MORE
pub event-reached : (k : ℕ) (defs : ℕ → Defined) (b : Built) (x : Event) → reached k (items [] (plug (step_b defs b x).zipper)) ≡ reached k (items [] (plug b.zipper)) + times k (finishing (state_of b) x)
unfolding step_b end_b
event-reached k defs b (es s) = start-reached k defs b s
event-reached k defs b (ee e) = end-reached k b.zipper b.count b.events e
