-- What holds of every tree that events make: in document order its scope numbers are 1, 2, 3 .., and below an element that has ended every element has.
-- Both are kept by each event: a start puts its own numbers at the end of the document, and an end closes an element whose children have all ended.
-- Assumes nothing.
use Prim.Native.Nat.{ℕ, zero, suc, ◌+◌, ◌≤◌}
use native.Mathlib.Nat.{add-zero, zero-add}
use native.Mathlib.Omega.{arith}
use lib.Dec.{eqb}
use lib.ListN.{length}
use borrow.Author.Tests.{eqb-true}
use mathlib.Core.Path.{◌≡◌, refl, ap, sym, ◌∙◌}
use mathlib.Core.Bool.{Bool, true, false}
use mathlib.Core.List.{List, [], ◌∷◌, ◌++◌, flat_map, append_assoc, append-nil}
use mathlib.Core.Option.{Option, none, some}
use Rattle.lists.specs.Lists.{only_if, passing, foldl}
use Rattle.lists.proofs.Folds.{count-append}
use Rattle.tree.specs.Events.{Start, End, Event, es, ee, Scope, Defined, reads, unread, opening, openings, opened, after, scope_of, scopes_of}
use Rattle.tree.specs.Tree.{Element, Ended, Forest, empty, node}
use Rattle.tree.specs.Build.{◌⊕◌, Zipper, top, inside, plug_with, plug, add, Built, start_b, end_z, end_b, step_b, build, begun, tree}
use Rattle.tree.specs.Counts.{numbers_of, scope_numbers, counting_from}
use Rattle.machine.proofs.StateOf.{open_node, closed_node}
use Rattle.machine.proofs.Grow.{⊕-empty, plug-add}

-- ---- counting on

counting-snoc : (n count : ℕ) → counting_from n count ++ (suc (n + count) ∷ []) ≡ counting_from n (suc count)
unfolding counting_from
counting-snoc n zero = rw (add-zero n)
counting-snoc n (suc count) =
    let e : n + suc count ≡ suc n + count = omega arith in
    rw e (ap (λ (l : List ℕ). suc n ∷ l) (counting-snoc (suc n) count))

numbers-append : (ss ts : List Scope) → numbers_of (ss ++ ts) ≡ numbers_of ss ++ numbers_of ts
unfolding numbers_of
numbers-append [] ts = refl
numbers-append (s ∷ ss) ts = ap (λ (l : List ℕ). s.number ∷ l) (numbers-append ss ts)

-- one listed constraint, where n scopes have been opened before
opening-counts : (d : Defined) (i n : ℕ) → counting_from 0 n ++ numbers_of (scope_of (opening d i n)) ≡ counting_from 0 (after d n)
unfolding opening after scope_of numbers_of
opening-counts (reads c) i n = rw (zero-add n) at (counting-snoc 0 n)
opening-counts (unread t) i n = append-nil (counting_from 0 n)

-- all that an ES lists
openings-count : (defs : ℕ → Defined) (n : ℕ) (is : List ℕ)
    → counting_from 0 n ++ numbers_of (scopes_of (openings defs n is)) ≡ counting_from 0 (opened defs n is)
unfolding openings opened scopes_of flat_map numbers_of
openings-count defs n [] = append-nil (counting_from 0 n)
openings-count defs n (i ∷ is) =
    let rest = flat_map scope_of (openings defs (after (defs i) n) is) in
    ap (λ (l : List ℕ). counting_from 0 n ++ l) (numbers-append (scope_of (opening (defs i) i n)) rest)
    ∙ sym (append_assoc (counting_from 0 n) (numbers_of (scope_of (opening (defs i) i n))) (numbers_of rest))
    ∙ ap (λ (l : List ℕ). l ++ numbers_of rest) (opening-counts (defs i) i n)
    ∙ openings-count defs (after (defs i) n) is

-- ---- the numbers of a tree

abbrev own_numbers : Element → List ℕ
own_numbers n = numbers_of (scopes_of n.openings)

forest-numbers : (f g : Forest) → scope_numbers (f ⊕ g) ≡ scope_numbers f ++ scope_numbers g
unfolding scope_numbers ◌⊕◌
forest-numbers empty g = refl
forest-numbers (node n kids e rest) g =
    ap (λ (l : List ℕ). own_numbers n ++ (scope_numbers kids ++ l)) (forest-numbers rest g) ∙ simp append_assoc

node-numbers : (n : Element) (f : Forest) (e : Option Ended) → scope_numbers (node n f e empty) ≡ own_numbers n ++ scope_numbers f
unfolding scope_numbers
node-numbers n f e = simp append-nil

-- what the innermost open element's children have more comes at the end
numbers-grow : (z : Zipper) (g h : Forest) (more : List ℕ) → scope_numbers h ≡ scope_numbers g ++ more
    → scope_numbers (plug_with z h) ≡ scope_numbers (plug_with z g) ++ more
unfolding plug_with
numbers-grow (top f) g h more e =
    rw (forest-numbers f h, forest-numbers f g, e) (sym (append_assoc (scope_numbers f) (scope_numbers g) more))
numbers-grow (inside z n kids) g h more e =
    numbers-grow z (open_node n (kids ⊕ g)) (open_node n (kids ⊕ h)) more
    (rw (node-numbers n (kids ⊕ h) none, node-numbers n (kids ⊕ g) none, forest-numbers kids h, forest-numbers kids g, e) (simp append_assoc))

start-numbers : (z : Zipper) (n : Element) → scope_numbers (plug_with z (open_node n (empty ⊕ empty))) ≡ scope_numbers (plug_with z empty) ++ own_numbers n
unfolding scope_numbers ◌⊕◌
start-numbers z n = numbers-grow z empty (open_node n (empty ⊕ empty)) (own_numbers n) (append-nil (own_numbers n))

end-numbers : (z : Zipper) (n : Element) (kids : Forest) (e : Ended)
    → scope_numbers (plug_with (add z (closed_node n kids e)) empty) ≡ scope_numbers (plug_with z (open_node n (kids ⊕ empty)))
unfolding ◌⊕◌
end-numbers z n kids e =
    rw (plug-add z (closed_node n kids e) empty, ⊕-empty kids)
    (numbers-grow z (open_node n kids) (closed_node n kids e) []
    (node-numbers n kids (some e) ∙ sym (node-numbers n kids none) ∙ sym (append-nil (scope_numbers (open_node n kids))))
    ∙ append-nil (scope_numbers (plug_with z (open_node n kids))))

-- ---- ended

-- every element has ended
abbrev pub Done : Forest → Type 0
Done empty = Unit {0}
Done (node n kids none rest) = ⊥
Done (node n kids (some e) rest) = Done kids × Done rest

-- below an element that has ended every element has
abbrev pub Tidy : Forest → Type 0
Tidy empty = Unit {0}
Tidy (node n kids none rest) = Tidy kids × Tidy rest
Tidy (node n kids (some e) rest) = Done kids × Tidy rest

-- the children that a zipper holds beside the open elements have ended
abbrev pub DoneBeside : Zipper → Type 0
DoneBeside (top f) = Done f
DoneBeside (inside z n kids) = DoneBeside z × Done kids

done-append : (f g : Forest) → Done f → Done g → Done (f ⊕ g)
unfolding ◌⊕◌
done-append empty g p q = q
done-append (node n kids none rest) g p q = absurd p
done-append (node n kids (some e) rest) g p q = (p.0, done-append rest g p.1 q)

done-add : (z : Zipper) (g : Forest) → DoneBeside z → Done g → DoneBeside (add z g)
unfolding add
done-add (top f) g p q = done-append f g p q
done-add (inside z n kids) g p q = (p.0, done-append kids g p.1 q)

tidy-append : (f g : Forest) → Done f → Tidy g → Tidy (f ⊕ g)
unfolding ◌⊕◌
tidy-append empty g p q = q
tidy-append (node n kids none rest) g p q = absurd p
tidy-append (node n kids (some e) rest) g p q = (p.0, tidy-append rest g p.1 q)

tidy-plug : (z : Zipper) (g : Forest) → DoneBeside z → Tidy g → Tidy (plug_with z g)
unfolding plug_with
tidy-plug (top f) g p q = tidy-append f g p q
tidy-plug (inside z n kids) g p q = tidy-plug z (open_node n (kids ⊕ g)) p.0 (tidy-append kids g p.1 q, tt)

-- ---- every tree that events make

pub record Sound (b : Built) : Type 0 where
  pub counted : scope_numbers (plug b.zipper) ≡ counting_from 0 b.count
  pub done : DoneBeside b.zipper

begun-sound : (k : ℕ) → Sound (begun k)
unfolding plug plug_with scope_numbers counting_from ◌⊕◌
begun-sound k = record { counted = refl; done = tt }

start-sound : (defs : ℕ → Defined) (b : Built) (s : Start) → Sound b → Sound (start_b defs b s)
unfolding start_b plug plug_with
start-sound defs b s i =
    let n : Element = record { event = suc b.events; start = s; openings = openings defs b.count s.numbers } in
    record {
      counted = start-numbers b.zipper n ∙ ap (λ (l : List ℕ). l ++ own_numbers n) i.counted ∙ openings-count defs b.count s.numbers;
      done = (i.done, tt);
    }

end-sound : (z : Zipper) (c k : ℕ) (e : End) → Sound (record { zipper = z; count = c; events = k }) → Sound (end_z z c k e)
unfolding end_z plug plug_with
end-sound (top f) c k e i = i
end-sound (inside z n kids) c k e i =
    let d : Ended = record { event = suc k; close = e } in
    record {
      counted = end-numbers z n kids d ∙ i.counted;
      done = done-add z (closed_node n kids d) i.done.0 (i.done.1, tt);
    }

build-sound : (defs : ℕ → Defined) (b : Built) (xs : List Event) → Sound b → Sound (build defs b xs)
unfolding build step_b end_b
build-sound defs b [] i = i
build-sound defs b (es s ∷ xs) i = build-sound defs (start_b defs b s) xs (start-sound defs b s i)
build-sound defs b (ee e ∷ xs) i = build-sound defs (end_b b e) xs (end-sound b.zipper b.count b.events e i)

-- IN DOCUMENT ORDER THE SCOPE NUMBERS ARE 1, 2, 3 ..
pub scope-numbers : (defs : ℕ → Defined) (k : ℕ) (xs : List Event) → scope_numbers (tree defs k xs) ≡ counting_from 0 (build defs (begun k) xs).count
unfolding tree
scope-numbers defs k xs = (build-sound defs (begun k) xs (begun-sound k)).counted

-- the children beside its open elements have ended
pub tree-beside : (defs : ℕ → Defined) (k : ℕ) (xs : List Event) → DoneBeside (build defs (begun k) xs).zipper
tree-beside defs k xs = (build-sound defs (begun k) xs (begun-sound k)).done

pub tree-tidy : (defs : ℕ → Defined) (k : ℕ) (xs : List Event) → Tidy (tree defs k xs)
unfolding tree plug
tree-tidy defs k xs = tidy-plug (build defs (begun k) xs).zipper empty (build-sound defs (begun k) xs (begun-sound k)).done tt

-- ---- no number stands twice, and 0 not at all

-- how often a number stands in a list
unfoldable pub times : ℕ → List ℕ → ℕ
times s xs = length (passing (λ x. eqb x s) xs)

-- beside the law of the other `times`, of totals: each is `count-append` unfolded, and cited unfolded it is no plainer
pub times-append : (s : ℕ) (xs ys : List ℕ) → times s (xs ++ ys) ≡ times s xs + times s ys
unfolding times
times-append s xs ys = count-append (λ x. eqb x s) xs ys

times-yes : (s x : ℕ) (xs : List ℕ) → eqb x s ≡ true → times s (x ∷ xs) ≡ suc (times s xs)
unfolding times passing only_if
times-yes s x xs h = rw h

times-no : (s x : ℕ) (xs : List ℕ) → eqb x s ≡ false → times s (x ∷ xs) ≡ times s xs
unfolding times passing only_if
times-no s x xs h = rw h

counting-once : (s n count : ℕ) → (times s (counting_from n count) ≤ 1) × (s ≤ n → times s (counting_from n count) ≡ 0)
unfolding times passing counting_from
counting-once s n zero = (omega arith, λ h. refl)
counting-once s n (suc count) = by (eqb (suc n) s) refl (counting-once s (suc n) count)
  where
    xs : List ℕ
    xs = counting_from (suc n) count

    by : (b : Bool) → eqb (suc n) s ≡ b → (times s xs ≤ 1) × (s ≤ suc n → times s xs ≡ 0)
        → (times s (suc n ∷ xs) ≤ 1) × (s ≤ n → times s (suc n ∷ xs) ≡ 0)
    by true q ih =
        let r : suc n ≡ s = eqb-true (suc n) s q in
        let t : times s xs ≡ 0 = ih.1 (omega arith) in
        (omega (arith, times-yes s (suc n) xs q), λ h. absurd (omega arith))
    by false q ih = (omega (arith, times-no s (suc n) xs q), λ h. times-no s (suc n) xs q ∙ ih.1 (omega arith))

module _ (defs : ℕ → Defined) (k : ℕ) (xs : List Event) where
  pub number-once : (s : ℕ) → times s (scope_numbers (tree defs k xs)) ≤ 1
  number-once s = rw (scope-numbers defs k xs) (counting-once s 0 (build defs (begun k) xs).count).0

  pub number-not-zero : times 0 (scope_numbers (tree defs k xs)) ≡ 0
  number-not-zero = rw (scope-numbers defs k xs) ((counting-once 0 0 (build defs (begun k) xs).count).1 (omega arith))
