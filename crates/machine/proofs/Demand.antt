-- DEMAND 3 OF A WHOLE RUN. The machine puts out what the tree's happenings come to (Simulate), and over happenings the count holds for a number whose
-- selections are all of one unique or key kind (Count). So it is left to show that the happenings which bear a closed scope's number are what that scope
-- selects in the tree. Its number stands once in the tree (Numbered): outside its element no scope of the number is there, inside it is the only one,
-- and there every element has ended.
-- Assumes nothing.
use Prim.Native.Nat.{ℕ, suc, ◌+◌, ◌≤◌}
use native.Mathlib.Omega.{arith}
use lib.Dec.{eqb}
use lib.ListN.{length, length-append}
use borrow.Author.Tests.{eqb-true, eq-eqb}
use mathlib.Core.Path.{◌≡◌, refl, ap, ap₂, sym, ◌∙◌}
use mathlib.Core.Bool.{Bool, true, false}
use mathlib.Core.List.{List, [], ◌∷◌, ◌++◌, map, flat_map, map-append, append-nil}
use mathlib.Core.Option.{Option, none, some}
use Rattle.std.proofs.lemmas.List.{nil_from_length}
use Rattle.lists.specs.Lists.{only_if, passing, All}
use Rattle.lists.proofs.Lists.{flat_map-append}
use Rattle.lists.proofs.Folds.{passing-append, map-only_if, passing-map}
use Rattle.paths.specs.Names.{Name}
use Rattle.tree.specs.Events.{Event, Constraint, Scope, Opening, opens, fails, scopes_of, selects, Defined}
use Rattle.tree.specs.Cells.{Cell}
use Rattle.tree.specs.Tree.{Element, Ended, Forest, empty, node, name, cells_of, Item, Live, deeper, fresh, enter, failed_item, failures, finish, finishes, items}
use Rattle.tree.specs.Judge.{blank, judge_all, finish_out}
use Rattle.tree.specs.Build.{tree}
use Rattle.tree.specs.Counts.{chosen, selected_by, first, second, bears, reports_against, Node, here, under, later, Opens, ClosedScope, selection, numbers_of, scope_numbers}
use Rattle.machine.specs.Machine.{initial, run, finish_a}
use Rattle.machine.proofs.Simulate.{streamed, streamed-finished}
use Rattle.machine.proofs.Numbered.{Done, Tidy, tree-tidy, times, times-append, number-once, number-not-zero}
use Rattle.machine.proofs.Count.{Selected, selected, of_item, of_number, cells_in, OfKind, counted, counted-finished}

-- ---- the selections of a number, part by part

of-append : (s : ℕ) (xs ys : List Item) → of_number s (xs ++ ys) ≡ of_number s xs ++ of_number s ys
unfolding of_number
of-append s xs ys = flat_map-append (of_item s) xs ys

of_nil : (s : ℕ) → of_number s [] ≡ []
unfolding of_number flat_map
of_nil s = refl

of-failures : (s e : ℕ) (os : List Opening) → of_number s (flat_map (failed_item e) os) ≡ []
unfolding of_number flat_map failed_item of_item
of-failures s e [] = refl
of-failures s e (opens sc ∷ os) = of-failures s e os
of-failures s e (fails c t ∷ os) = of-failures s e os

of_node : (s : ℕ) (ls : List Live) (n : Element) (kids : Forest) (e : Option Ended) (rest : Forest)
    → of_number s (items ls (node n kids e rest))
    ≡ of_number s (items (enter n ls) kids) ++ (of_number s (finishes (enter n ls) n kids e) ++ of_number s (items ls rest))
unfolding items failures
of_node s ls n kids e rest =
    of-append s (failures n) (items (enter n ls) kids ++ (finishes (enter n ls) n kids e ++ items ls rest))
    ∙ rw (
      of-failures s n.event n.openings,
      of-append s (items (enter n ls) kids) (finishes (enter n ls) n kids e ++ items ls rest),
      of-append s (finishes (enter n ls) n kids e) (items ls rest),
    )

-- ---- an element's end: only the scopes of the number count

unfoldable pub is_scope : ℕ → Scope → Bool
is_scope s sc = eqb sc.number s

unfoldable pub is_live : ℕ → Live → Bool
is_live s l = is_scope s l.scope

-- what a scope makes of an element
unfoldable pub choose : Element → Forest → Option Ended → Live → List Selected
choose n kids e l =
    only_if (selects l.scope.constraint l.below) (selected l.scope (cells_of l.scope.constraint n kids e) ∷ [])

both : (s : ℕ) (b c : Bool) (x : Item) (y : Selected) (l : Live) (f : Live → List Selected) → f l ≡ only_if b (y ∷ []) → of_item s x ≡ only_if c (y ∷ [])
    → of_number s (only_if b (x ∷ [])) ≡ flat_map f (only_if c (l ∷ []))
unfolding of_number flat_map only_if
both s true true x y l f p q = rw (p, q)
both s true false x y l f p q = rw q
both s false true x y l f p q = rw p
both s false false x y l f p q = refl

of-finish : (s : ℕ) (n : Element) (kids : Forest) (e : Ended) (l : Live)
    → of_number s (finish n kids e l) ≡ flat_map (choose n kids (some e)) (only_if (is_live s l) (l ∷ []))
unfolding finish choose of_item is_live is_scope
of-finish s n kids e l =
    let c : Constraint = l.scope.constraint in
    both s (selects c l.below) (eqb l.scope.number s) _ (selected l.scope (cells_of c n kids (some e))) l (choose n kids (some e)) refl refl

of-finishes : (s : ℕ) (n : Element) (kids : Forest) (e : Ended) (ls : List Live)
    → of_number s (finishes ls n kids (some e)) ≡ flat_map (choose n kids (some e)) (passing (is_live s) ls)
unfolding finishes flat_map passing
of-finishes s n kids e [] = of_nil s
of-finishes s n kids e (l ∷ ls) =
    of-append s (finish n kids e l) (flat_map (finish n kids e) ls)
    ∙ ap₂ {C = List Selected} ◌++◌ (of-finish s n kids e l) (of-finishes s n kids e ls)
    ∙ sym (flat_map-append (choose n kids (some e)) (only_if (is_live s l) (l ∷ [])) (passing (is_live s) ls))

-- ---- the scopes of the number that an element lies in

-- those among the scopes that it opens itself
abbrev owned : ℕ → Element → List Scope
owned s n = passing (is_scope s) (scopes_of n.openings)

lives-enter : (s : ℕ) (n : Element) (ls : List Live) → passing (is_live s) (enter n ls) ≡ map (deeper (name n)) (passing (is_live s) ls) ++ map fresh (owned s n)
unfolding enter is_live deeper fresh
lives-enter s n ls =
    passing-append (is_live s) (map (deeper (name n)) ls) (map fresh (scopes_of n.openings))
    ∙ ap₂ {C = List Live} ◌++◌ (passing-map (is_live s) (deeper (name n)) ls) (passing-map (is_live s) fresh (scopes_of n.openings))

none-enter : (s : ℕ) (n : Element) (ls : List Live) → passing (is_live s) ls ≡ [] → length (owned s n) ≡ 0 → passing (is_live s) (enter n ls) ≡ []
none-enter s n ls p q = lives-enter s n ls ∙ rw (p, nil_from_length (owned s n) q)

one-enter : (s : ℕ) (n : Element) (ls : List Live) (l : Live) → passing (is_live s) ls ≡ l ∷ [] → length (owned s n) ≡ 0
    → passing (is_live s) (enter n ls) ≡ deeper (name n) l ∷ []
one-enter s n ls l p q = lives-enter s n ls ∙ rw (p, nil_from_length (owned s n) q)

-- how often the number stands in the tree
own-times : (s : ℕ) (ss : List Scope) → times s (numbers_of ss) ≡ length (passing (is_scope s) ss)
unfolding times numbers_of passing only_if is_scope
own-times s [] = refl
own-times s (sc ∷ ss) = by (eqb sc.number s) (own-times s ss)
  where
    by : (b : Bool) → times s (numbers_of ss) ≡ length (passing (is_scope s) ss)
        → length (only_if b (sc.number ∷ []) ++ passing (λ x. eqb x s) (numbers_of ss)) ≡ length (only_if b (sc ∷ []) ++ passing (is_scope s) ss)
    by true h = ap suc h
    by false h = h

node-times : (s : ℕ) (n : Element) (kids : Forest) (e : Option Ended) (rest : Forest)
    → times s (scope_numbers (node n kids e rest)) ≡ length (owned s n) + times s (scope_numbers kids) + times s (scope_numbers rest)
unfolding scope_numbers
node-times s n kids e rest =
    omega (
      arith,
      times-append s (numbers_of (scopes_of n.openings)) (scope_numbers kids ++ scope_numbers rest),
      times-append s (scope_numbers kids) (scope_numbers rest),
      own-times s (scopes_of n.openings),
    )

-- ---- no scope of the number: nothing finishes for it

none-finishes : (s : ℕ) (n : Element) (kids : Forest) (e : Option Ended) (ls : List Live) → passing (is_live s) ls ≡ [] → of_number s (finishes ls n kids e) ≡ []
unfolding finishes flat_map
none-finishes s n kids none ls p = of_nil s
none-finishes s n kids (some e) ls p = of-finishes s n kids e ls ∙ rw p

of_none : (s : ℕ) (ls : List Live) (f : Forest) → passing (is_live s) ls ≡ [] → times s (scope_numbers f) ≡ 0 → of_number s (items ls f) ≡ []
unfolding items
of_none s ls empty p q = of_nil s
of_none s ls (node n kids e rest) p q =
    let t = node-times s n kids e rest in
    let inside : passing (is_live s) (enter n ls) ≡ [] = none-enter s n ls p (omega arith) in
    let a : of_number s (items (enter n ls) kids) ≡ [] = of_none s (enter n ls) kids inside (omega arith) in
    let b : of_number s (finishes (enter n ls) n kids e) ≡ [] = none-finishes s n kids e (enter n ls) inside in
    let c : of_number s (items ls rest) ≡ [] = of_none s ls rest p (omega arith) in
    of_node s ls n kids e rest ∙ rw (a, b, c)

-- ---- one scope of the number, and all has ended: what finishes is what that scope selects

-- the selection that a scope makes of an element
unfoldable pub one_cells : Constraint → List Name → Element → Forest → Option Ended → List (List Cell)
one_cells c below n kids e = only_if (selects c below) (cells_of c n kids e ∷ [])

one-finishes : (s : ℕ) (n : Element) (kids : Forest) (e : Ended) (ls : List Live) (l : Live) → passing (is_live s) ls ≡ l ∷ []
    → of_number s (finishes ls n kids (some e)) ≡ map (selected l.scope) (one_cells l.scope.constraint l.below n kids (some e))
unfolding flat_map choose one_cells
one-finishes s n kids e ls l p =
    of-finishes s n kids e ls
    ∙ ap (flat_map (choose n kids (some e))) p
    ∙ append-nil (choose n kids (some e) l)
    ∙ map-only_if (selected l.scope) (selects l.scope.constraint l.below) (cells_of l.scope.constraint n kids (some e))

of_one : (s : ℕ) (ls : List Live) (l : Live) (f : Forest) → passing (is_live s) ls ≡ l ∷ [] → times s (scope_numbers f) ≡ 0 → Done f
    → of_number s (items ls f) ≡ map (selected l.scope) (chosen l.scope.constraint l.below f)
unfolding items chosen deeper one_cells
of_one s ls l empty p q d = of_nil s
of_one s ls l (node n kids none rest) p q d = absurd d
of_one s ls l (node n kids (some e) rest) p q d =
    let t = node-times s n kids (some e) rest in
    let inside : passing (is_live s) (enter n ls) ≡ deeper (name n) l ∷ [] = one-enter s n ls l p (omega arith) in
    let c : Constraint = l.scope.constraint in
    let below : List Name = l.below ++ (name n ∷ []) in
    of_node s ls n kids (some e) rest
    ∙ ap₂ {C = List Selected} ◌++◌
    (of_one s (enter n ls) (deeper (name n) l) kids inside (omega arith) d.0)
    (ap₂ {C = List Selected} ◌++◌ (one-finishes s n kids e (enter n ls) (deeper (name n) l) inside) (of_one s ls l rest p (omega arith) d.1)
    ∙ sym (map-append (selected l.scope) (one_cells c below n kids (some e)) (chosen c l.below rest)))
    ∙ sym (map-append (selected l.scope) (chosen c below kids) (one_cells c below n kids (some e) ++ chosen c l.below rest))

-- ---- a scope that an element opens

module _ (n : Element) (sc : Scope) (o : Opens n sc) where
  opens-owned : owned sc.number n ≡ passing (is_scope sc.number) o.before ++ (sc ∷ passing (is_scope sc.number) o.behind)
  unfolding passing is_scope only_if
  opens-owned =
      ap (passing (is_scope sc.number)) o.split
      ∙ passing-append (is_scope sc.number) o.before (sc ∷ o.behind)
      ∙ rw (eq-eqb sc.number sc.number refl)

  opens-times : length (owned sc.number n)
      ≡ length (passing (is_scope sc.number) o.before) + suc (length (passing (is_scope sc.number) o.behind))
  opens-times =
      ap length opens-owned
      ∙ length-append (passing (is_scope sc.number) o.before) (sc ∷ passing (is_scope sc.number) o.behind)

  -- in its element it is the only one of its number
  own-enter : (ls : List Live) → passing (is_live sc.number) ls ≡ [] → length (owned sc.number n) ≤ 1
      → passing (is_live sc.number) (enter n ls) ≡ fresh sc ∷ []
  own-enter ls p q =
      let s = sc.number in
      let a : passing (is_scope s) o.before ≡ [] = nil_from_length (passing (is_scope s) o.before) (omega (arith, opens-times)) in
      let b : passing (is_scope s) o.behind ≡ [] = nil_from_length (passing (is_scope s) o.behind) (omega (arith, opens-times)) in
      lives-enter s n ls ∙ rw (p, opens-owned, a, b)

-- its number stands in the tree
found-times : (sc : Scope) (n : Element) (kids : Forest) (e : Ended) (f : Forest) → Node n kids e f → Opens n sc → 1 ≤ times sc.number (scope_numbers f)
found-times sc n kids e f (here {rest = rest}) o = omega (arith, opens-times n sc o, node-times sc.number n kids (some e) rest)
found-times sc n kids e f (under {m = m} {f = g} {d = d} {rest = rest} w) o =
    omega (arith, found-times sc n kids e g w o, node-times sc.number m g d rest)
found-times sc n kids e f (later {m = m} {f = g} {d = d} {rest = rest} w) o =
    omega (arith, found-times sc n kids e rest w o, node-times sc.number m g d rest)

-- ---- below an ended element of a tidy tree all has ended

done-tidy : (f : Forest) → Done f → Tidy f
done-tidy empty d = tt
done-tidy (node n kids none rest) d = absurd d
done-tidy (node n kids (some e) rest) d = (d.0, done-tidy rest d.1)

tidy-parts : (m : Element) (g : Forest) (d : Option Ended) (rest : Forest) → Tidy (node m g d rest) → Tidy g × Tidy rest
tidy-parts m g none rest t = t
tidy-parts m g (some e) rest t = (done-tidy g t.0, t.1)

tidy-done : (n : Element) (kids : Forest) (e : Ended) (f : Forest) → Node n kids e f → Tidy f → Done kids
tidy-done n kids e f here t = t.0
tidy-done n kids e f (under {m = m} {f = g} {d = d} {rest = rest} w) t = tidy-done n kids e g w (tidy-parts m g d rest t).0
tidy-done n kids e f (later {m = m} {f = g} {d = d} {rest = rest} w) t = tidy-done n kids e rest w (tidy-parts m g d rest t).1

-- ---- what finishes for a closed scope's number is what the scope selects

module _ (sc : Scope) (n : Element) (kids : Forest) (e : Ended) (o : Opens n sc) (done : Done kids) where
  its : List Selected
  its = map (selected sc) (selected_by sc.constraint n kids (some e))

  of-found : (f : Forest) → Node n kids e f → (ls : List Live) → passing (is_live sc.number) ls ≡ [] → times sc.number (scope_numbers f) ≤ 1
      → of_number sc.number (items ls f) ≡ its
  unfolding its selected_by one_cells fresh
  of-found f (here {rest = rest}) ls p q =
      let s = sc.number in
      let c : Constraint = sc.constraint in
      let t = node-times s n kids (some e) rest in
      let u = opens-times n sc o in
      let inside : passing (is_live s) (enter n ls) ≡ fresh sc ∷ [] = own-enter n sc o ls p (omega arith) in
      of_node s ls n kids (some e) rest
      ∙ ap₂ {C = List Selected} ◌++◌
      (of_one s (enter n ls) (fresh sc) kids inside (omega arith) done)
      (ap₂ {C = List Selected} ◌++◌ (one-finishes s n kids e (enter n ls) (fresh sc) inside) (of_none s ls rest p (omega arith))
      ∙ append-nil (map (selected sc) (one_cells c [] n kids (some e))))
      ∙ sym (map-append (selected sc) (chosen c [] kids) (one_cells c [] n kids (some e)))
  of-found f (under {m = m} {f = g} {d = d} {rest = rest} w) ls p q =
      let s = sc.number in
      let t = node-times s m g d rest in
      let u = found-times sc n kids e g w o in
      let inside : passing (is_live s) (enter m ls) ≡ [] = none-enter s m ls p (omega arith) in
      of_node s ls m g d rest
      ∙ ap₂ {C = List Selected} ◌++◌
      (of-found g w (enter m ls) inside (omega arith))
      (ap₂ {C = List Selected} ◌++◌ (none-finishes s m g d (enter m ls) inside) (of_none s ls rest p (omega arith)))
      ∙ append-nil its
  of-found f (later {m = m} {f = g} {d = d} {rest = rest} w) ls p q =
      let s = sc.number in
      let t = node-times s m g d rest in
      let u = found-times sc n kids e rest w o in
      let inside : passing (is_live s) (enter m ls) ≡ [] = none-enter s m ls p (omega arith) in
      of_node s ls m g d rest
      ∙ ap₂ {C = List Selected} ◌++◌
      (of_none s (enter m ls) g inside (omega arith))
      (ap₂ {C = List Selected} ◌++◌ (none-finishes s m g d (enter m ls) inside) (of-found rest w ls p (omega arith)))

cells-selected : (sc : Scope) (css : List (List Cell)) → cells_in (map (selected sc) css) ≡ css
cells-selected sc [] = refl
cells-selected sc (cs ∷ css) = ap (λ (l : List (List Cell)). cs ∷ l) (cells-selected sc css)

kinds-selected : (sc : Scope) (css : List (List Cell)) → All (OfKind sc.constraint.kind) (map (selected sc) css)
kinds-selected sc [] = tt
kinds-selected sc (cs ∷ css) = (refl, kinds-selected sc css)

-- a number that stands where 0 does not is not 0
not-zero : (s : ℕ) (xs : List ℕ) → 1 ≤ times s xs → times 0 xs ≡ 0 → eqb 0 s ≡ false
not-zero s xs h z = by (eqb 0 s) refl
  where
    by : (b : Bool) → eqb 0 s ≡ b → b ≡ false
    by true e =
        let q : times 0 xs ≡ times s xs = ap (λ (n : ℕ). times n xs) (eqb-true 0 s e) in
        absurd (omega arith)
    by false e = refl

-- ---- the claim

module _ (defs : ℕ → Defined) (k : ℕ) (xs : List Event) (sc : Scope) (w : ClosedScope (tree defs k xs) sc) where
  -- the happenings that bear its number are its selections
  its_own : of_number sc.number (items [] (tree defs k xs)) ≡ map (selected sc) (selection (tree defs k xs) sc w)
  unfolding selection passing its
  its_own =
      of-found sc w.element w.kids w.end w.opens
      (tidy-done w.element w.kids w.end (tree defs k xs) w.found (tree-tidy defs k xs))
      (tree defs k xs) w.found [] refl (number-once defs k xs sc.number)

  its-cells : cells_in (of_number sc.number (items [] (tree defs k xs))) ≡ selection (tree defs k xs) sc w
  its-cells = ap (λ (ds : List Selected). cells_in ds) its_own ∙ cells-selected sc (selection (tree defs k xs) sc w)

  its-kind : All (OfKind sc.constraint.kind) (of_number sc.number (items [] (tree defs k xs)))
  its-kind = rw its_own (kinds-selected sc (selection (tree defs k xs) sc w))

  its-number : eqb 0 sc.number ≡ false
  its-number =
      not-zero sc.number (scope_numbers (tree defs k xs))
      (found-times sc w.element w.kids w.end (tree defs k xs) w.found w.opens)
      (number-not-zero defs k xs)

  -- DEMAND 3. The first count is the second and the reports against the scope together.
  pub demand : first sc.constraint.kind (selection (tree defs k xs) sc w)
      ≡ second sc.constraint.kind (selection (tree defs k xs) sc w) + reports_against sc.number (run defs (initial k) xs).out.reports
  demand =
      rw (streamed defs k xs, ← its-cells)
      (counted sc.number sc.constraint.kind its-number w.keyed (items [] (tree defs k xs)) its-kind)

  -- and once FI has been read
  pub demand-finished : first sc.constraint.kind (selection (tree defs k xs) sc w)
      ≡ second sc.constraint.kind (selection (tree defs k xs) sc w) + reports_against sc.number (finish_a (run defs (initial k) xs)).out.reports
  demand-finished =
      rw (streamed-finished defs k xs, ← its-cells)
      (counted-finished sc.number sc.constraint.kind its-number w.keyed (items [] (tree defs k xs)) (suc (run defs (initial k) xs).events) its-kind)

  -- The reports against it are, record for record, those that the tree definition gives.
  pub closed-reports : passing (bears sc.number) (run defs (initial k) xs).out.reports
      ≡ passing (bears sc.number) (judge_all blank (items [] (tree defs k xs))).reports
  closed-reports = rw (streamed defs k xs)

  pub closed-reports-finished : passing (bears sc.number) (finish_a (run defs (initial k) xs)).out.reports
      ≡ passing (bears sc.number) (finish_out (suc (run defs (initial k) xs).events) (judge_all blank (items [] (tree defs k xs)))).reports
  closed-reports-finished = rw (streamed-finished defs k xs)
