-- THE LAW: the selections read exactly if the session definition decodes them. The numbers of the open scopes rise, so that each is found at its own
-- place; a selection decodes if it fits its scope and is then on an open element if it fits; and both go by induction on the selections.
-- Assumes nothing.
use Prim.Native.Nat.{ℕ, zero, suc, ◌<◌}
use native.Mathlib.Omega.{arith}
use borrow.Author.Tests.{eq-eqb, ne_eqb}
use lib.Dec.{eqb, leb}
use lib.ListN.{length, take, get_or, get_elem?}
use mathlib.Core.Path.{◌≡◌, refl, ap, sym, ◌∙◌}
use mathlib.Core.Bool.{Bool, true, false, cond, ◌&&◌, and-true, and-false}
use mathlib.Core.List.{List, [], ◌∷◌, map}
use mathlib.Core.Option
use mathlib.Core.Option.{Option, none, some, some-injective}
use Rattle.lists.specs.Lists.{all}
use Rattle.texts.specs.Texts.{same}
use Rattle.paths.specs.Reading.{on_some, every}
use Rattle.tree.specs.Cells.{Cell}
use Rattle.machine.specs.Machine.{OpenScope, Selection}
use Rattle.records.specs.Readers.{Bytes}
use Rattle.session_spec.specs.Definitions.{is_some}
use Rattle.session_spec.specs.Layout.{ScopeRecord, put_scope, parts, cell_in, more_in, place_of, put_selection, selection_of, exactly, selection_with, selection_in}
use Rattle.session_spec.specs.Session.{rising, comes_after, climbing, on_open, fitting, selections_in}
use Rattle.session_laws.proofs.OpenScopes.{rising-uncons}
use Rattle.cells.specs.Cells.{depth_at, scope_at}
use Rattle.cells.proofs.Selections.{depth_is, scope-is}
use Rattle.selections.specs.Selections.{Home, home_of, homes, written_for, written, fits_within, fits_home, selection_fits, number_in, is_after, in_order, selections_fit}
use Rattle.lists.proofs.Places.{get_elem-map}
use Rattle.lists.proofs.Lists.{third-false}

-- ---- the open scopes

-- each number is found at its own place
place_is : (n c : ℕ) (os : List OpenScope) (i : ℕ) (o : OpenScope) → rising n c (map put_scope os) ≡ true → get_elem? os i ≡ some o
    → (n < o.scope.number) × (place_of o.scope.number os ≡ i)
unfolding place_of put_scope
place_is n c [] i o r h = let z : ◌≡◌ {A = ℕ} 0 1 = cc in absurd (omega arith)
place_is n c (p ∷ os) zero o r h =
    let u = rising-uncons n c (put_scope p) (map put_scope os) r in
    let e : p ≡ o = some-injective p o h in
    rw (← e) (u.number, rw (eq-eqb p.scope.number p.scope.number refl))
place_is n c (p ∷ os) (suc i) o r h =
    let u = rising-uncons n c (put_scope p) (map put_scope os) r in
    let q = place_is p.scope.number p.depth os i o u.rest h in
    let d : eqb p.scope.number o.scope.number ≡ false = ne_eqb p.scope.number o.scope.number (λ e. omega (arith, q.0)) in
    (omega (arith, u.number, q.0), rw d (ap suc q.1))

-- how many fields its constraint has
abbrev field_count : OpenScope → ℕ
field_count o = length o.scope.constraint.fields

abbrev home_for : OpenScope → Home
home_for o = record { number = o.scope.number; depth = o.depth; fields = field_count o }

homes-are : (os : List OpenScope) → homes (map put_scope os) (map field_count os) ≡ map home_for os
unfolding homes put_scope
homes-are [] = refl
homes-are (o ∷ os) = ap (λ (l : List Home). home_for o ∷ l) (homes-are os)

number_at : (os : List OpenScope) (i : ℕ) (o : OpenScope) → get_elem? os i ≡ some o → o.scope.number ≡ get_or (map (λ (h : Home). h.number) (map home_for os)) i 0
number_at [] i o h = let z : ◌≡◌ {A = ℕ} 0 1 = cc in absurd (omega arith)
number_at (p ∷ os) zero o h = ap (λ (q : OpenScope). q.scope.number) (sym (some-injective p o h))
number_at (p ∷ os) (suc i) o h = number_at os i o h

-- ---- one selection

module _ (os : List OpenScope) (up : rising 0 1 (map put_scope os) ≡ true) (depth : ℕ) where
  abbrev hs : List Home
  hs = map home_for os

  -- what it is to read as this
  abbrev ReadsAs : Bytes → Option Selection → Type 0
  ReadsAs x none = selection_fits hs depth x ≡ false
  ReadsAs x (some s) = (selection_fits hs depth x ≡ on_open depth s) × (s.depth ≡ depth_at x 0) × (s.scope.number ≡ number_in hs x)

  module _ (x : Bytes) where
    in_is : selection_in os x ≡ selection_with os (depth_at x 0) x (get_elem? os (scope_at x 0))
    unfolding selection_in more_in
    in_is = rw (depth_is x 0, scope-is x 0)

    -- its scope is open
    module _ (o : OpenScope) (there : get_elem? os (scope_at x 0) ≡ some o) where
      fits-is : selection_fits hs depth x ≡ fits_within o.depth (field_count o) depth x
      unfolding selection_fits fits_home
      fits-is = ap (λ (h : Option Home). fits_home h depth x) (get_elem-map home_for os (scope_at x 0) ∙ ap (Option.map home_for) there)

      number_is : o.scope.number ≡ number_in hs x
      unfolding number_in
      number_is = number_at os (scope_at x 0) o there

      -- the bytes that are written for it
      put_is : (cs : List Cell) → written_for (field_count o) x (some cs) ≡ same x (put_selection os (selection_of (depth_at x 0) o cs))
      unfolding written_for put_selection selection_of
      put_is cs = rw (place_is 0 1 os (scope_at x 0) o up there).1

      fits_by : (c : Option (List Cell)) → every cell_in (parts 128 4 x) ≡ c
          → selection_fits hs depth x ≡ (leb o.depth (depth_at x 0) && (leb (depth_at x 0) depth && written_for (field_count o) x c))
      unfolding fits_within written
      fits_by c e = fits-is ∙ ap (λ (k : Option (List Cell)). leb o.depth (depth_at x 0) && (leb (depth_at x 0) depth && written_for (field_count o) x k)) e

      with-cells : (c : Option (List Cell)) → every cell_in (parts 128 4 x) ≡ c
          → ReadsAs x (on_some c (λ cs. exactly os o x (selection_of (depth_at x 0) o cs)))
      unfolding on_some
      with-cells none e = fits_by none e ∙ unfold written_for in (third-false (leb o.depth (depth_at x 0)) (leb (depth_at x 0) depth))
      with-cells (some cs) e =
          unfold exactly selection_of in (by (leb o.depth (depth_at x 0)) (same x (put_selection os (selection_of (depth_at x 0) o cs))) (fits_by (some cs) e ∙ rw (put_is cs)))
        where
          t : Selection
          t = selection_of (depth_at x 0) o cs

          by : (a w : Bool) → selection_fits hs depth x ≡ (a && (leb (depth_at x 0) depth && w)) → ReadsAs x (cond (a && w) (some t) none)
          by true true q = unfold selection_of on_open in (q ∙ and-true (leb (depth_at x 0) depth), refl, number_is)
          by true false q = q ∙ and-false (leb (depth_at x 0) depth)
          by false w q = q

    reads-as : ReadsAs x (selection_in os x)
    reads-as = rw in_is (by (get_elem? os (scope_at x 0)) refl)
      where
        by : (o : Option OpenScope) → get_elem? os (scope_at x 0) ≡ o → ReadsAs x (selection_with os (depth_at x 0) x o)
        by none e =
            unfold selection_with selection_fits fits_home in
            (ap (λ (h : Option Home). fits_home h depth x) (get_elem-map home_for os (scope_at x 0) ∙ ap (Option.map home_for) e))
        by (some o) e = unfold selection_with in (with-cells o e (every cell_in (parts 128 4 x)) refl)

  -- ---- all of them

  -- behind one of this depth and scope number
  unfoldable tested : (last number : ℕ) → Option (List Selection) → Bool
  tested last number none = false
  tested last number (some ss) = all (on_open depth) ss && climbing last number ss

  regroup : (a b c d : Bool) → ((a && b) && (c && d)) ≡ ((a && c) && (b && d))
  regroup true true c d = refl
  regroup true false true d = refl
  regroup true false false d = refl
  regroup false b c d = refl

  all_tested : (xs : List Bytes) (last number : ℕ) → tested last number (every (selection_in os) xs) ≡ (all (selection_fits hs depth) xs && in_order hs last number xs)
  unfolding tested every on_some climbing in_order comes_after is_after
  all_tested [] last number = refl
  all_tested (x ∷ xs) last number = by (selection_in os x) (reads-as x) (every (selection_in os) xs) (all_tested xs (depth_at x 0) (number_in hs x))
    where
      fits : Bool
      fits = selection_fits hs depth x

      first : Bool
      first = fits && is_after last number (depth_at x 0) (number_in hs x)

      rest : Bool
      rest = all (selection_fits hs depth) xs && in_order hs (depth_at x 0) (number_in hs x) xs

      whole : (first && rest) ≡ (all (selection_fits hs depth) (x ∷ xs) && in_order hs last number (x ∷ xs))
      whole =
          regroup fits (is_after last number (depth_at x 0) (number_in hs x)) (all (selection_fits hs depth) xs) (in_order hs (depth_at x 0) (number_in hs x) xs)

      by : (o : Option Selection) → ReadsAs x o → (p : Option (List Selection)) → tested (depth_at x 0) (number_in hs x) p ≡ rest
          → tested last number (on_some o (λ s. Option.map (λ ss. s ∷ ss) p)) ≡ (all (selection_fits hs depth) (x ∷ xs) && in_order hs last number (x ∷ xs))
      by none r p ih = rw r
      by (some s) r none ih = sym (and-false first) ∙ ap (λ (b : Bool). first && b) ih ∙ whole
      by (some s) r (some ss) ih =
          regroup (on_open depth s) (all (on_open depth) ss) (comes_after last number s) (climbing s.depth s.scope.number ss)
          ∙ ap (λ (b : Bool). (b && comes_after last number s) && (all (on_open depth) ss && climbing s.depth s.scope.number ss)) (sym r.0)
          ∙ ap (λ (d : ℕ). (fits && is_after last number d s.scope.number) && (all (on_open depth) ss && climbing d s.scope.number ss)) r.1
          ∙ ap (λ (m : ℕ). (fits && is_after last number (depth_at x 0) m) && (all (on_open depth) ss && climbing (depth_at x 0) m ss)) r.2
          ∙ ap (λ (b : Bool). first && b) ih
          ∙ whole

  -- which is what the session definition asks
  is-tested : (xs : List Bytes) → is_some (selections_in os depth xs) ≡ tested 0 0 (every (selection_in os) xs)
  unfolding selections_in fitting on_some tested is_some
  is-tested xs = by (every (selection_in os) xs)
    where
      is-cond : (b : Bool) (ss : List Selection) → is_some (cond b (some ss) none) ≡ b
      is-cond true ss = refl
      is-cond false ss = refl

      by : (o : Option (List Selection)) → is_some (on_some o (λ ss. fitting depth ss)) ≡ tested 0 0 o
      by none = refl
      by (some ss) = is-cond (all (on_open depth) ss && climbing 0 0 ss) ss

  decodes : (xs : List Bytes) → is_some (selections_in os depth xs) ≡ selections_fit hs depth xs
  unfolding selections_fit
  decodes xs = is-tested xs ∙ all_tested xs 0 0

-- THE SELECTIONS READ EXACTLY IF THEY DECODE.
pub selections-decode : (os : List OpenScope) (fields : List ℕ) (depth n : ℕ) (area : Bytes) → rising 0 1 (map put_scope os) ≡ true
    → fields ≡ map (λ o. length o.scope.constraint.fields) os
    → is_some (selections_in os depth (parts 512 n area)) ≡ selections_fit (homes (map put_scope os) fields) depth (parts 512 n area)
selections-decode os fields depth n area up e =
    decodes os up depth (parts 512 n area)
    ∙ ap (λ (l : List Home). selections_fit l depth (parts 512 n area)) (sym (ap (homes (map put_scope os)) e ∙ homes-are os))

-- counts behind those of the open scopes have no say: a caller may lend more of them
pub homes-front : (ss : List ScopeRecord) (ns : List ℕ) → homes ss (take (length ss) ns) ≡ homes ss ns
unfolding homes
homes-front [] ns = refl
homes-front (s ∷ ss) [] = refl
homes-front (s ∷ ss) (n ∷ ns) = ap (λ (l : List Home). home_of s n ∷ l) (homes-front ss ns)
