-- Selections one after the other: all of them read exactly if the first fits its scope and comes behind the one before, and those behind it read.
-- Assumes nothing.
use Prim.Native.Nat.{ℕ, zero, suc, ◌+◌, ◌*◌, ◌/◌, ◌≤◌, ◌<◌}
use native.Mathlib.Omega.{arith}
use borrow.Author.Tests.{le-leb, lt-leb, leb-true, leb-false}
use lib.Dec.{leb}
use lib.ListN.{length, take, drop, get_or, get_elem?, length-take, length-drop, length-append, length-map, get_or-map}
use lib.Seq.{take-append_seam, drop-append_seam}
use mathlib.Core.Path.{◌≡◌, refl, ap, sym, ◌∙◌}
use mathlib.Core.Bool.{Bool, true, false, ◌&&◌, and-false}
use mathlib.Core.List.{List, [], ◌∷◌, ◌++◌, map}
use mathlib.Core.Option.{Option, none, some}
use Rattle.lists.specs.Lists.{all}
use Rattle.records.specs.Readers.{Bytes}
use Rattle.session_spec.specs.Layout.{ScopeRecord, parts}
use Rattle.cells.specs.Cells.{depth_at, scope_at}
use Rattle.open_scopes.specs.declared.Scope.{Scope}
use Rattle.open_scopes.specs.declared.Scopes.{Scopes}
use Rattle.open_scopes.specs.OpenScopes.{record_of, blank_scope, open_of, records_of}
use Rattle.selections.specs.declared.Rank.{Rank}
use Rattle.selections.specs.Selections.{Home, home_of, homes, written, fits_within, fits_home, selection_fits, number_in, is_after, in_order, selections_fit}
use Rattle.selections.proofs.Written.{written-width}
use Rattle.lists.proofs.Lists.{third-false}

-- ---- one selection, test by test

module _ (least fields depth : ℕ) (xs : Bytes) where
  pub too-deep : depth < depth_at xs 0 → false ≡ fits_within least fields depth xs
  unfolding fits_within
  too-deep h = rw (lt-leb (depth_at xs 0) depth h) (sym (and-false (leb least (depth_at xs 0))))

  pub within : least ≤ depth_at xs 0 → depth_at xs 0 ≤ depth → written fields xs ≡ fits_within least fields depth xs
  unfolding fits_within
  within h k = rw (le-leb least (depth_at xs 0) h, le-leb (depth_at xs 0) depth k)

-- ---- the scope at a place

homes-past : (ss : List ScopeRecord) (ns : List ℕ) (i : ℕ) → length ss ≤ i → get_elem? (homes ss ns) i ≡ none
unfolding homes
homes-past [] ns i h = refl
homes-past (s ∷ ss) ns zero h = absurd (omega arith)
homes-past (s ∷ ss) [] (suc i) h = homes-past ss [] i (omega arith)
homes-past (s ∷ ss) (n ∷ ns) (suc i) h = homes-past ss ns i (omega arith)

homes_at : (ss : List ScopeRecord) (ns : List ℕ) (i : ℕ) (r : ScopeRecord) → i < length ss → get_elem? (homes ss ns) i ≡ some (home_of (get_or ss i r) (get_or ns i 0))
unfolding homes
homes_at [] ns i r h = absurd (omega arith)
homes_at (s ∷ ss) [] zero r h = refl
homes_at (s ∷ ss) (n ∷ ns) zero r h = refl
homes_at (s ∷ ss) [] (suc i) r h = homes_at ss [] i r (omega arith)
homes_at (s ∷ ss) (n ∷ ns) (suc i) r h = homes_at ss ns i r (omega arith)

numbers-at : (ss : List ScopeRecord) (ns : List ℕ) (i : ℕ) (r : ScopeRecord) → i < length ss → get_or (map (λ (h : Home). h.number) (homes ss ns)) i 0 ≡ (get_or ss i r).number
unfolding homes
numbers-at [] ns i r h = absurd (omega arith)
numbers-at (s ∷ ss) [] zero r h = refl
numbers-at (s ∷ ss) (n ∷ ns) zero r h = refl
numbers-at (s ∷ ss) [] (suc i) r h = numbers-at ss [] i r (omega arith)
numbers-at (s ∷ ss) (n ∷ ns) (suc i) r h = numbers-at ss ns i r (omega arith)

-- ---- the first selection, and those behind it

module _ (hs : List Home) (depth : ℕ) where
  -- all fit, in order behind one of this rank
  abbrev fit_behind : (last : Rank) → List Bytes → Bool
  fit_behind last xs = all (selection_fits hs depth) xs && in_order hs last.depth last.number xs

  -- that of a selection
  abbrev rank_of : Bytes → Rank
  rank_of x = record { depth = depth_at x 0; number = number_in hs x }

  module _ (last : Rank) (x : Bytes) (xs : List Bytes) where
    first-unfit : false ≡ selection_fits hs depth x → false ≡ fit_behind last (x ∷ xs)
    first-unfit e = rw (← e)

    first-stays : false ≡ is_after last.depth last.number (depth_at x 0) (number_in hs x) → false ≡ fit_behind last (x ∷ xs)
    unfolding in_order
    first-stays e = rw (← e) (sym (and-false (all (selection_fits hs depth) (x ∷ xs))))

    first_fits : true ≡ selection_fits hs depth x → true ≡ is_after last.depth last.number (depth_at x 0) (number_in hs x)
        → fit_behind (rank_of x) xs ≡ fit_behind last (x ∷ xs)
    unfolding in_order
    first_fits e f = rw (← e, ← f)

-- ---- the area from here on

parts_first : (left more : ℕ) (whole x rest : Bytes) → whole ≡ x ++ rest → length x ≡ 512 → more + 1 ≡ left → parts 512 left whole ≡ x ∷ parts 512 more rest
unfolding parts
parts_first left more whole x rest cut wide one =
    let e : left ≡ suc more = omega arith in
    let front : take 512 (x ++ rest) ≡ x = ap (λ (k : ℕ). take k (x ++ rest)) (sym wide) ∙ take-append_seam x rest in
    let behind : drop 512 (x ++ rest) ≡ rest = ap (λ (k : ℕ). drop k (x ++ rest)) (sym wide) ∙ drop-append_seam x rest in
    rw (e, cut, front, behind)

-- those that are there
pub there : (left more : ℕ) (whole x rest : Bytes) → whole ≡ x ++ rest → length x ≡ 512 → more + 1 ≡ left → 512 * left ≤ length whole → 512 * more ≤ length rest
there left more whole x rest cut wide one h = omega (arith, ap length cut, length-append x rest)

pub none_left : (left len size : ℕ) → size ≡ 512 → 512 * left ≤ len → (0 < left → len < size) → left ≤ 0
none_left zero len size s h e = omega arith
none_left (suc left) len size s h e = absurd (omega (arith, e (omega arith)))

-- a selection of too few bytes
short-unfit : (o : Option Home) (depth : ℕ) (xs : Bytes) → length xs < 512 → false ≡ fits_home o depth xs
unfolding fits_home fits_within
short-unfit none depth xs h = refl
short-unfit (some o) depth xs h =
    rw (← written-width o.fields xs (λ e. omega arith)) (sym (third-false (leb o.depth (depth_at xs 0)) (leb (depth_at xs 0) depth)))

-- what the selections of these scopes are held against
abbrev pub homes_of : List Scope → List ℕ → List Home
homes_of l ns = homes (map record_of l) ns

module _ (l : List Scope) (ns : List ℕ) (depth : ℕ) where
  abbrev hs : List Home
  hs = homes_of l ns

  -- so many selections from here on read, behind one of this rank
  abbrev pub read_from : Bytes → (left : ℕ) → (last : Rank) → Bool
  read_from rest left last = fit_behind hs depth last (parts 512 left rest)

  short-among : (n : ℕ) (area : Bytes) → length area < 512 * n → false ≡ all (selection_fits hs depth) (parts 512 n area)
  unfolding selection_fits parts
  short-among zero area h = absurd (omega arith)
  short-among (suc n) area h = by (leb 512 (length area)) refl (λ k. short-among n (drop 512 area) k)
    where
      by : (b : Bool) → leb 512 (length area) ≡ b → (length (drop 512 area) < 512 * n → false ≡ all (selection_fits hs depth) (parts 512 n (drop 512 area))) → false ≡ all (selection_fits hs depth) (parts 512 (suc n) area)
      by true e behind =
          let m = leb-true 512 (length area) e in
          rw (← behind (omega (arith, length-drop 512 area))) (sym (and-false (selection_fits hs depth (take 512 area))))
      by false e behind =
          let m = leb-false 512 (length area) e in
          rw (← short-unfit (get_elem? hs (scope_at (take 512 area) 0)) depth (take 512 area) (omega (arith, length-take 512 area)))

  -- the area has not so many
  pub too-short : (n : ℕ) (area : Bytes) → length area / 512 < n → false ≡ selections_fit hs depth (parts 512 n area)
  unfolding selections_fit
  too-short n area h = rw (← short-among n area (omega arith))

  pub read-at-start : (area : Bytes) (n : ℕ) → read_from area n (record { depth = 0; number = 0 }) ≡ selections_fit hs depth (parts 512 n area)
  unfolding selections_fit
  read-at-start area n = refl

  pub read-at-end : (rest : Bytes) (left : ℕ) (last : Rank) → left ≤ 0 → true ≡ read_from rest left last
  unfolding parts in_order
  read-at-end rest zero last h = refl
  read-at-end rest (suc left) last h = absurd (omega arith)

  module _ (whole x rest : Bytes) (left more : ℕ) (last : Rank) (cut : whole ≡ x ++ rest) (wide : length x ≡ 512) (one_less : more + 1 ≡ left) where
    first-here : fit_behind hs depth last (x ∷ parts 512 more rest) ≡ read_from whole left last
    first-here = ap (fit_behind hs depth last) (sym (parts_first left more whole x rest cut wide one_less))

    unfit : false ≡ selection_fits hs depth x → false ≡ read_from whole left last
    unfit e = first-unfit hs depth last x (parts 512 more rest) e ∙ first-here

    module _ (place : ℕ) (there : place ≡ scope_at x 0) where
      pub no-scope-here : length l ≤ place → false ≡ read_from whole left last
      unfolding selection_fits fits_home
      no-scope-here h =
          unfit (rw (← there, homes-past (map record_of l) ns place (rw (length-map l record_of) h)))

      module _ (one : Scope) (is : one ≡ get_or l place blank_scope) (among : place < length l) where
        count : place < length (map record_of l)
        count = rw (length-map l record_of) among

        record_is : get_or (map record_of l) place (record_of blank_scope) ≡ record_of one
        record_is = get_or-map record_of l place blank_scope ∙ ap record_of (sym is)

        fits-is : (many : ℕ) → many ≡ get_or ns place 0 → fits_within one.depth many depth x ≡ selection_fits hs depth x
        unfolding selection_fits fits_home
        fits-is many m =
            ap (λ (k : ℕ). fits_within one.depth k depth x) m
            ∙ ap (λ (o : Option Home). fits_home o depth x)
            (sym (ap (get_elem? hs) (sym there)
            ∙ homes_at (map record_of l) ns place (record_of blank_scope) count
            ∙ ap (λ (s : ScopeRecord). some (home_of s (get_or ns place 0))) record_is))

        number_is : number_in hs x ≡ one.number
        unfolding number_in
        number_is =
            ap (λ (i : ℕ). get_or (map (λ (h : Home). h.number) hs) i 0) (sym there)
            ∙ numbers-at (map record_of l) ns place (record_of blank_scope) count
            ∙ ap (λ (s : ScopeRecord). s.number) record_is

        pub unfit-here : (many : ℕ) → many ≡ get_or ns place 0 → false ≡ fits_within one.depth many depth x → false ≡ read_from whole left last
        unfit-here many m e = unfit (e ∙ fits-is many m)

        module _ (deep : ℕ) (depth_is : deep ≡ depth_at x 0) where
          after_is : is_after last.depth last.number deep one.number ≡ is_after last.depth last.number (depth_at x 0) (number_in hs x)
          after_is = rw (depth_is, number_is)

          pub stays_here : false ≡ is_after last.depth last.number deep one.number → false ≡ read_from whole left last
          stays_here e = first-stays hs depth last x (parts 512 more rest) (e ∙ after_is) ∙ first-here

          pub fits-here : (many : ℕ) → many ≡ get_or ns place 0 → true ≡ fits_within one.depth many depth x → true ≡ is_after last.depth last.number deep one.number
              → read_from rest more (record { depth = deep; number = one.number }) ≡ read_from whole left last
          fits-here many m e f =
              rw (depth_is, ← number_is)
              (first_fits hs depth last x (parts 512 more rest) (e ∙ fits-is many m) (f ∙ after_is) ∙ first-here)

-- ---- those of a session

-- the open ones are those that its scopes hold
pub fit-open : (ss : Scopes) (l : List Scope) → l ≡ open_of ss → (ns : List ℕ) (depth : ℕ) (xs : List Bytes)
    → selections_fit (homes_of l ns) depth xs ≡ selections_fit (homes (records_of ss) ns) depth xs
unfolding records_of
fit-open ss l e ns depth xs = rw e
