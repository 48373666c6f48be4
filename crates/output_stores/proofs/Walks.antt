-- A walk over a store, one record after the other: what a reader reads leaves fewer bytes, so that no bound on their number counts, and the store
-- is its front record and what stands behind it. With a bound no more are read than it says.
-- Assumes nothing.
use Prim.Native.Nat.{ℕ, zero, suc, ◌≤◌, ◌<◌}
use native.Mathlib.Omega.{arith}
use lib.Dec.{leb}
use lib.ListN.{length}
use borrow.Author.Tests.{leb-true, leb-false}
use mathlib.Core.Path.{◌≡◌, refl, ap, sym, ◌∙◌}
use mathlib.Core.Bool.{Bool, true, false}
use mathlib.Core.List.{List, [], ◌∷◌}
use mathlib.Core.Option.{Option, none, some, map, map-eq-some_iff}
use Rattle.records.specs.Readers.{Bytes, Reader, on_rest, read_all, reads, on_whole, up_to}
use Rattle.output_stores.specs.Stores.{standing}

module _ {A : Type 0} (p : Reader A) where
  -- what is read leaves fewer bytes
  abbrev pub Shortens : Type 0
  Shortens = (xs : Bytes) (a : A) (r : Bytes) → p xs ≡ some (a, r) → length r < length xs

  module _ (s : Shortens) where
    nothing_read : (o : Option (A × Bytes)) → p [] ≡ o → o ≡ none
    nothing_read none e = refl
    nothing_read (some q) e = absurd (let h = s [] q.0 q.1 e in omega arith)

    -- ---- bounds that are long enough are alike

    all_alike : (fs gs xs : Bytes) → length xs ≤ length fs → length xs ≤ length gs → read_all p fs xs ≡ read_all p gs xs
    unfolding read_all on_rest
    all_alike [] [] [] f g = refl
    all_alike [] (y ∷ gs) [] f g = refl
    all_alike (x ∷ fs) [] [] f g = refl
    all_alike (x ∷ fs) (y ∷ gs) [] f g = refl
    all_alike [] gs (z ∷ xs) f g = absurd (omega arith)
    all_alike (x ∷ fs) [] (z ∷ xs) f g = absurd (omega arith)
    all_alike (x ∷ fs) (y ∷ gs) (z ∷ xs) f g = by (p (z ∷ xs)) refl (λ r. all_alike fs gs r)
      where
        by : (o : Option (A × Bytes)) → p (z ∷ xs) ≡ o → ((r : Bytes) → length r ≤ length fs → length r ≤ length gs → read_all p fs r ≡ read_all p gs r)
            → on_rest o (λ r. read_all p fs r) ≡ on_rest o (λ r. read_all p gs r)
        by none e ih = refl
        by (some q) e ih = let h = s (z ∷ xs) q.0 q.1 e in rw (ih q.1 (omega arith) (omega arith))

    up_to-alike : (m n : ℕ) (xs : Bytes) → length xs ≤ m → length xs ≤ n → up_to m p xs ≡ up_to n p xs
    unfolding up_to on_whole
    up_to-alike zero zero xs f g = refl
    up_to-alike zero (suc n) [] f g = rw (nothing_read (p []) refl)
    up_to-alike zero (suc n) (x ∷ xs) f g = absurd (omega arith)
    up_to-alike (suc m) zero [] f g = rw (nothing_read (p []) refl)
    up_to-alike (suc m) zero (x ∷ xs) f g = absurd (omega arith)
    up_to-alike (suc m) (suc n) xs f g = by (p xs) refl (λ r. up_to-alike m n r)
      where
        by : (o : Option (A × Bytes)) → p xs ≡ o → ((r : Bytes) → length r ≤ m → length r ≤ n → up_to m p r ≡ up_to n p r)
            → on_whole o (up_to m p) ≡ on_whole o (up_to n p)
        by none e ih = refl
        by (some q) e ih = let h = s xs q.0 q.1 e in rw (ih q.1 (omega arith) (omega arith))

    -- ---- the front record, and what stands behind it

    pub reads_on : (xs : Bytes) (a : A) (r : Bytes) → p xs ≡ some (a, r) → reads p xs ≡ map (λ l. a ∷ l) (reads p r)
    unfolding reads read_all on_rest
    reads_on [] a r e = absurd (let h = s [] a r e in omega arith)
    reads_on (x ∷ xs) a r e = let h = s (x ∷ xs) a r e in rw (e, all_alike xs r r (omega arith) (omega arith))

    pub reads-stop : (xs : Bytes) → 0 < length xs → p xs ≡ none → reads p xs ≡ none
    unfolding reads read_all on_rest
    reads-stop [] h e = absurd (omega arith)
    reads-stop (x ∷ xs) h e = rw e

    pub standing_on : (xs : Bytes) (a : A) (r : Bytes) → p xs ≡ some (a, r) → standing p xs ≡ a ∷ standing p r
    unfolding standing up_to on_whole
    standing_on [] a r e = absurd (let h = s [] a r e in omega arith)
    standing_on (x ∷ xs) a r e = let h = s (x ∷ xs) a r e in rw (e, up_to-alike (length xs) (length r) r (omega arith) (omega arith))

    pub standing-stop : (xs : Bytes) → p xs ≡ none → standing p xs ≡ []
    unfolding standing up_to on_whole
    standing-stop [] e = refl
    standing-stop (x ∷ xs) e = rw e

  pub reads_end : (xs : Bytes) → length xs ≤ 0 → reads p xs ≡ some []
  unfolding reads read_all
  reads_end [] h = refl
  reads_end (x ∷ xs) h = absurd (omega arith)

  pub standing-end : (xs : Bytes) → length xs ≤ 0 → standing p xs ≡ []
  unfolding standing up_to
  standing-end [] h = refl
  standing-end (x ∷ xs) h = absurd (omega arith)

-- no more are read than the bound says
pub up_to-count : {A : Type 0} (p : Reader A) (n : ℕ) (xs : Bytes) → length (up_to n p xs) ≤ n
unfolding up_to on_whole
up_to-count p zero xs = omega arith
up_to-count {A} p (suc n) xs = by (p xs) (up_to-count p n)
  where
    by : (o : Option (A × Bytes)) → ((r : Bytes) → length (up_to n p r) ≤ n) → length (on_whole o (up_to n p)) ≤ suc n
    by none ih = omega arith
    by (some q) ih = let h = ih q.1 in omega arith

-- ---- in a store that reads, its records stand

module _ {A : Type 0} (p : Reader A) (s : Shortens p) where
  all-standing : (fs xs : Bytes) (l : List A) → read_all p fs xs ≡ some l → up_to (length fs) p xs ≡ l
  unfolding read_all up_to on_rest on_whole
  all-standing [] [] l h = cc
  all-standing [] (x ∷ xs) l h = let z : ◌≡◌ {A = ℕ} 0 1 = cc in absurd (omega arith)
  all-standing (f ∷ fs) [] l h = rw (nothing_read p s (p []) refl) (cc)
  all-standing (f ∷ fs) (x ∷ xs) l h = by (p (x ∷ xs)) h (λ r. all-standing fs r)
    where
      by : (o : Option (A × Bytes)) → on_rest o (λ r. read_all p fs r) ≡ some l → ((r : Bytes) (k : List A) → read_all p fs r ≡ some k → up_to (length fs) p r ≡ k)
          → on_whole o (up_to (length fs) p) ≡ l
      by none h ih = let z : ◌≡◌ {A = ℕ} 0 1 = cc in absurd (omega arith)
      by (some q) h ih =
          let m = (map-eq-some_iff (λ k. q.0 ∷ k) (read_all p fs q.1)).0 h in
          rw (ih q.1 m.0 m.1) m.2

  pub reads-standing : (xs : Bytes) (l : List A) → reads p xs ≡ some l → standing p xs ≡ l
  unfolding reads standing
  reads-standing xs l h = all-standing xs xs l h

  -- the first record of a store that reads, and what stands behind it
  pub reads_first : (xs : Bytes) (a : A) (k : List A) → reads p xs ≡ some (a ∷ k) → (r : Bytes) × (p xs ≡ some (a, r)) × (reads p r ≡ some k)
  reads_first xs a k h = by (p xs) refl (leb 1 (length xs)) refl
    where
      by : (o : Option (A × Bytes)) → p xs ≡ o → (b : Bool) → leb 1 (length xs) ≡ b → (r : Bytes) × (p xs ≡ some (a, r)) × (reads p r ≡ some k)
      by o e false l = let z : ◌≡◌ {A = ℕ} 0 1 = cc (reads_end p xs (let g = leb-false 1 (length xs) l in omega arith)) in absurd (omega arith)
      by none e true l = let z : ◌≡◌ {A = ℕ} 0 1 = cc (reads-stop p s xs (leb-true 1 (length xs) l) e) in absurd (omega arith)
      by (some q) e true l =
          let m = (map-eq-some_iff (λ k. q.0 ∷ k) (reads p q.1)).0 (sym (reads_on p s xs q.0 q.1 e) ∙ h) in
          let f : q.0 ≡ a = cc m.2 in
          let g : m.0 ≡ k = cc m.2 in
          (q.1, e ∙ ap (λ (x : A). some (x, q.1)) f, m.1 ∙ ap some g)

  pub reads_nothing : (xs : Bytes) → reads p xs ≡ some [] → xs ≡ []
  reads_nothing xs h = by xs (p xs) refl h
    where
      by : (ys : Bytes) (o : Option (A × Bytes)) → p ys ≡ o → reads p ys ≡ some [] → ys ≡ []
      by [] o e h = refl
      by (y ∷ ys) none e h = let z : ◌≡◌ {A = ℕ} 0 1 = cc (reads-stop p s (y ∷ ys) (omega arith) e) in absurd (omega arith)
      by (y ∷ ys) (some q) e h =
          let m = (map-eq-some_iff (λ k. q.0 ∷ k) (reads p q.1)).0 (sym (reads_on p s (y ∷ ys) q.0 q.1 e) ∙ h) in
          let z : ◌≡◌ {A = ℕ} 0 1 = cc m.2 in absurd (omega arith)
