-- Places of one width, one behind the other in an area: what is written there is read again, what is appended is read behind the old ones, and what
-- is given up is not read. By induction on the number of places, cutting the area at `width * number`.
-- Assumes nothing.
use Prim.Native.Nat.{ℕ, zero, suc, ◌+◌, ◌*◌, ◌≤◌}
use native.Mathlib.Nat.{add_comm, add-zero, zero-add, suc-add, mul-zero, mul-suc}
use native.Mathlib.Omega.{arith}
use lib.ListN.{length, take, drop, length-append, length-take, length-drop, take-append-drop}
use lib.Seq.{take_at, drop_at, take-append-le, drop-append-le, length-take-le}
use mathlib.Core.Path.{◌≡◌, refl, ap, sym, ◌∙◌}
use mathlib.Core.List.{List, [], ◌∷◌, ◌++◌, flat_map, append-nil, append_assoc}
use mathlib.Core.Option.{Option, none, some, map, some-injective}
use Rattle.std.proofs.lemmas.List.{nil_from_length}
use Rattle.lists.specs.Lists.{over, All}
use Rattle.paths.specs.Reading.{on_some, every}
use Rattle.paths.proofs.Sure.{some-parts}
use Rattle.records.specs.Readers.{Bytes}
use Rattle.session_spec.specs.Layout.{parts}

-- ---- what `every` reads

-- a first one and the others
pub record Each {A B : Type 0} (f : B → Option A) (x : B) (xs : List B) (l : List A) : Type 0 where
  pub head : A
  pub rest : List A
  pub head_is : f x ≡ some head
  pub rest_is : every f xs ≡ some rest
  pub split : l ≡ head ∷ rest

module _ {A B : Type 0} (f : B → Option A) where
  pub every-cons : (x : B) (xs : List B) (a : A) (l : List A) → f x ≡ some a → every f xs ≡ some l → every f (x ∷ xs) ≡ some (a ∷ l)
  unfolding every on_some
  every-cons x xs a l h g = rw (h, g)

  pub every-uncons : (x : B) (xs : List B) (l : List A) → every f (x ∷ xs) ≡ some l → Each f x xs l
  unfolding every
  every-uncons x xs l h =
      let p = some-parts (f x) (λ b. map (λ m. b ∷ m) (every f xs)) l h in
      by p.0 p.1 (every f xs) refl p.2
    where
      by : (a : A) → f x ≡ some a → (o : Option (List A)) → every f xs ≡ o → map (λ m. a ∷ m) o ≡ some l → Each f x xs l
      by a q none e k = let z : ◌≡◌ {A = ℕ} 0 1 = cc in absurd (omega arith)
      by a q (some m) e k = record { head = a; rest = m; head_is = q; rest_is = e; split = sym (some-injective (a ∷ m) l k) }

  pub every-concat : (xs ys : List B) (l k : List A) → every f xs ≡ some l → every f ys ≡ some k → every f (xs ++ ys) ≡ some (l ++ k)
  every-concat [] ys l k h g = rw (← some-injective [] l (unfold every in h)) g
  every-concat (x ∷ xs) ys l k h g =
      let p = every-uncons x xs l h in
      rw p.split (every-cons x (xs ++ ys) p.head (p.rest ++ k) p.head_is (every-concat xs ys p.rest k p.rest_is g))

  pub every-length : (xs : List B) (l : List A) → every f xs ≡ some l → length l ≡ length xs
  every-length [] l h = rw (← some-injective [] l (unfold every in h))
  every-length (x ∷ xs) l h = let p = every-uncons x xs l h in rw p.split (ap suc (every-length xs p.rest p.rest_is))

  pub every_front : (xs ys : List B) (l k : List A) → length l ≡ length xs → every f (xs ++ ys) ≡ some (l ++ k) → every f xs ≡ some l
  every_front [] ys [] k n h = unfold every in refl
  every_front [] ys (b ∷ l) k n h = absurd (omega arith)
  every_front (x ∷ xs) ys [] k n h = absurd (omega arith)
  every_front (x ∷ xs) ys (b ∷ l) k n h =
      let p = every-uncons x (xs ++ ys) (b ∷ (l ++ k)) h in
      let s : b ∷ (l ++ k) ≡ p.head ∷ p.rest = p.split in
      let a : p.head ≡ b = cc in
      let r : p.rest ≡ l ++ k = cc in
      every-cons x xs b l (p.head_is ∙ ap some a) (every_front xs ys l k (omega arith) (p.rest_is ∙ ap some r))

  -- what all that is read has
  pub every-all : (P : B → Type 0) (Q : A → Type 0) → ((x : B) (a : A) → P x → f x ≡ some a → Q a) → (xs : List B) (l : List A) → All P xs → every f xs ≡ some l
      → All Q l
  every-all P Q g [] l a h = rw (← some-injective [] l (unfold every in h)) tt
  every-all P Q g (x ∷ xs) l a h =
      let p = every-uncons x xs l h in
      rw p.split (g x p.head a.0 p.head_is, every-all P Q g xs p.rest a.1 p.rest_is)

-- ---- places

pub parts-length : (w n : ℕ) (xs : Bytes) → length (parts w n xs) ≡ n
unfolding parts
parts-length w zero xs = refl
parts-length w (suc n) xs = ap suc (parts-length w n (drop w xs))

pub parts-short : (w n : ℕ) (xs : Bytes) → All (λ (p : Bytes). length p ≤ w) (parts w n xs)
unfolding parts
parts-short w zero xs = tt
parts-short w (suc n) xs = (rw (length-take w xs) (omega arith), parts-short w n (drop w xs))

-- the places in front, and those behind
pub parts-append : (w m n : ℕ) (us vs : Bytes) → length us ≡ w * m → parts w (m + n) (us ++ vs) ≡ parts w m us ++ parts w n vs
unfolding parts
parts-append w zero n us vs h =
    let e : us ≡ [] = nil_from_length us (h ∙ mul-zero w) in
    rw (e, zero-add n)
parts-append w (suc m) n us vs h =
    let l : w ≤ length us = rw h (rw mul-suc (omega arith)) in
    let d : length (drop w us) ≡ w * m = length-drop w us ∙ rw (h, mul-suc w m) (omega arith) in
    rw (suc-add m n, take-append-le w us vs l, drop-append-le w us vs l, parts-append w m n (drop w us) vs d)

module _ {A : Type 0} (w : ℕ) (f : Bytes → Option A) (area : Bytes) where
  -- the first `m` places lie in the first `w * m` bytes
  front-parts : (m n : ℕ) → w * m ≤ length area → parts w (m + n) area ≡ parts w m (take (w * m) area) ++ parts w n (drop (w * m) area)
  front-parts m n h =
      ap (parts w (m + n)) (sym (take-append-drop (w * m) area)) ∙ parts-append w m n (take (w * m) area) (drop (w * m) area) (length-take-le (w * m) area h)

  front-only : (m : ℕ) → w * m ≤ length area → parts w m area ≡ parts w m (take (w * m) area)
  front-only m h = ap (λ (n : ℕ). parts w n area) (sym (add-zero m)) ∙ front-parts m 0 h ∙ unfold parts in (append-nil (parts w m (take (w * m) area)))

  -- fewer places
  pub fewer : (l k : List A) → w * length l ≤ length area → every f (parts w (length (l ++ k)) area) ≡ some (l ++ k) → every f (parts w (length l) area) ≡ some l
  fewer l k h e =
      let q : parts w (length l) area ≡ parts w (length l) (take (w * length l) area) = front-only (length l) h in
      rw q (every_front f (parts w (length l) (take (w * length l) area)) (parts w (length k) (drop (w * length l) area)) l k (sym (parts-length w (length l) (take (w * length l) area)))
      (rw (length-append l k, front-parts (length l) (length k) h) at e))

  -- more places, written behind the old ones
  pub further : (l k : List A) (bs : Bytes) → w * length l ≤ length area → every f (parts w (length l) area) ≡ some l
      → ((rest : Bytes) → every f (parts w (length k) (bs ++ rest)) ≡ some k) → every f (parts w (length (l ++ k)) (over area (w * length l) bs)) ≡ some (l ++ k)
  further l k bs h e g =
      let q : parts w (length l) area ≡ parts w (length l) (take (w * length l) area) = front-only (length l) h in
      rw (length-append l k, parts-append w (length l) (length k) (take (w * length l) area) (bs ++ drop (w * length l + length bs) area) (length-take-le (w * length l) area h))
      (every-concat f (parts w (length l) (take (w * length l) area)) (parts w (length k) (bs ++ drop (w * length l + length bs) area)) l k (rw q at e) (g (drop (w * length l + length bs) area)))

-- ---- written places

-- ONE LAW for places of width `w`: `get` gives back what `put` writes there of an `a` that is fit
module _ {A : Type 0} (w : ℕ) (put : A → Bytes) (get : Bytes → Option A) (Fit : A → Type 0)
    (width : (a : A) → Fit a → length (put a) ≡ w) (back : (a : A) → Fit a → get (put a) ≡ some a) where
  pub places-back : (l : List A) (rest : Bytes) → All Fit l → every get (parts w (length l) (flat_map put l ++ rest)) ≡ some l
  unfolding every parts flat_map on_some
  places-back [] rest h = refl
  places-back (a ∷ l) rest h =
      rw (
        append_assoc (put a) (flat_map put l) rest,
        take_at (put a) (flat_map put l ++ rest) w (width a h.0),
        drop_at (put a) (flat_map put l ++ rest) w (width a h.0),
        back a h.0,
        places-back l rest h.1,
      )

  pub places-length : (l : List A) → All Fit l → length (flat_map put l) ≡ w * length l
  unfolding flat_map
  places-length [] h = omega arith
  places-length (a ∷ l) h =
      length-append (put a) (flat_map put l) ∙ rw (width a h.0, places-length l h.1) (step (length l))
    where
      step : (n : ℕ) → w + w * n ≡ w * suc n
      step n = rw mul-suc (add_comm w (w * n))
