-- ONE LAW for stores of self-delimiting records: two stores that read, one behind the other, read as both lists. It asks of
-- a reader only that bytes behind those it takes change nothing. And a store that holds written records, and nothing else, reads as those.
-- Assumes nothing.
use Prim.Native.Nat.{ℕ, zero, suc, ◌+◌, ◌*◌, ◌<◌}
use native.Mathlib.Omega.{arith}
use lib.ListN.{length}
use mathlib.Core.Path.{◌≡◌, refl, ap, ◌∙◌}
use mathlib.Core.Bool.{Bool, true, false}
use mathlib.Core.List.{List, [], ◌∷◌, ◌++◌, map, flat_map, append-nil}
use mathlib.Core.Option
use mathlib.Core.Option.{Option, none, some}
use Rattle.records.specs.Readers.{Bytes, Reader, on_read, ◌>>=◌, pass, require, read_byte, read_two, read_four, cons_on, read_bytes, read_text, times, on_rest, read_all, reads}

-- ---- bytes behind those that a reader takes change nothing

abbrev pub Stable : {A : Type 0} → Reader A → Type 0
Stable {A} p = (xs ys : Bytes) (a : A) (r : Bytes) → p xs ≡ some (a, r) → p (xs ++ ys) ≡ some (a, r ++ ys)

pub bind-stable : {A C : Type 0} (p : Reader A) (f : A → Reader C) → Stable p → ((a : A) → Stable (f a)) → Stable (p >>= f)
unfolding ◌>>=◌ on_read
bind-stable {A} {C} p f s t xs ys c r h = by (p xs) refl h
  where
    by : (o : Option (A × Bytes)) → p xs ≡ o → on_read o f ≡ some (c, r) → on_read (p (xs ++ ys)) f ≡ some (c, r ++ ys)
    by none e h = let z : ◌≡◌ {A = ℕ} 0 1 = cc in absurd (omega arith)
    by (some q) e h = rw (s xs ys q.0 q.1 e) (t q.0 q.1 ys c r h)

-- the rest grows
longer : {A : Type 0} (ys : Bytes) (p q : A × Bytes) → some p ≡ some q → ◌≡◌ {A = Option (A × Bytes)} (some (p.0, p.1 ++ ys)) (some (q.0, q.1 ++ ys))
longer {A} ys p q h = let e : p ≡ q = cc in ap (λ (r : A × Bytes). some (r.0, r.1 ++ ys)) e

pub pass-stable : {A : Type 0} (a : A) → Stable (pass a)
unfolding pass
pass-stable a xs ys b r h = longer ys (a, xs) (b, r) h

pub require-stable : (b : Bool) → Stable (require b)
unfolding require
require-stable true xs ys b r h = longer ys (true, xs) (b, r) h
require-stable false xs ys b r h = let z : ◌≡◌ {A = ℕ} 0 1 = cc in absurd (omega arith)

pub byte-stable : Stable read_byte
unfolding read_byte
byte-stable [] ys a r h = let z : ◌≡◌ {A = ℕ} 0 1 = cc in absurd (omega arith)
byte-stable (x ∷ xs) ys a r h = longer ys (x, xs) (a, r) h

pub two-stable : Stable read_two
unfolding read_two
two-stable = bind-stable read_byte _ byte-stable (λ a. bind-stable read_byte _ byte-stable (λ b. pass-stable (a + 256 * b)))

pub four-stable : Stable read_four
unfolding read_four
four-stable = bind-stable read_two _ two-stable (λ a. bind-stable read_two _ two-stable (λ b. pass-stable (a + 65536 * b)))

pub bytes-stable : (n : ℕ) → Stable (read_bytes n)
unfolding read_bytes
bytes-stable zero xs ys a r h = longer ys ([], xs) (a, r) h
bytes-stable (suc n) [] ys a r h = let z : ◌≡◌ {A = ℕ} 0 1 = cc in absurd (omega arith)
bytes-stable (suc n) (x ∷ xs) ys a r h = by (read_bytes n xs) h (bytes-stable n xs ys)
  where
    by : (o : Option (Bytes × Bytes)) → cons_on x o ≡ some (a, r) → ((c : Bytes) (q : Bytes) → o ≡ some (c, q) → read_bytes n (xs ++ ys) ≡ some (c, q ++ ys))
        → cons_on x (read_bytes n (xs ++ ys)) ≡ some (a, r ++ ys)
    by none h ih = unfold cons_on in (let z : ◌≡◌ {A = ℕ} 0 1 = cc in absurd (omega arith))
    by (some q) h ih = rw (ih q.0 q.1 refl) (unfold cons_on in longer ys (x ∷ q.0, q.1) (a, r) h)

pub text-stable : Stable read_text
unfolding read_text
text-stable = bind-stable read_two read_bytes two-stable bytes-stable

pub times-stable : {A : Type 0} (p : Reader A) → Stable p → (n : ℕ) → Stable (times n p)
unfolding times
times-stable p s zero = pass-stable []
times-stable p s (suc n) = bind-stable p _ s (λ a. bind-stable (times n p) _ (times-stable p s n) (λ l. pass-stable (a ∷ l)))

-- ---- one store behind another

-- what is read of the rest may be told another way, and something put behind it
rest_then : {A : Type 0} (x : A) (f g : Option (List A)) (k e : List A) → ((l : List A) → f ≡ some l → g ≡ some (l ++ e)) → Option.map (λ l. x ∷ l) f ≡ some k
    → Option.map (λ l. x ∷ l) g ≡ some (k ++ e)
rest_then {A} x none g k e t h = let z : ◌≡◌ {A = ℕ} 0 1 = cc in absurd (omega arith)
rest_then {A} x (some l) g k e t h = let q : x ∷ l ≡ k = cc in rw (t l refl, ← q)

module _ {A : Type 0} (p : Reader A) where
  more-fuel : (f : ℕ) (gs ys : Bytes) (k : List A) → read_all p gs ys ≡ some k → read_all p (f ∷ gs) ys ≡ some k
  unfolding read_all on_rest
  more-fuel f [] [] k h = h
  more-fuel f [] (y ∷ ys) k h = let z : ◌≡◌ {A = ℕ} 0 1 = cc in absurd (omega arith)
  more-fuel f (g ∷ gs) [] k h = h
  more-fuel f (g ∷ gs) (y ∷ ys) k h = by (p (y ∷ ys)) h (λ (r : Bytes). more-fuel g gs r)
    where
      by : (o : Option (A × Bytes)) → on_rest o (λ r. read_all p gs r) ≡ some k → ((r : Bytes) (l : List A) → read_all p gs r ≡ some l → read_all p (g ∷ gs) r ≡ some l)
          → on_rest o (λ r. read_all p (g ∷ gs) r) ≡ some k
      by none h ih = let z : ◌≡◌ {A = ℕ} 0 1 = cc in absurd (omega arith)
      by (some q) h ih =
          rest_then q.0 (read_all p gs q.1) (read_all p (g ∷ gs) q.1) k [] (λ l e. ih q.1 l e ∙ rw append-nil) h ∙ rw append-nil

  all-fuel : (js gs ys : Bytes) (k : List A) → read_all p gs ys ≡ some k → read_all p (js ++ gs) ys ≡ some k
  all-fuel [] gs ys k h = h
  all-fuel (j ∷ js) gs ys k h = more-fuel j (js ++ gs) ys k (all-fuel js gs ys k h)

module _ {A : Type 0} (p : Reader A) (s : Stable p) (gs ys : Bytes) (k : List A) (behind : read_all p gs ys ≡ some k) where
  concat : (fs xs : Bytes) (l : List A) → read_all p fs xs ≡ some l → read_all p (fs ++ gs) (xs ++ ys) ≡ some (l ++ k)
  unfolding read_all on_rest
  concat [] [] l h = let q : [] ≡ l = cc in rw (← q) behind
  concat [] (x ∷ xs) l h = let z : ◌≡◌ {A = ℕ} 0 1 = cc in absurd (omega arith)
  concat (f ∷ fs) [] l h = let q : [] ≡ l = cc in rw (← q) (all-fuel p (f ∷ fs) gs ys k behind)
  concat (f ∷ fs) (x ∷ xs) l h = by (p (x ∷ xs)) refl h (λ (r : Bytes). concat fs r)
    where
      by : (o : Option (A × Bytes)) → p (x ∷ xs) ≡ o → on_rest o (λ r. read_all p fs r) ≡ some l
          → ((r : Bytes) (m : List A) → read_all p fs r ≡ some m → read_all p (fs ++ gs) (r ++ ys) ≡ some (m ++ k))
          → on_rest (p (x ∷ (xs ++ ys))) (λ r. read_all p (fs ++ gs) r) ≡ some (l ++ k)
      by none e h ih = let z : ◌≡◌ {A = ℕ} 0 1 = cc in absurd (omega arith)
      by (some q) e h ih =
          rw (s (x ∷ xs) ys q.0 q.1 e)
          (rest_then q.0 (read_all p fs q.1) (read_all p (fs ++ gs) (q.1 ++ ys)) l k (λ m e. ih q.1 m e) h)

-- THE LAW
pub reads-concat : {A : Type 0} (p : Reader A) → Stable p → (xs ys : Bytes) (l k : List A) → reads p xs ≡ some l → reads p ys ≡ some k
    → reads p (xs ++ ys) ≡ some (l ++ k)
unfolding reads
reads-concat p s xs ys l k h g = concat p s ys ys k g xs xs l h

-- ---- written records

-- one alone
pub reads-one : {A : Type 0} (p : Reader A) (bs : Bytes) (a : A) → p bs ≡ some (a, []) → 0 < length bs → reads p bs ≡ some (a ∷ [])
unfolding reads read_all on_rest
reads-one p [] a h n = absurd (omega arith)
reads-one {A} p (x ∷ xs) a h n = rw (h, ended xs)
  where
    ended : (fs : Bytes) → read_all p fs [] ≡ some []
    ended [] = refl
    ended (f ∷ fs) = refl

module _ {A : Type 0} (p : Reader A) (s : Stable p) where
  -- one more behind a store
  pub reads_more : (xs bs : Bytes) (l : List A) (a : A) → reads p xs ≡ some l → reads p bs ≡ some (a ∷ []) → reads p (xs ++ bs) ≡ some (l ++ (a ∷ []))
  reads_more xs bs l a h g = reads-concat p s xs bs l (a ∷ []) h g

  -- a store that holds what `put` writes of the members of `l`, and nothing else, reads as these, where each one alone does
  pub reads-back : {C : Type 0} (put : C → Bytes) (read : C → A) → ((c : C) → reads p (put c) ≡ some (read c ∷ []))
      → (l : List C) → reads p (flat_map put l) ≡ some (map read l)
  unfolding flat_map
  reads-back put read one [] = unfold reads read_all in refl
  reads-back put read one (c ∷ l) = reads-concat p s (put c) (flat_map put l) (read c ∷ []) (map read l) (one c) (reads-back put read one l)
