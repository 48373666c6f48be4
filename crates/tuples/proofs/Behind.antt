-- What is left of bytes behind so many records or texts: one less behind the first. By induction on their number.
-- Assumes nothing.
use Prim.Native.Nat.{ℕ, zero, suc, ◌-◌, ◌≤◌, ◌<◌}
use native.Mathlib.Omega.{arith}
use mathlib.Core.Path.{◌≡◌, refl, ◌∙◌}
use mathlib.Core.List.{List, ◌∷◌}
use mathlib.Core.Option.{Option, none, some, map}
use Rattle.records.specs.Readers.{Bytes, Reader, on_read, ◌>>=◌, pass, times, on_behind, record_at, bytes_from}

module _ {A : Type 0} (p : Reader A) where
  -- what is left behind so many is what `times` leaves
  pub from-times : (n : ℕ) (xs : Bytes) → bytes_from n p xs ≡ map (λ q. q.1) (times n p xs)
  unfolding bytes_from times on_behind pass ◌>>=◌ on_read
  from-times zero xs = refl
  from-times (suc n) xs = by (p xs) (λ ys. from-times n ys)
    where
      tail : (a : A) (o : Option (List A × Bytes)) → map (λ q. q.1) o ≡ map (λ q. q.1) (on_read o (λ l. pass (a ∷ l)))
      tail a none = refl
      tail a (some q) = refl

      by : (o : Option (A × Bytes)) → ((ys : Bytes) → bytes_from n p ys ≡ map (λ q. q.1) (times n p ys))
          → on_behind o (bytes_from n p) ≡ map (λ q. q.1) (on_read o (λ a. times n p >>= (λ l. pass (a ∷ l))))
      by none ih = refl
      by (some q) ih = ih q.1 ∙ tail q.0 (times n p q.1)

  -- one more is read, and what stands behind it
  pub from_on : (n : ℕ) (xs : Bytes) (a : A) (r : Bytes) → 0 < n → p xs ≡ some (a, r) → bytes_from n p xs ≡ bytes_from (n - 1) p r
  unfolding bytes_from on_behind
  from_on zero xs a r h e = absurd (omega arith)
  from_on (suc n) xs a r h e = let m : suc n - 1 ≡ n = omega arith in rw (e, m)

  pub from-stop : (n : ℕ) (xs : Bytes) → 0 < n → p xs ≡ none → bytes_from n p xs ≡ none
  unfolding bytes_from on_behind
  from-stop zero xs h e = absurd (omega arith)
  from-stop (suc n) xs h e = rw e

  pub from_end : (n : ℕ) (xs : Bytes) → n ≤ 0 → bytes_from n p xs ≡ some xs
  unfolding bytes_from
  from_end zero xs h = refl
  from_end (suc n) xs h = absurd (omega arith)

  -- the record with number n stands there
  unfoldable pub first_of : Option Bytes → Option A
  first_of none = none
  first_of (some xs) = map (λ q. q.0) (p xs)

  pub record-there : (n : ℕ) (xs : Bytes) → record_at n p xs ≡ first_of (bytes_from n p xs)
  unfolding bytes_from record_at on_behind first_of
  record-there zero xs = refl
  record-there (suc n) xs = by (p xs) (λ ys. record-there n ys)
    where
      by : (o : Option (A × Bytes)) → ((ys : Bytes) → record_at n p ys ≡ first_of (bytes_from n p ys)) → on_behind o (record_at n p) ≡ first_of (on_behind o (bytes_from n p))
      by none ih = refl
      by (some q) ih = ih q.1
