-- How many bytes a reader takes at the least: one reader behind another takes what both do. So nothing is read of fewer bytes, and what is read
-- leaves fewer.
-- Assumes nothing.
use Prim.Native.Nat.{ℕ, zero, suc, ◌+◌, ◌*◌, ◌≤◌, ◌<◌}
use native.Mathlib.Omega.{arith}
use lib.ListN.{length}
use mathlib.Core.Path.{◌≡◌, refl, ap}
use mathlib.Core.Bool.{Bool, true, false}
use mathlib.Core.List.{[], ◌∷◌}
use mathlib.Core.Option.{Option, none, some, some-injective}
use Rattle.records.specs.Readers.{Bytes, Reader, on_read, ◌>>=◌, pass, require, read_byte, read_two, read_four, cons_on, read_bytes, read_text, times}
use Rattle.output_stores.proofs.Walks.{Shortens}

abbrev pub AtLeast : {A : Type 0} → ℕ → Reader A → Type 0
AtLeast {A} n p = (xs : Bytes) (a : A) (r : Bytes) → p xs ≡ some (a, r) → n + length r ≤ length xs

-- ---- what follows

pub too_short : {A : Type 0} (n : ℕ) (p : Reader A) → AtLeast n p → (xs : Bytes) → length xs < n → p xs ≡ none
too_short {A} n p t xs h = by (p xs) refl
  where
    by : (o : Option (A × Bytes)) → p xs ≡ o → o ≡ none
    by none e = refl
    by (some q) e = absurd (let k = t xs q.0 q.1 e in omega arith)

pub shortens : {A : Type 0} (n : ℕ) (p : Reader A) → AtLeast n p → 0 < n → Shortens p
shortens n p t h xs a r e = let k = t xs a r e in omega arith

-- ---- one behind another

pub bind-least : {A C : Type 0} (n m : ℕ) (p : Reader A) (f : A → Reader C) → AtLeast n p → ((a : A) → AtLeast m (f a)) → AtLeast (n + m) (p >>= f)
unfolding ◌>>=◌ on_read
bind-least {A} {C} n m p f t u xs c r h = by (p xs) refl h
  where
    by : (o : Option (A × Bytes)) → p xs ≡ o → on_read o f ≡ some (c, r) → n + m + length r ≤ length xs
    by none e h = let z : ◌≡◌ {A = ℕ} 0 1 = cc in absurd (omega arith)
    by (some q) e h = let k = t xs q.0 q.1 e in let l = u q.0 q.1 c r h in omega arith

-- the bytes that are left, where nothing is taken
left-as-is : {A : Type 0} (a b : A) (xs r : Bytes) → ◌≡◌ {A = Option (A × Bytes)} (some (a, xs)) (some (b, r)) → xs ≡ r
left-as-is {A} a b xs r h = ap (λ (q : A × Bytes). q.1) (some-injective _ _ h)

pub pass-least : {A : Type 0} (a : A) → AtLeast 0 (pass a)
unfolding pass
pass-least a xs b r h = let e = ap length (left-as-is a b xs r h) in omega arith

pub require-least : (b : Bool) → AtLeast 0 (require b)
unfolding require
require-least true xs b r h = let e = ap length (left-as-is true b xs r h) in omega arith
require-least false xs b r h = let z : ◌≡◌ {A = ℕ} 0 1 = cc in absurd (omega arith)

pub byte-least : AtLeast 1 read_byte
unfolding read_byte
byte-least [] a r h = let z : ◌≡◌ {A = ℕ} 0 1 = cc in absurd (omega arith)
byte-least (x ∷ xs) a r h = let e = ap length (left-as-is x a xs r h) in omega arith

pub two-least : AtLeast 2 read_two
unfolding read_two
two-least = bind-least 1 1 read_byte _ byte-least (λ a. bind-least 1 0 read_byte _ byte-least (λ b. pass-least (a + 256 * b)))

pub four-least : AtLeast 4 read_four
unfolding read_four
four-least = bind-least 2 2 read_two _ two-least (λ a. bind-least 2 0 read_two _ two-least (λ b. pass-least (a + 65536 * b)))

pub bytes-least : (n : ℕ) → AtLeast 0 (read_bytes n)
unfolding read_bytes cons_on
bytes-least zero xs a r h = let e = ap length (left-as-is [] a xs r h) in omega arith
bytes-least (suc n) [] a r h = let z : ◌≡◌ {A = ℕ} 0 1 = cc in absurd (omega arith)
bytes-least (suc n) (x ∷ xs) a r h = by (read_bytes n xs) h (bytes-least n xs)
  where
    by : (o : Option (Bytes × Bytes)) → cons_on x o ≡ some (a, r) → ((b q : Bytes) → o ≡ some (b, q) → 0 + length q ≤ length xs) → 0 + length r ≤ suc (length xs)
    by none h ih = let z : ◌≡◌ {A = ℕ} 0 1 = cc in absurd (omega arith)
    by (some q) h ih = let k = ih q.0 q.1 refl in let e = ap length (left-as-is (x ∷ q.0) a q.1 r h) in omega arith

pub text-least : AtLeast 2 read_text
unfolding read_text
text-least = bind-least 2 0 read_two read_bytes two-least bytes-least

pub times-least : {A : Type 0} (p : Reader A) → AtLeast 0 p → (n : ℕ) → AtLeast 0 (times n p)
unfolding times
times-least p t zero = pass-least []
times-least p t (suc n) = bind-least 0 0 p _ t (λ a. bind-least 0 0 (times n p) _ (times-least p t n) (λ l. pass-least (a ∷ l)))
