-- What a reader takes is a front of the bytes, and of this front alone it reads the same and leaves nothing: shown for the readers that a TU is made of,
-- one behind another.
-- Assumes nothing.
use Prim.Native.Nat.{ℕ, zero, suc, ◌+◌, ◌*◌}
use native.Mathlib.Omega.{arith}
use lib.Dec.{eqb}
use lib.ListN.{length}
use mathlib.Core.Path.{◌≡◌, refl, ap, sym, ◌∙◌}
use mathlib.Core.Bool.{Bool, true, false, ◌&&◌}
use mathlib.Core.List.{[], ◌∷◌, ◌++◌, append_assoc}
use mathlib.Core.Option.{Option, none, some, some-injective}
use Rattle.records.specs.Readers.{Bytes, Reader, on_read, ◌>>=◌, pass, require, read_byte, read_two, read_four, cons_on, read_bytes, read_text, times, put_texts}
use Rattle.records.proofs.Stores.{Stable, require-stable, byte-stable, two-stable, four-stable, text-stable, times-stable}
use Rattle.session_spec.specs.Layout.{read_tu}

-- a front of the bytes that reads alone
pub record Cut {A : Type 0} (p : Reader A) (xs : Bytes) (a : A) (r : Bytes) : Type 0 where
  pub part : Bytes
  pub split : xs ≡ part ++ r
  pub alone : p part ≡ some (a, [])

abbrev pub Cuts : {A : Type 0} → Reader A → Type 0
Cuts {A} p = (xs : Bytes) (a : A) (r : Bytes) → p xs ≡ some (a, r) → Cut p xs a r

pub bind-cuts : {A C : Type 0} (p : Reader A) (f : A → Reader C) → Stable p → Cuts p → ((a : A) → Cuts (f a)) → Cuts (p >>= f)
unfolding ◌>>=◌ on_read
bind-cuts {A} {C} p f s t u xs c r h = by (p xs) refl h
  where
    by : (o : Option (A × Bytes)) → p xs ≡ o → on_read o f ≡ some (c, r) → Cut (p >>= f) xs c r
    by none e h = let z : ◌≡◌ {A = ℕ} 0 1 = cc in absurd (omega arith)
    by (some q) e h =
        let k = t xs q.0 q.1 e in
        let l = u q.0 q.1 c r h in
        record {
          part = k.part ++ l.part;
          split = k.split ∙ ap (λ (z : Bytes). k.part ++ z) l.split ∙ sym (append_assoc k.part l.part r);
          alone = rw (s k.part l.part q.0 [] k.alone) l.alone;
        }

-- ---- the readers that are made of no others

-- the value and the rest, where a front is given
cut-here : {A : Type 0} (p : Reader A) (xs : Bytes) (a b : A) (front s r : Bytes) → ◌≡◌ {A = Option (A × Bytes)} (some (a, s)) (some (b, r)) → xs ≡ front ++ s
    → p front ≡ some (a, []) → Cut p xs b r
cut-here {A} p xs a b front s r h e k =
    let q = some-injective _ _ h in
    record {
      part = front;
      split = e ∙ ap (λ (w : A × Bytes). front ++ w.1) q;
      alone = k ∙ ap (λ (w : A × Bytes). some (w.0, [])) q;
    }

pub pass-cuts : {A : Type 0} (a : A) → Cuts (pass a)
unfolding pass
pass-cuts a xs b r h = cut-here (pass a) xs a b [] xs r h refl refl

pub require-cuts : (b : Bool) → Cuts (require b)
unfolding require
require-cuts true xs b r h = cut-here (require true) xs true b [] xs r h refl refl
require-cuts false xs b r h = let z : ◌≡◌ {A = ℕ} 0 1 = cc in absurd (omega arith)

pub byte-cuts : Cuts read_byte
unfolding read_byte
byte-cuts [] a r h = let z : ◌≡◌ {A = ℕ} 0 1 = cc in absurd (omega arith)
byte-cuts (x ∷ xs) a r h = cut-here read_byte (x ∷ xs) x a (x ∷ []) xs r h refl refl

pub bytes-cuts : (n : ℕ) → Cuts (read_bytes n)
unfolding read_bytes cons_on
bytes-cuts zero xs a r h = cut-here (read_bytes zero) xs [] a [] xs r h refl refl
bytes-cuts (suc n) [] a r h = let z : ◌≡◌ {A = ℕ} 0 1 = cc in absurd (omega arith)
bytes-cuts (suc n) (x ∷ xs) a r h = by (read_bytes n xs) refl h (bytes-cuts n xs)
  where
    by : (o : Option (Bytes × Bytes)) → read_bytes n xs ≡ o → cons_on x o ≡ some (a, r)
        → ((b q : Bytes) → read_bytes n xs ≡ some (b, q) → Cut (read_bytes n) xs b q) → Cut (read_bytes (suc n)) (x ∷ xs) a r
    by none e h ih = let z : ◌≡◌ {A = ℕ} 0 1 = cc in absurd (omega arith)
    by (some q) e h ih =
        let k = ih q.0 q.1 e in
        cut-here (read_bytes (suc n)) (x ∷ xs) (x ∷ q.0) a (x ∷ k.part) q.1 r h (ap (λ (l : Bytes). x ∷ l) k.split) (rw k.alone)

-- ---- those of a TU

two-cuts : Cuts read_two
unfolding read_two
two-cuts = bind-cuts read_byte _ byte-stable byte-cuts (λ a. bind-cuts read_byte _ byte-stable byte-cuts (λ b. pass-cuts (a + 256 * b)))

four-cuts : Cuts read_four
unfolding read_four
four-cuts = bind-cuts read_two _ two-stable two-cuts (λ a. bind-cuts read_two _ two-stable two-cuts (λ b. pass-cuts (a + 65536 * b)))

text-cuts : Cuts read_text
unfolding read_text
text-cuts = bind-cuts read_two read_bytes two-stable two-cuts bytes-cuts

times-cuts : {A : Type 0} (p : Reader A) → Stable p → Cuts p → (n : ℕ) → Cuts (times n p)
unfolding times
times-cuts p s t zero = pass-cuts []
times-cuts p s t (suc n) = bind-cuts p _ s t (λ a. bind-cuts (times n p) _ (times-stable p s n) (times-cuts p s t n) (λ l. pass-cuts (a ∷ l)))

pub tu-cuts : Cuts read_tu
unfolding read_tu
tu-cuts =
    bind-cuts read_byte _ byte-stable byte-cuts (λ a. bind-cuts read_byte _ byte-stable byte-cuts (λ b.
    bind-cuts (require (eqb a 84 && eqb b 85)) _ (require-stable (eqb a 84 && eqb b 85)) (require-cuts (eqb a 84 && eqb b 85)) (λ u.
    bind-cuts read_two _ two-stable two-cuts (λ n. bind-cuts read_byte _ byte-stable byte-cuts (λ c. bind-cuts read_four _ four-stable four-cuts (λ s.
    bind-cuts read_byte _ byte-stable byte-cuts (λ k. bind-cuts (times k read_text) _ (times-stable read_text text-stable k) (times-cuts read_text text-stable text-cuts k) (λ ts.
    bind-cuts (require (eqb n (6 + length (put_texts ts)))) _ (require-stable (eqb n (6 + length (put_texts ts)))) (require-cuts (eqb n (6 + length (put_texts ts)))) (λ v.
    pass-cuts (record { constraint = c; scope = s; keys = ts }))))))))))
