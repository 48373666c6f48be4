-- The part after the last ':' of a text: cut at a ':' behind which none stands, by induction on what stands before it.
-- Assumes nothing.
use Prim.Native.Nat.{ℕ, zero, suc, ◌+◌, ◌-◌, ◌≤◌, ◌<◌}
use native.Mathlib.Omega.{arith}
use borrow.Author.Tests.{ne_eqb}
use lib.Dec.{eqb}
use lib.ListN.{length, take, drop, get_or, take-append-drop, drop_of_length-le}
use mathlib.Core.Logic.{◌≢◌}
use mathlib.Core.Path.{◌≡◌, refl, ap, sym, ◌∙◌}
use mathlib.Core.Bool.{Bool, true, false, ◌||◌}
use mathlib.Core.List.{[], ◌∷◌, ◌++◌}
use Rattle.std.proofs.lemmas.List.{drop_more, take_rest}
use Rattle.std.proofs.lemmas.Bool.{or_parts}
use Rattle.std.specs.List.{All}
use Rattle.lists.specs.Lists.{any}
use Rattle.texts.specs.Texts.{Text}
use Rattle.paths.specs.Names.{after_colon}

abbrev colon : ℕ → Bool
colon c = eqb c 58

-- no ':' from a place on, at any place
none-from : (s : Text) (at : ℕ) → ((k : ℕ) → at ≤ k → k < length s → get_or s k 0 ≢ 58) → any colon (drop at s) ≡ false
none-from [] at h = ap (any colon) (drop_of_length-le [] {i = at} (omega arith))
none-from (c ∷ cs) zero h = rw (ne_eqb c 58 (h 0 (omega arith) (omega arith)), none-from cs 0 (λ k l m. h (suc k) (omega arith) (omega arith)))
none-from (c ∷ cs) (suc at) h = none-from cs at (λ k l m. h (suc k) (omega arith) (omega arith))

-- ---- where there is none

all-of-it : (s : Text) → any colon s ≡ false → s ≡ after_colon s
unfolding after_colon
all-of-it [] e = refl
all-of-it (c ∷ cs) e = let q = or_parts (colon c) (any colon cs) e in rw (q.1, q.0)

pub no-colon : (s : Text) → All (λ c. c ≢ 58) s → s ≡ after_colon s
no-colon s h = all-of-it s (none-from s 0 (λ k l m. h k 0 m))

-- ---- at the last one

some-colon : (xs ys : Text) → any colon (xs ++ (58 ∷ ys)) ≡ true
some-colon [] ys = refl
some-colon (x ∷ xs) ys = by (colon x) (some-colon xs ys)
  where
    by : (b : Bool) → any colon (xs ++ (58 ∷ ys)) ≡ true → (b || any colon (xs ++ (58 ∷ ys))) ≡ true
    by true h = refl
    by false h = h

behind-last : (xs ys : Text) → any colon ys ≡ false → after_colon (xs ++ (58 ∷ ys)) ≡ ys
unfolding after_colon
behind-last [] ys e = rw e
behind-last (x ∷ xs) ys e = rw (some-colon xs ys) (behind-last xs ys e)

pub last-colon : (s : Text) (i : ℕ) → i < length s → get_or s i 0 ≡ 58 → ((k : ℕ) → i + 1 ≤ k → k < length s → get_or s k 0 ≢ 58)
    → take (length s - (i + 1)) (drop (i + 1) s) ≡ after_colon s
last-colon s i h g n =
    let d : drop i s ≡ 58 ∷ drop (i + 1) s = drop_more s i 0 h ∙ ap (λ (c : ℕ). c ∷ drop (i + 1) s) g in
    let cut : s ≡ take i s ++ (58 ∷ drop (i + 1) s) = sym (take-append-drop i s) ∙ ap (λ (z : Text). take i s ++ z) d in
    take_rest s (i + 1) ∙ sym (ap after_colon cut ∙ behind-last (take i s) (drop (i + 1) s) (none-from s (i + 1) n))
