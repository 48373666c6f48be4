-- Two texts compared from the last byte back: how many pairs are looked at, by recursion on the place; and what a loop may
-- conclude from the pair before its place.
-- Assumes nothing.
use Prim.Native.Nat.{ℕ, zero, suc, ◌+◌, ◌≤◌}
use native.Mathlib.Omega.{arith}
use lib.Dec.{eqb}
use lib.ListN.{length, drop, get_or, length-append}
use lib.Seq.{get_or-append_seam, get_or-append-add}
use borrow.Author.Tests.{eq-eqb, ne_eqb}
use mathlib.Core.Path.{◌≡◌, refl, ap, sym, ◌∙◌}
use mathlib.Core.Bool.{Bool, true, false, cond}
use mathlib.Core.List.{◌∷◌, ◌++◌}
use Rattle.texts.specs.Texts.{Text, same, pairs_back, pairs_of}
use Rattle.texts.proofs.Sameness.{same-on, same-eq}

-- ---- what the pair before a place says

-- it is equal
pub pairs-on : (a b : Text) (i j : ℕ) → i ≡ suc j → get_or a j 0 ≡ get_or b j 0 → pairs_back i a b ≡ suc (pairs_back j a b)
unfolding pairs_back
pairs-on a b i j e h = rw (e, eq-eqb (get_or a j 0) (get_or b j 0) h)

-- or it is not
pub pairs_end : (a b : Text) (i j : ℕ) → i ≡ suc j → (get_or a j 0 ≡ get_or b j 0 → ⊥) → pairs_back i a b ≡ 1
unfolding pairs_back
pairs_end a b i j e h = rw (e, ne_eqb (get_or a j 0) (get_or b j 0) h)

-- one pair more behind the place is equal
pub same_back : (a b : Text) (i j : ℕ) → i ≡ suc j → i ≤ length a → length a ≡ length b → get_or a j 0 ≡ get_or b j 0 → same (drop i a) (drop i b) ≡ true
    → same (drop j a) (drop j b) ≡ true
same_back a b i j e l m h s =
    let n : j + 1 ≡ i = omega arith in
    same-on a b j (omega arith) (omega arith) h ∙ rw n s

-- nothing is left before the place
pub same-front : (a b : Text) (i : ℕ) → i ≡ 0 → same (drop i a) (drop i b) ≡ true → true ≡ same a b
same-front a b i e s = sym (rw e at s)

pub pairs-front : (a b : Text) (i n m : ℕ) → i ≡ 0 → n + pairs_back i a b ≡ m → n ≡ m
unfolding pairs_back
pairs-front a b i n m e s = let q : n + 0 ≡ m = rw e at s in omega arith

-- ---- the lengths

pub pairs-apart : (a b : Text) → (length a ≡ length b → ⊥) → pairs_of a b ≡ 0
unfolding pairs_of
pairs-apart a b h = rw (ne_eqb (length a) (length b) h)

pub pairs-all : (a b : Text) → length a ≡ length b → pairs_back (length a) a b ≡ pairs_of a b
unfolding pairs_of
pairs-all a b h = rw (eq-eqb (length a) (length b) h)

-- ---- how many pairs are looked at

most-back : (n : ℕ) (a b : Text) → pairs_back n a b ≤ n
unfolding pairs_back
most-back zero a b = omega arith
most-back (suc i) a b = by (eqb (get_or a i 0) (get_or b i 0)) (most-back i a b)
  where
    by : (t : Bool) → pairs_back i a b ≤ i → suc (cond t (pairs_back i a b) 0) ≤ suc i
    by true h = omega arith
    by false h = omega arith

-- never more than the first text has bytes
pub pairs-most : (a b : Text) → pairs_of a b ≤ length a
unfolding pairs_of
pairs-most a b = by (eqb (length a) (length b))
  where
    by : (t : Bool) → cond t (pairs_back (length a) a b) 0 ≤ length a
    by true = most-back (length a) a b
    by false = omega arith

whole_back : (n : ℕ) (a : Text) → pairs_back n a a ≡ n
unfolding pairs_back
whole_back zero a = refl
whole_back (suc i) a = pairs-on a a (suc i) i refl refl ∙ ap suc (whole_back i a)

-- of the same texts: all
pub pairs-same : (a b : Text) → same a b ≡ true → pairs_of a b ≡ length a
pairs-same a b h =
    let e : a ≡ b = same-eq a b h in
    rw (← e) (sym (pairs-all a a refl) ∙ whole_back (length a) a)

-- two texts that are equal behind a byte that differs, k bytes of what is behind it included
module _ (x y s : Text) (c d : ℕ) (e : length x ≡ length y) (h : c ≡ d → ⊥) where
  abbrev a : Text
  a = x ++ (c ∷ s)

  abbrev b : Text
  b = y ++ (d ∷ s)

  -- a byte behind the one that differs stands at the same place of both
  equal-behind : (k : ℕ) → get_or a (suc (length x + k)) 0 ≡ get_or b (suc (length x + k)) 0
  equal-behind k =
      let i : suc (length x + k) ≡ length x + suc k = omega arith in
      let j : suc (length x + k) ≡ length y + suc k = omega (arith, e) in
      ap (λ (n : ℕ). get_or a n 0) i
      ∙ get_or-append-add x (c ∷ s) (suc k) 0
      ∙ sym (ap (λ (n : ℕ). get_or b n 0) j ∙ get_or-append-add y (d ∷ s) (suc k) 0)

  unequal : get_or a (length x) 0 ≡ get_or b (length x) 0 → ⊥
  unequal q = h (sym (get_or-append_seam x c s 0) ∙ q ∙ ap (λ (n : ℕ). get_or b n 0) e ∙ get_or-append_seam y d s 0)

  behind-it : (k : ℕ) → pairs_back (suc (length x + k)) a b ≡ suc k
  behind-it zero = pairs_end a b (suc (length x + zero)) (length x) (omega arith) unequal
  behind-it (suc k) =
      pairs-on a b (suc (length x + suc k)) (suc (length x + k)) (omega arith) (equal-behind k) ∙ ap suc (behind-it k)

  -- of texts of one length that differ in a byte and are equal behind it: the equal ones at the end, and that one
  pub pairs-exact : pairs_of (x ++ (c ∷ s)) (y ++ (d ∷ s)) ≡ suc (length s)
  pairs-exact =
      let whole : length a ≡ suc (length x + length s) = length-append x (c ∷ s) ∙ omega arith in
      let other : length b ≡ suc (length y + length s) = length-append y (d ∷ s) ∙ omega arith in
      sym (pairs-all a b (omega (arith, whole, other, e))) ∙ ap (λ (n : ℕ). pairs_back n a b) whole ∙ behind-it (length s)
