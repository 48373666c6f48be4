-- The characters of names within ASCII, by a few tests in place of a table: computed for each of the 128 characters, and one law turns the list of answers into the rule.
-- Assumes nothing.
use Prim.Native.Nat.{ℕ, zero, suc, ◌<◌}
use native.Mathlib.Omega.{arith}
use lib.Dec.{eqb, leb, ltb}
use borrow.Author.Tests.{eqb-true, eqb-false}
use mathlib.Core.Path.{◌≡◌, refl, sym}
use mathlib.Core.Bool.{Bool, true, false, cond, not, ◌&&◌, and-eq-true_iff, false≢true}
use Rattle.characters.specs.Ranges.{in_ranges}
use Rattle.characters.specs.Names.{start_ranges, more_ranges, name_start}

-- ---- two tests that agree on each number below n

equals : Bool → Bool → Bool
equals true b = b
equals false b = not b

agree : ℕ → (ℕ → Bool) → (ℕ → Bool) → Bool
agree zero p q = true
agree (suc n) p q = equals (p n) (q n) && agree n p q

equals-eq : (a b : Bool) → equals a b ≡ true → a ≡ b
unfolding equals
equals-eq true b h = sym h
equals-eq false true h = absurd (false≢true h)
equals-eq false false h = refl

agree_at : (n : ℕ) (p q : ℕ → Bool) → agree n p q ≡ true → (c : ℕ) → c < n → p c ≡ q c
unfolding agree
agree_at zero p q h c l = absurd (omega arith)
agree_at (suc n) p q h c l =
    let g = (and-eq-true_iff (equals (p n) (q n)) (agree n p q)).0 h in
    by (equals-eq (p n) (q n) g.0) (λ k. agree_at n p q g.1 c k) (eqb c n) refl
  where
    by : p n ≡ q n → (c < n → p c ≡ q c) → (b : Bool) → eqb c n ≡ b → p c ≡ q c
    by e f true k = rw (eqb-true c n k) e
    by e f false k = let d = eqb-false c n k in f (omega arith)

-- ---- a few tests, and that they agree with the classes

abbrev pub quick_start : ℕ → Bool
quick_start c = cond (ltb c 0x5B) (leb 0x41 c) (cond (ltb c 0x61) (eqb c 0x5F) (leb c 0x7A))

abbrev pub quick_more : ℕ → Bool
quick_more c = cond (ltb 0x39 c) false (cond (ltb c 0x2D) false (not (eqb c 0x2F)))

module _ (c : ℕ) (h : c < 0x80) where
  pub start-ascii : quick_start c ≡ name_start c
  unfolding agree equals name_start start_ranges in_ranges
  start-ascii = agree_at 0x80 quick_start name_start refl c h

  pub more-ascii : quick_more c ≡ in_ranges more_ranges c
  unfolding agree equals more_ranges in_ranges
  more-ascii = agree_at 0x80 quick_more (in_ranges more_ranges) refl c h
