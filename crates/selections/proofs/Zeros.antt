-- Bytes that are all 0: one `or` over them is 0, and they are the same as so many zeros. By induction on the bytes.
-- Assumes nothing.
use Prim.Native.Nat.{ℕ, zero, suc}
use native.Mathlib.Omega.{arith}
use borrow.Author.Tests.{eqb-true, eq-eqb}
use lib.Bits.{bit_or, or_add_and, and_le_l, and_le_r}
use lib.Dec.{eqb}
use lib.ListN.{length, replicate}
use mathlib.Core.Path.{◌≡◌, refl, ap, sym, ◌∙◌}
use mathlib.Core.Bool.{Bool, true, ◌&&◌, and-true, and_assoc}
use mathlib.Core.List.{[], ◌∷◌}
use Rattle.std.proofs.lemmas.Bool.{and_parts, and_from}
use Rattle.std.specs.List.{fold}
use Rattle.lists.specs.Lists.{all}
use Rattle.lists.proofs.Lists.{bool-ext}
use Rattle.texts.specs.Texts.{same}
use Rattle.records.specs.Readers.{Bytes}
use Rattle.selections.specs.Exact.{zeros}

-- ---- one `or` over all of them

or-zero : (a b : ℕ) → eqb (bit_or a b) 0 ≡ (eqb a 0 && eqb b 0)
or-zero a b = bool-ext (eqb (bit_or a b) 0) (eqb a 0 && eqb b 0) there back
  where
    there : eqb (bit_or a b) 0 ≡ true → (eqb a 0 && eqb b 0) ≡ true
    there h =
        let e : bit_or a b ≡ 0 = eqb-true (bit_or a b) 0 h in
        and_from (eqb a 0) (eqb b 0) (eq-eqb a 0 (omega (arith, or_add_and a b, and_le_l a b, and_le_r a b))) (eq-eqb b 0 (omega (arith, or_add_and a b, and_le_l a b, and_le_r a b)))

    back : (eqb a 0 && eqb b 0) ≡ true → eqb (bit_or a b) 0 ≡ true
    back h =
        let p = and_parts (eqb a 0) (eqb b 0) h in
        let e : a ≡ 0 = eqb-true a 0 p.0 in
        let f : b ≡ 0 = eqb-true b 0 p.1 in
        eq-eqb (bit_or a b) 0 (omega (arith, or_add_and a b))

pub zeros-or : (a : ℕ) (xs : Bytes) → eqb (fold bit_or a xs) 0 ≡ (eqb a 0 && zeros xs)
unfolding zeros
zeros-or a [] = sym (and-true (eqb a 0))
zeros-or a (x ∷ xs) = zeros-or (bit_or a x) xs ∙ rw (or-zero a x) (and_assoc (eqb a 0) (eqb x 0) (all (λ b. eqb b 0) xs))

-- ---- the same as so many zeros

pub same-zeros : (xs : Bytes) (n : ℕ) → length xs ≡ n → same xs (replicate n 0) ≡ zeros xs
unfolding same zeros
same-zeros [] zero h = refl
same-zeros [] (suc n) h = absurd (omega arith)
same-zeros (x ∷ xs) zero h = absurd (omega arith)
same-zeros (x ∷ xs) (suc n) h = ap (λ (b : Bool). eqb x 0 && b) (same-zeros xs n (omega arith))
