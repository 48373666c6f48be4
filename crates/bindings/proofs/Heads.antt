-- The mark at the front of a record, two letters, as its two bytes one by one.
-- Assumes nothing.
use Prim.Native.Nat.{ℕ}
use lib.Dec.{eqb}
use lib.ListN.{get_or}
use mathlib.Core.Path.{◌≡◌, refl, sym}
use mathlib.Core.Bool.{Bool, true, false, ◌&&◌}
use mathlib.Core.List.{[], ◌∷◌}
use Rattle.std.specs.List.{starts_with}
use Rattle.records.specs.Readers.{Bytes}
use Rattle.lists.proofs.Lists.{eqb_comm}

-- no letter is 0
module _ (f : ℕ → ℕ → Bool) (alike : (x y : ℕ) → f x y ≡ eqb x y) (a b : ℕ) (g : eqb 0 a ≡ false) (h : eqb 0 b ≡ false) where
  pub marked-by : (s : Bytes) → starts_with f s (a ∷ b ∷ []) ≡ (eqb (get_or s 0 0) a && eqb (get_or s 1 0) b)
  marked-by [] = rw g refl
  marked-by (x ∷ []) = rw (alike a x, eqb_comm a x) (by (eqb x a))
    where
      by : (t : Bool) → (t && false) ≡ (t && eqb 0 b)
      by true = sym h
      by false = refl
  marked-by (x ∷ y ∷ s) = rw (alike a x, eqb_comm a x, alike b y, eqb_comm b y) (by (eqb x a) (eqb y b))
    where
      by : (t u : Bool) → (t && (u && true)) ≡ (t && u)
      by true true = refl
      by true false = refl
      by false u = refl
