-- What the code's copies leave: zeros with something written at their front, a part written back to its place, a part that ends where its list does.
-- Each is a law of `put` and `take` at a seam.
-- Assumes nothing.
use Prim.Native.Nat.{ℕ, ◌+◌, ◌-◌, ◌≤◌, ◌<◌}
use native.Mathlib.Nat.{zero-add}
use native.Mathlib.Omega.{arith}
use borrow.Author.Tests.{leb-true, leb-false}
use lib.Dec.{leb}
use lib.ListN.{length, take, drop, replicate, length-append, length-take}
use lib.Seq.{take-append_seam, take-take, drop_at, drop-drop}
use mathlib.Core.Path.{◌≡◌, refl, ap, sym, ◌∙◌}
use mathlib.Core.Bool.{Bool, true, false}
use mathlib.Core.List.{List, ◌++◌}
use Rattle.std.proofs.lemmas.List.{take_min, drop-replicate}
use Rattle.lists.specs.Lists.{part, over, put}
use Rattle.lists.proofs.Writes.{over-part, over-append, put-fits, put_full, drop-take}
use Rattle.session_spec.specs.Layout.{pad}

-- a fact of both answers of a test
pub by_le : (m n : ℕ) {P : Type 0} → (m ≤ n → P) → (n < m → P) → P
by_le m n {P} f g = by (leb m n) refl
  where
    by : (t : Bool) → leb m n ≡ t → P
    by true e = f (leb-true m n e)
    by false e = g (leb-false m n e)

module _ {A : Type 0} where
  -- ---- a part of a part

  pub part-part : (l : List A) (at w k v : ℕ) → k + v ≤ w → part (part l at w) k v ≡ part l (at + k) v
  part-part l at w k v h =
      ap (λ (z : List A). take v z) (drop-take k w (drop at l))
      ∙ take-take v (w - k) (drop k (drop at l)) (omega arith)
      ∙ ap (λ (z : List A). take v z) (drop-drop k at l)

  -- ---- what stands at a place, written there again

  pub whole_part : (w : ℕ) (l : List A) → take (length (take w l)) l ≡ take w l
  whole_part w l = ap (λ (k : ℕ). take k l) (length-take w l) ∙ take_min w l

  pub put_same : (l : List A) (at w : ℕ) → put l at (part l at w) ≡ l
  put_same l at w =
      let v : List A = part l at w in
      by_le (at + length v) (length l)
      (λ h.
      put-fits l at v h
      ∙ ap (λ (z : List A). over l at z) (sym (whole_part w (drop at l)))
      ∙ over-part l at (length v) h)
      (λ h. put_full l at v h)

  -- ---- at the front

  pub take_put : (l xs : List A) → length xs ≤ length l → take (length xs) (put l 0 xs) ≡ xs
  take_put l xs h =
      ap (λ (z : List A). take (length xs) z) (put-fits l 0 xs (omega arith))
      ∙ take-append_seam xs (drop (0 + length xs) l)

  pub put_front : (a l vs : List A) → length vs ≡ length a → put (a ++ l) 0 vs ≡ vs ++ l
  put_front a l vs e =
      let n : length (a ++ l) ≡ length a + length l = length-append a l in
      put-fits (a ++ l) 0 vs (omega arith) ∙ ap (λ (z : List A). vs ++ z) (drop_at a l (0 + length vs) (omega arith))

  -- behind a list `a` it goes on in what stands behind `a`
  pub put-append : (a l : List A) (k : ℕ) (vs : List A) → put (a ++ l) (length a + k) vs ≡ a ++ put l k vs
  put-append a l k vs =
      let n : length (a ++ l) ≡ length a + length l = length-append a l in
      by_le (k + length vs) (length l)
      (λ h. put-fits (a ++ l) (length a + k) vs (omega arith) ∙ over-append a l k vs ∙ ap (λ (z : List A). a ++ z) (sym (put-fits l k vs h)))
      (λ h. put_full (a ++ l) (length a + k) vs (omega arith) ∙ ap (λ (z : List A). a ++ z) (sym (put_full l k vs h)))

-- ---- zeros

pub put-zeros : (n : ℕ) (xs : List ℕ) → length xs ≤ length (replicate {A = ℕ} n 0) → put (replicate n 0) 0 xs ≡ pad n xs
unfolding pad
put-zeros n xs h =
    put-fits (replicate n 0) 0 xs (omega arith)
    ∙ ap (λ (z : List ℕ). xs ++ z) (ap (λ (k : ℕ). drop k (replicate {A = ℕ} n 0)) (zero-add (length xs)) ∙ drop-replicate (length xs) n 0)
