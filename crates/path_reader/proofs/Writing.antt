-- Writing into an area: one write behind another, and a head before what stands behind it; and what an area keeps. Each from the laws of `over`.
-- Assumes nothing.
use Rattle.std.specs.declared.option.Option as code
use Rattle.std.specs.declared.option.Option.TheVariants.{Some, None}
use Prim.Native.Nat.{ℕ, ◌+◌, ◌≤◌}
use native.Mathlib.Omega.{arith}
use lib.ListN.{length, take, drop, length-append}
use lib.Seq.{length-take-le, drop_at}
use mathlib.Core.Path.{◌≡◌, refl, ap, sym, ◌∙◌, subst}
use mathlib.Core.List.{◌++◌, append_assoc}
use mathlib.Core.Option.{Option, none, some}
use Rattle.lists.specs.Lists.{over}
use Rattle.lists.proofs.Writes.{length_over, drop-over, take-before-over, over-then}
use Rattle.records.specs.Readers.{Bytes}
use Rattle.path_reader.specs.declared.Steps.{Steps}
use Rattle.path_reader.specs.Places.{Kept, Written, Wrote, WroteSteps}

-- ---- a head, written before what stands behind it

pub over-before : (l hs ts : Bytes) (at m : ℕ) → at + length hs ≡ m → m ≤ length l → over (over l m ts) at hs ≡ over l at (hs ++ ts)
over-before l hs ts at m e h =
    let r : Bytes = drop (m + length ts) l in
    let a : take at (over l m ts) ≡ take at l = take-before-over l m ts at (omega arith) h in
    let b : drop m (over l m ts) ≡ ts ++ r = drop_at (take m l) (ts ++ r) m (length-take-le m l h) in
    let n : at + length (hs ++ ts) ≡ m + length ts = simp length-append (omega arith) in
    rw (e, a, b, n) (ap (λ (z : Bytes). take at l ++ z) (sym (append_assoc hs ts r)))

-- ---- one write behind another

pub written_then : (l m n xs ys : Bytes) (at p q : ℕ) → at ≤ length l → Written l at xs p m → Written m p ys q n → Written l at (xs ++ ys) q n
written_then l m n xs ys at p q h a b =
    let k = length-append xs ys in
    (omega (arith, a.0, b.0), b.1 ∙ ap (λ (z : Bytes). over z p ys) a.1 ∙ over-then l at p xs ys (sym a.0) h)

-- ---- what is kept

pub kept_same : (l : Bytes) → Kept l l
kept_same l = (refl, refl)

pub kept_then : (l m n : Bytes) → Kept l m → Kept m n → Kept l n
kept_then l m n a b = (b.0 ∙ a.0, b.1 ∙ a.1)

pub kept-over : (l : Bytes) (at : ℕ) (vs : Bytes) → 1024 ≤ length l → at + length vs ≤ 1024 → Kept l (over l at vs)
kept-over l at vs h k = (length_over l at vs (omega arith), drop-over l at vs 1024 (omega arith) k)

pub kept-written : (l m vs : Bytes) (at p : ℕ) → 1024 ≤ length l → at + length vs ≤ 1024 → Written l at vs p m → Kept l m
kept-written l m vs at p h k a = rw a.1 (kept-over l at vs h k)

-- ---- by the answer

module _ {A : Type 0} (bytes : A → Bytes) (o : Option A) (l m : Bytes) (at : ℕ) (r : code.Option ℕ) (w : Wrote bytes o l at r m) where
  pub wrote_none : r ≡ None → (o ≡ none) × Kept l m
  wrote_none e = subst (λ (r : code.Option ℕ). Wrote bytes o l at r m) e w

  pub wrote-some : (p : ℕ) → r ≡ Some p → (a : A) × (o ≡ some a) × Written l at (bytes a) p m
  wrote-some p e = subst (λ (r : code.Option ℕ). Wrote bytes o l at r m) e w

module _ {A : Type 0} (count : A → ℕ) (bytes : A → Bytes) (o : Option A) (l m : Bytes) (at n : ℕ) (r : code.Option Steps) (w : WroteSteps count bytes o l at n r m) where
  pub steps-none : r ≡ None → (o ≡ none) × Kept l m
  steps-none e = subst (λ (r : code.Option Steps). WroteSteps count bytes o l at n r m) e w

  pub steps-some : (s : Steps) → r ≡ Some s → (a : A) × (o ≡ some a) × (s.count ≡ n + count a) × Written l at (bytes a) s.end m
  steps-some s e = subst (λ (r : code.Option Steps). WroteSteps count bytes o l at n r m) e w
