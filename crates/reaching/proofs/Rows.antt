-- Number by number: those of the first j selections are set, and the others are as they were. Those that are lent come back before the rest.
-- Assumes nothing.
use Prim.Native.Nat.{ℕ, min, ◌+◌, ◌-◌, ◌*◌, ◌≤◌, ◌<◌}
use native.Mathlib.Omega.{arith}
use borrow.Author.Tests.{ltb-true, ltb-false}
use lib.Dec.{eqb, ltb}
use lib.ListN.{length, take, drop, get_or, set, length-set, length-append, length-drop, get_or-append}
use lib.Seq.{get_or-set_same, get_or-set_other, get_or-take, get_or-drop, get_or-append_right, length-take-le}
use mathlib.Core.Path.{◌≡◌, refl, ap, sym, ◌∙◌}
use mathlib.Core.Bool.{Bool, true, false, cond, ◌&&◌}
use mathlib.Core.List.{◌++◌}
use Rattle.records.specs.Readers.{Bytes}
use Rattle.cells.specs.Cells.{depth_at, scope_at}
use Rattle.std.specs.declared.option.Option.TheVariants.{Some, None}
use Rattle.reaching.specs.Rows.{picked, RowOf}

-- ---- the depth of one that is asked for

pub base-not : (b : Bool) (d : ℕ) → None ≡ cond b (Some d) None → b ≡ false
base-not true d e = let z : ◌≡◌ {A = ℕ} 0 1 = cc in absurd (omega arith)
base-not false d e = refl

-- ---- all

module _ (f : ℕ → ℕ) (place n : ℕ) (cells before : Bytes) where
  -- what selection i is to have
  abbrev pub wanted : ℕ → ℕ
  wanted i = cond (eqb (scope_at cells (512 * i)) place) (f (depth_at cells (512 * i))) (get_or before i 0)

  pub record Filled (after : Bytes) (j : ℕ) : Type 0 where
    pub size : length after ≡ length before
    pub done : (i : ℕ) → i < j → get_or after i 0 ≡ wanted i
    pub left : (i : ℕ) → j ≤ i → get_or after i 0 ≡ get_or before i 0

  pub one-filled : (after : Bytes) (j v : ℕ) → Filled after j → j < length before → v ≡ cond (eqb (scope_at cells (512 * j)) place) (f (depth_at cells (512 * j))) (get_or after j 0)
      → Filled (set after j v) (j + 1)
  one-filled after j v p h e =
      record {
        size = length-set after j v ∙ p.size;
        done = λ i k. by i k (ltb i j) refl;
        left = λ i k. get_or-set_other after j i v 0 (λ q. omega arith) ∙ p.left i (omega arith);
      }
    where
      here : (i : ℕ) → i ≡ j → get_or (set after j v) i 0 ≡ wanted i
      here i q =
          ap (λ (x : ℕ). get_or (set after j v) x 0) q
          ∙ get_or-set_same after j v 0 (omega (arith, p.size))
          ∙ e
          ∙ ap (λ (x : ℕ). cond (eqb (scope_at cells (512 * j)) place) (f (depth_at cells (512 * j))) x) (p.left j (omega arith))
          ∙ ap wanted (sym q)

      by : (i : ℕ) → i < j + 1 → (b : Bool) → ltb i j ≡ b → get_or (set after j v) i 0 ≡ wanted i
      by i k true q =
          let l = ltb-true i j q in
          get_or-set_other after j i v 0 (λ z. omega arith) ∙ p.done i l
      by i k false q = let l = ltb-false i j q in here i (omega arith)

-- the first k numbers are lent to be written, and stand before the others again
module _ (f : ℕ → ℕ) (place n : ℕ) (cells before items : Bytes) (k : ℕ) (few : k ≡ min 32 (min n (length before))) (p : Filled f place n cells (take k before) items k) where
  as-many : length items ≡ k
  as-many = p.size ∙ length-take-le k before (omega arith)

  pub all-filled : RowOf f place n cells before (items ++ drop k before)
  unfolding picked
  all-filled = record { same = omega (arith, as-many, length-append items (drop k before), length-drop k before); each = λ i h. by i h (ltb i (min 32 n)) refl }
    where
      by : (i : ℕ) → i < length before → (b : Bool) → ltb i (min 32 n) ≡ b
          → get_or (items ++ drop k before) i 0 ≡ cond (b && eqb (scope_at cells (512 * i)) place) (f (depth_at cells (512 * i))) (get_or before i 0)
      by i h true q =
          let l = ltb-true i (min 32 n) q in
          let m : i < k = omega arith in
          get_or-append items (drop k before) 0 i (omega (arith, as-many))
          ∙ p.done i m
          ∙ ap (λ (x : ℕ). cond (eqb (scope_at cells (512 * i)) place) (f (depth_at cells (512 * i))) x) (get_or-take k before i 0 m)
      by i h false q =
          let l = ltb-false i (min 32 n) q in
          get_or-append_right items (drop k before) i 0 (omega (arith, as-many))
          ∙ get_or-drop k before (i - length items) 0
          ∙ ap (λ (x : ℕ). get_or before x 0) (omega (arith, as-many))
