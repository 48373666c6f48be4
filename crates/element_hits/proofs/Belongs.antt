-- Whether some selection is of the scope at a place: one is, or none of them.
-- Assumes nothing.
use Prim.Native.Nat.{ℕ, zero, suc, min, ◌+◌, ◌*◌, ◌≤◌, ◌<◌}
use native.Mathlib.Omega.{arith}
use borrow.Author.Tests.{lt-ltb, ltb-true, ltb-false, eq-eqb, eqb-true}
use lib.Dec.{eqb, ltb}
use mathlib.Core.Path.{◌≡◌, refl, ap, sym, ◌∙◌}
use mathlib.Core.Bool.{Bool, true, false, ◌&&◌, ◌||◌, false≢true}
use Rattle.std.specs.List.{list_any, range_with_len}
use Rattle.records.specs.Readers.{Bytes}
use Rattle.cells.specs.Cells.{scope_at}
use Rattle.reaching.specs.Rows.{picked}
use Rattle.element_hits.specs.Rows.{AnyOf}

-- ---- a selection that is picked, and one that is not

pub record Picked (place n : ℕ) (cells : Bytes) (j : ℕ) : Type 0 where
  pub one : j < min 32 n
  pub here : scope_at cells (512 * j) ≡ place

module _ (place n : ℕ) (cells : Bytes) (j : ℕ) where
  pub is-picked : j < min 32 n → scope_at cells (512 * j) ≡ place → picked place n cells j ≡ true
  unfolding picked
  is-picked h e = rw (lt-ltb j (min 32 n) h, eq-eqb (scope_at cells (512 * j)) place e)

  pub was-picked : picked place n cells j ≡ true → Picked place n cells j
  unfolding picked
  was-picked h = by (ltb j (min 32 n)) refl h
    where
      by : (b : Bool) → ltb j (min 32 n) ≡ b → (b && eqb (scope_at cells (512 * j)) place) ≡ true → Picked place n cells j
      by true e q = record { one = ltb-true j (min 32 n) e; here = eqb-true (scope_at cells (512 * j)) place q }
      by false e q = absurd (false≢true q)

  pub not-picked : (j < min 32 n → scope_at cells (512 * j) ≡ place → ⊥) → picked place n cells j ≡ false
  not-picked h = by (picked place n cells j) refl
    where
      by : (b : Bool) → picked place n cells j ≡ b → b ≡ false
      by true e = let p = was-picked e in absurd (h p.one p.here)
      by false e = refl

  pub unpicked : picked place n cells j ≡ false → j < min 32 n → scope_at cells (512 * j) ≡ place → ⊥
  unpicked h k e = false≢true (sym h ∙ is-picked k e)

-- ---- whether one of the numbers passes a test

none_of : (p : ℕ → Bool) (a n : ℕ) → list_any p (range_with_len a n) ≡ false → (j : ℕ) → a ≤ j → j < a + n → p j ≡ false
none_of p a zero e j l h = absurd (omega arith)
none_of p a (suc n) e j l h = by (p a) refl e (λ k m. none_of p (a + 1) n k j m (omega arith)) (ltb a j) refl
  where
    by : (b : Bool) → p a ≡ b → (b || list_any p (range_with_len (a + 1) n)) ≡ false → (list_any p (range_with_len (a + 1) n) ≡ false → a + 1 ≤ j → p j ≡ false)
        → (c : Bool) → ltb a j ≡ c → p j ≡ false
    by true q k more c m = absurd (false≢true (sym k))
    by false q k more true m = let d = ltb-true a j m in more k (omega arith)
    by false q k more false m =
        let d = ltb-false a j m in
        let s : j ≡ a = omega arith in
        ap p s ∙ q

one_of : (p : ℕ → Bool) (a n : ℕ) → list_any p (range_with_len a n) ≡ true → (j : ℕ) × (j < a + n) × (p j ≡ true)
one_of p a zero e = absurd (false≢true e)
one_of p a (suc n) e = by (p a) refl e (λ k. one_of p (a + 1) n k)
  where
    by : (b : Bool) → p a ≡ b → (b || list_any p (range_with_len (a + 1) n)) ≡ true
        → (list_any p (range_with_len (a + 1) n) ≡ true → (j : ℕ) × (j < a + 1 + n) × (p j ≡ true)) → (j : ℕ) × (j < a + suc n) × (p j ≡ true)
    by true q k more = (a, omega arith, q)
    by false q k more =
        let r = more k in
        let h = r.1 in
        (r.0, omega arith, r.2)

-- ---- the selections

pub searched : (place n : ℕ) (cells : Bytes) (m : ℕ) → m ≡ min n 32 → (r : Bool) → r ≡ list_any (λ j. eqb (scope_at cells (512 * j)) place) (range_with_len 0 m)
    → AnyOf place n cells r
searched place n cells m w r e =
    record {
      absent = λ q j.
          not-picked place n cells j
          (λ k h.
          false≢true
          (sym (none_of (λ i. eqb (scope_at cells (512 * i)) place) 0 m (sym e ∙ q) j (omega arith) (omega arith)) ∙ eq-eqb (scope_at cells (512 * j)) place h));
      present = λ q.
          let o = one_of (λ i. eqb (scope_at cells (512 * i)) place) 0 m (sym e ∙ q) in
          let h = o.1 in
          (o.0, is-picked place n cells o.0 (omega arith) (eqb-true (scope_at cells (512 * o.0)) place o.2));
    }
