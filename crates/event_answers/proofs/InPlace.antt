-- What the answer says of the counts: which test led to a refusal, and that none did where there is none.
-- Assumes nothing.
use Prim.Native.Nat.{ℕ, ◌≤◌, ◌<◌}
use native.Mathlib.Omega.{arith}
use lib.Dec.{eqb, leb}
use borrow.Author.Tests.{eqb-true, eqb-false, leb-true, leb-false}
use mathlib.Core.Path.{◌≡◌, refl, subst}
use mathlib.Core.Bool.{Bool, true, false, cond}
use Rattle.std.specs.declared.result.Result.{Result}
use Rattle.std.specs.declared.result.Result.TheVariants.{Ok, Err}
use Rattle.worlds.specs.declared.SessionRefusal.{SessionRefusal}
use Rattle.worlds.specs.declared.SessionRefusal.TheVariants.{OutOfPlace, TooManyEvents}
use Rattle.event_answers.specs.InPlace.{placed}

abbrev Answer : Type 0
Answer = Result (Unit {0}) SessionRefusal

module _ (stage events : ℕ) (misplaced : Bool) (why : SessionRefusal) where
  -- what holds of each refusal after the tests that led to it holds of the one that is given
  pub refused_for : (q : SessionRefusal) → placed stage events misplaced why ≡ Err q → (C : SessionRefusal → Type 0)
      → (stage ≡ 66 → C OutOfPlace)
      → ((stage ≡ 66 → ⊥) → 1000000 ≤ events → C TooManyEvents)
      → ((stage ≡ 66 → ⊥) → events < 1000000 → misplaced ≡ true → C why)
      → C q
  unfolding placed
  refused_for q h C x y z = by (eqb stage 66) (leb 1000000 events) misplaced refl refl refl h
    where
      by : (a b m : Bool) → eqb stage 66 ≡ a → leb 1000000 events ≡ b → misplaced ≡ m
          → ◌≡◌ {A = Answer} (cond a (Err OutOfPlace) (cond b (Err TooManyEvents) (cond m (Err why) (Ok tt)))) (Err q) → C q
      by true b m e f g h = let p : OutOfPlace ≡ q = cc in subst C p (x (eqb-true stage 66 e))
      by false true m e f g h = let p : TooManyEvents ≡ q = cc in subst C p (y (eqb-false stage 66 e) (leb-true 1000000 events f))
      by false false true e f g h = let p : why ≡ q = cc in subst C p (z (eqb-false stage 66 e) (leb-false 1000000 events f) g)
      by false false false e f g h = let p : ◌≡◌ {A = ℕ} 0 1 = cc in absurd (omega arith)

  pub record Free : Type 0 where
    pub begun : stage ≡ 66 → ⊥
    pub early : events < 1000000
    pub right : misplaced ≡ false

  pub free : (u : Unit {0}) → placed stage events misplaced why ≡ Ok u → Free
  unfolding placed
  free u h = by (eqb stage 66) (leb 1000000 events) misplaced refl refl refl h
    where
      by : (a b m : Bool) → eqb stage 66 ≡ a → leb 1000000 events ≡ b → misplaced ≡ m
          → ◌≡◌ {A = Answer} (cond a (Err OutOfPlace) (cond b (Err TooManyEvents) (cond m (Err why) (Ok tt)))) (Ok u) → Free
      by true b m e f g h = let p : ◌≡◌ {A = ℕ} 0 1 = cc in absurd (omega arith)
      by false true m e f g h = let p : ◌≡◌ {A = ℕ} 0 1 = cc in absurd (omega arith)
      by false false true e f g h = let p : ◌≡◌ {A = ℕ} 0 1 = cc in absurd (omega arith)
      by false false false e f g h = record { begun = eqb-false stage 66 e; early = leb-false 1000000 events f; right = g }
