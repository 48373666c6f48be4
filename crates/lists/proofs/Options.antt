-- What an answer of code tells of the Option that it was made of: by its two variants.
-- Assumes nothing.
use Prim.Native.Nat.{ℕ}
use native.Mathlib.Omega.{arith}
use mathlib.Core.Path.{◌≡◌, refl}
use Rattle.std.specs.Option.{ok_or}
use Rattle.std.specs.declared.option.Option as code
use Rattle.std.specs.declared.option.Option.TheVariants.{Some, None}
use Rattle.std.specs.declared.result.Result.TheVariants.{Ok, Err}

module _ {A E : Type 0} where
  pub was_none : (o : code.Option A) (e k : E) → ok_or o e ≡ Err k → (o ≡ None) × (e ≡ k)
  was_none None e k h = (refl, cc)
  was_none (Some x) e k h = let z : ◌≡◌ {A = ℕ} 0 1 = cc in absurd (omega arith)

  pub was_some : (o : code.Option A) (e : E) (x : A) → ok_or o e ≡ Ok x → o ≡ Some x
  was_some None e x h = let z : ◌≡◌ {A = ℕ} 0 1 = cc in absurd (omega arith)
  was_some (Some y) e x h = cc
