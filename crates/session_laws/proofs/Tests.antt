-- Tests taken apart: a value under a test, and what stands behind it; whether an Option holds something, mapped or
-- asked for its list; rows of refusals. By the cases.
-- Assumes nothing.
use Prim.Native.Nat.{ℕ}
use native.Mathlib.Omega.{arith}
use mathlib.Core.Path.{◌≡◌, refl}
use mathlib.Core.Bool.{Bool, true, false, cond}
use mathlib.Core.List.{List, [], ◌∷◌}
use mathlib.Core.Option.{Option, none, some, map}
use Rattle.paths.specs.Reading.{on_some}
use Rattle.records.specs.Refusals.{Refusal, Row, first_of}
use Rattle.session_spec.specs.Definitions.{is_some, or_none}

-- ---- options

pub cond-parts : {A : Type 0} (b : Bool) (o : Option A) (a : A) → cond b o none ≡ some a → (b ≡ true) × (o ≡ some a)
cond-parts true o a h = (refl, h)
cond-parts false o a h = let z : ◌≡◌ {A = ℕ} 0 1 = cc in absurd (omega arith)

-- a test, and then the rest
pub test-parts : {A C : Type 0} (b : Bool) (a : A) (f : A → Option C) (c : C) → on_some (cond b (some a) none) f ≡ some c → (b ≡ true) × (f a ≡ some c)
unfolding on_some
test-parts true a f c h = (refl, h)
test-parts false a f c h = let z : ◌≡◌ {A = ℕ} 0 1 = cc in absurd (omega arith)

-- what reads is kept by a map
pub map-is_some : {A B : Type 0} (f : A → B) (o : Option A) → is_some (map f o) ≡ is_some o
unfolding is_some
map-is_some f none = refl
map-is_some f (some a) = refl

-- and what does not read counts as nothing
pub or_none-nothing : {A : Type 0} (o : Option (List A)) → is_some o ≡ false → or_none o ≡ []
unfolding is_some or_none
or_none-nothing none h = refl
or_none-nothing (some l) h = let z : ◌≡◌ {A = ℕ} 0 1 = cc in absurd (omega arith)

-- ---- rows of refusals

-- where no row holds, the first does not, and none of the others
pub first-none : (p : Bool) (c : Refusal) (rs : List Row) → first_of ((p, c) ∷ rs) ≡ none → (p ≡ false) × (first_of rs ≡ none)
unfolding first_of
first-none true c rs h = let z : ◌≡◌ {A = ℕ} 0 1 = cc in absurd (omega arith)
first-none false c rs h = (refl, h)
