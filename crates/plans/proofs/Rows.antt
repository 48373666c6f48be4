-- A row whose test does not hold may be left out of a list of refusals.
-- Assumes nothing.
use Prim.Native.Nat.{ℕ, suc, ◌+◌}
use mathlib.Core.Path.{◌≡◌, refl, ap, sym}
use mathlib.Core.Bool.{Bool, true, false}
use mathlib.Core.List.{List, ◌∷◌, ◌++◌}
use mathlib.Core.Option.{Option}
use Rattle.records.specs.Refusals.{Refusal, Row, first_of}

pub skip : (b : Bool) (c : Refusal) (rs : List Row) → b ≡ false → first_of ((b, c) ∷ rs) ≡ first_of rs
unfolding first_of
skip b c rs e = rw e

pub under : (b : Bool) (c : Refusal) (rs qs : List Row) → first_of rs ≡ first_of qs → first_of ((b, c) ∷ rs) ≡ first_of ((b, c) ∷ qs)
unfolding first_of
under true c rs qs e = refl
under false c rs qs e = e

pub row_is : (a b : Bool) (c : Refusal) (rs : List Row) → a ≡ b → first_of ((a, c) ∷ rs) ≡ first_of ((b, c) ∷ rs)
row_is a b c rs e = ap (λ (x : Bool). first_of ((x, c) ∷ rs)) e
