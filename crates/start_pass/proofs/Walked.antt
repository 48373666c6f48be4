-- A walk over the first 32 numbers of a list, each with its place: how far it is, and what is left of the list.
-- Assumes nothing.
use Prim.Native.Nat.{ℕ, zero, suc, ◌+◌, ◌≤◌, ◌<◌, min}
use native.Mathlib.Omega.{arith}
use lib.ListN.{length, drop, get_or}
use mathlib.Core.Path.{◌≡◌, ap, sym, ◌∙◌}
use mathlib.Core.List.{List, [], ◌∷◌}
use Rattle.std.proofs.lemmas.List.{length-drop, drop_more}

pub record Walked (numbers : List ℕ) (left count : ℕ) (rest : List ℕ) : Type 0 where
  pub sum : left + count ≡ 32
  pub ahead : rest ≡ drop count numbers

pub walk-starts : (numbers : List ℕ) (left count : ℕ) (rest : List ℕ) → left ≡ 32 → count ≡ 0 → rest ≡ numbers → Walked numbers left count rest
walk-starts numbers left count rest l c r = record { sum = omega (arith, l, c); ahead = rw c r }

-- one number is there, and the walk goes on behind it
pub record Next (numbers : List ℕ) (count x : ℕ) (left2 count2 : ℕ) (rest2 : List ℕ) : Type 0 where
  pub inside : count < length numbers
  pub low : count < 32
  pub number : x ≡ get_or numbers count 0
  pub behind : Walked numbers left2 count2 rest2

tail : List ℕ → List ℕ
tail [] = []
tail (x ∷ l) = l

pub walk-next : (numbers : List ℕ) (left count : ℕ) (rest : List ℕ) → Walked numbers left count rest → (x left2 count2 : ℕ) (rest2 : List ℕ)
    → rest ≡ x ∷ rest2 → left2 + 1 ≡ left → count2 ≡ count + 1 → Next numbers count x left2 count2 rest2
unfolding tail
walk-next numbers left count rest w x left2 count2 rest2 r l c =
    let d = sym w.ahead ∙ r in
    let here : count < length numbers = omega (arith, length-drop count numbers, ap length d) in
    let parts = sym d ∙ drop_more numbers count 0 here in
    record {
      inside = here;
      low = omega (arith, w.sum, l);
      number = ap (λ (z : List ℕ). get_or z 0 0) parts;
      behind = record { sum = omega (arith, w.sum, l, c); ahead = rw c (ap tail parts) };
    }

-- at its end all are passed by, or 32
pub walk-ends : (numbers : List ℕ) (left count : ℕ) (rest : List ℕ) → Walked numbers left count rest → (0 < left → length rest ≡ 0) → min (length numbers) 32 ≤ count
walk-ends numbers zero count rest w e = omega (arith, w.sum)
walk-ends numbers (suc n) count rest w e = omega (arith, w.sum, e (omega arith), length-drop count numbers, ap length w.ahead)
