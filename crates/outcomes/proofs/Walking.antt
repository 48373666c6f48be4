-- Cell by cell: behind i cells stands the next one, so the first with a state is the first number whose cell has it.
-- Assumes nothing.
use Prim.Native.Nat.{ℕ, zero, suc, ◌+◌, ◌*◌, ◌≤◌, ◌<◌}
use native.Mathlib.Omega.{arith}
use borrow.Author.Tests.{ltb-true, ltb-false}
use lib.Dec.{eqb, ltb}
use lib.ListN.{length, drop}
use lib.Seq.{drop-drop}
use mathlib.Core.Path.{◌≡◌, refl, ap, sym, subst, ◌∙◌}
use mathlib.Core.Bool.{Bool, true, false, cond, not, false≢true}
use mathlib.Core.List.{◌∷◌}
use Rattle.std.specs.List.{position_or_len, range_with_len}
use Rattle.std.specs.Option.{MatchOption, is_some}
use Rattle.std.proofs.lemmas.List.FromFn.{length-range_with_len}
use Rattle.std.specs.declared.option.Option as code
use Rattle.std.specs.declared.option.Option.TheVariants.{Some, None}
use Rattle.records.specs.Readers.{Bytes}
use Rattle.session_spec.specs.Layout.{cell_state}
use denote.Enum.Bare.{sameb}
use denote.Enum.Declared.{tag_of}
use Rattle.cells.specs.contracts.State.{the_type}
use Rattle.cells.specs.declared.State.{State}
use Rattle.cells.specs.declared.State.TheVariants as state
use Rattle.cells.specs.Cells.{state_number, cell_at}
use Rattle.outcomes.specs.Outcomes.{cells_from, first_with}

-- the tests for equal states are those for equal numbers
number_tag : (s : State) → tag_of the_type s ≡ state_number s
number_tag state.Unset = refl
number_tag state.Set = refl
number_tag state.NotSimple = refl
number_tag state.Multiple = refl
number_tag state.Nillable = refl

pub same-number : (s t : State) → sameb the_type s t ≡ eqb (state_number s) (state_number t)
same-number s t = rw (number_tag s, number_tag t)

pub cells-length : (n : ℕ) (xs : Bytes) → length (cells_from n xs) ≡ n
unfolding cells_from
cells-length zero xs = refl
cells-length (suc n) xs = ap suc (cells-length n (drop 128 xs))

-- the first of n is number k, if that is below n
abbrev pub Found : code.Option ℕ → (n k : ℕ) → Type 0
Found o n k = MatchOption o (n ≤ k) (λ i. (i ≡ k) × (i < n))

module _ (state : ℕ) (xs : Bytes) where
  -- whether the cell at a number has the state
  abbrev pub has-state : (i : ℕ) → Bool
  has-state i = eqb (cell_state (cell_at xs (128 * i))) state

  first-place : (i n : ℕ) → first_with state (cells_from n (drop (128 * i) xs)) ≡ position_or_len has-state (range_with_len i n)
  unfolding cell_at cells_from first_with
  first-place i zero = refl
  first-place i (suc n) =
      let m : 128 * (i + 1) ≡ 128 * i + 128 = omega arith in
      ap (λ (l : Bytes). first_with state (cell_at xs (128 * i) ∷ cells_from n l)) (drop-drop 128 (128 * i) xs ∙ ap (λ (k : ℕ). drop k xs) (sym m))
      ∙ by (has-state i) (first_with state (cells_from n (drop (128 * (i + 1)) xs))) (position_or_len has-state (range_with_len (i + 1) n)) (first-place (i + 1) n)
    where
      by : (b : Bool) (f q : ℕ) → f ≡ q → cond b 0 (suc f) ≡ cond (not b) (1 + q) 0
      by true f q e = refl
      by false f q e = omega arith

  -- the first of so many that has it
  pub first-is : (n : ℕ) (o : code.Option ℕ)
      → o ≡ cond (ltb (position_or_len has-state (range_with_len 0 n)) (length (range_with_len 0 n))) (Some (position_or_len has-state (range_with_len 0 n))) None
      → Found o n (first_with state (cells_from n xs))
  first-is n o e =
      let l : length (range_with_len 0 n) ≡ n = length-range_with_len 0 n in
      let p = first-place 0 n in
      by o (position_or_len has-state (range_with_len 0 n)) (length (range_with_len 0 n)) (ltb (position_or_len has-state (range_with_len 0 n)) (length (range_with_len 0 n))) refl l e p
    where
      by : (o : code.Option ℕ) (k l : ℕ) (b : Bool) → ltb k l ≡ b → l ≡ n → o ≡ cond b (Some k) None → first_with state (cells_from n xs) ≡ k
          → Found o n (first_with state (cells_from n xs))
      by o k l true t m e f = subst (λ o. Found o n (first_with state (cells_from n xs))) (sym e) (sym f, omega (arith, ltb-true k l t))
      by o k l false t m e f = subst (λ o. Found o n (first_with state (cells_from n xs))) (sym e) (omega (arith, ltb-false k l t))

-- ---- what `first_with` answers, tested

pub found : (o : code.Option ℕ) (n k : ℕ) → Found o n k → is_some o ≡ true → k < n
found None n k h e = absurd (false≢true e)
found (Some i) n k h e = omega (arith, h.0, h.1)

pub none_found : (o : code.Option ℕ) (n k : ℕ) → Found o n k → is_some o ≡ false → n ≤ k
none_found None n k h e = h
none_found (Some i) n k h e = absurd (false≢true (sym e))
