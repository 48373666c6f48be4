-- The first cell with a state, where there is one, is what the tree's tests on cells ask: some Multiple, some NotSimple, the lowest Unset, the lowest that is
-- marked. By induction on the cells.
-- Assumes nothing.
use Prim.Native.Nat.{ℕ, min, ◌≤◌, ◌<◌}
use native.Mathlib.Omega.{arith}
use lib.ListN.{length}
use mathlib.Core.Path.{◌≡◌, refl, ap, sym, ◌∙◌}
use mathlib.Core.Bool.{true, false}
use mathlib.Core.List.{List, [], ◌∷◌}
use mathlib.Core.Option.{none, some}
use Rattle.std.specs.Option.{is_some}
use Rattle.std.specs.declared.option.Option as code
use Rattle.lists.specs.Lists.{any}
use Rattle.tree.specs.Cells.{Cell, Unset, Set, SetNillable, NotSimple, Multiple}
use Rattle.tree.specs.Judge.{is_multiple, is_not_simple, first_unset, first_nillable, keys_of, several_nodes, no_simple_value, missing, on_nillable, complete, set_or, missing_or, outcome}
use Rattle.session_spec.specs.Layout.{cell_state}
use Rattle.records.specs.Readers.{Bytes}
use Rattle.outcomes.specs.Outcomes.{cells_from, cells_in, first_with, numbered}
use Rattle.outcomes.proofs.Walking.{cells-length, Found, found, none_found}

-- ---- there is one

some-multiple : (cs : List Cell) → first_with 3 cs < length cs → any is_multiple cs ≡ true
unfolding first_with is_multiple cell_state
some-multiple [] h = absurd (omega arith)
some-multiple (Unset ∷ cs) h = some-multiple cs (omega arith)
some-multiple (Set k ∷ cs) h = some-multiple cs (omega arith)
some-multiple (SetNillable k ∷ cs) h = some-multiple cs (omega arith)
some-multiple (NotSimple ∷ cs) h = some-multiple cs (omega arith)
some-multiple (Multiple ∷ cs) h = refl

some-not-simple : (cs : List Cell) → first_with 2 cs < length cs → any is_not_simple cs ≡ true
unfolding first_with is_not_simple cell_state
some-not-simple [] h = absurd (omega arith)
some-not-simple (Unset ∷ cs) h = some-not-simple cs (omega arith)
some-not-simple (Set k ∷ cs) h = some-not-simple cs (omega arith)
some-not-simple (SetNillable k ∷ cs) h = some-not-simple cs (omega arith)
some-not-simple (NotSimple ∷ cs) h = refl
some-not-simple (Multiple ∷ cs) h = some-not-simple cs (omega arith)

some-unset : (cs : List Cell) → first_with 0 cs < length cs → first_unset cs ≡ some (first_with 0 cs)
unfolding first_with first_unset cell_state
some-unset [] h = absurd (omega arith)
some-unset (Unset ∷ cs) h = refl
some-unset (Set k ∷ cs) h = rw (some-unset cs (omega arith))
some-unset (SetNillable k ∷ cs) h = rw (some-unset cs (omega arith))
some-unset (NotSimple ∷ cs) h = rw (some-unset cs (omega arith))
some-unset (Multiple ∷ cs) h = rw (some-unset cs (omega arith))

some-marked : (cs : List Cell) → first_with 4 cs < length cs → first_nillable cs ≡ some (first_with 4 cs)
unfolding first_with first_nillable cell_state
some-marked [] h = absurd (omega arith)
some-marked (Unset ∷ cs) h = rw (some-marked cs (omega arith))
some-marked (Set k ∷ cs) h = rw (some-marked cs (omega arith))
some-marked (SetNillable k ∷ cs) h = refl
some-marked (NotSimple ∷ cs) h = rw (some-marked cs (omega arith))
some-marked (Multiple ∷ cs) h = rw (some-marked cs (omega arith))

-- ---- there is none

no-multiple : (cs : List Cell) → length cs ≤ first_with 3 cs → any is_multiple cs ≡ false
unfolding first_with is_multiple cell_state
no-multiple [] h = refl
no-multiple (Unset ∷ cs) h = no-multiple cs (omega arith)
no-multiple (Set k ∷ cs) h = no-multiple cs (omega arith)
no-multiple (SetNillable k ∷ cs) h = no-multiple cs (omega arith)
no-multiple (NotSimple ∷ cs) h = no-multiple cs (omega arith)
no-multiple (Multiple ∷ cs) h = absurd (omega arith)

no-not-simple : (cs : List Cell) → length cs ≤ first_with 2 cs → any is_not_simple cs ≡ false
unfolding first_with is_not_simple cell_state
no-not-simple [] h = refl
no-not-simple (Unset ∷ cs) h = no-not-simple cs (omega arith)
no-not-simple (Set k ∷ cs) h = no-not-simple cs (omega arith)
no-not-simple (SetNillable k ∷ cs) h = no-not-simple cs (omega arith)
no-not-simple (NotSimple ∷ cs) h = absurd (omega arith)
no-not-simple (Multiple ∷ cs) h = no-not-simple cs (omega arith)

no-unset : (cs : List Cell) → length cs ≤ first_with 0 cs → first_unset cs ≡ none
unfolding first_with first_unset cell_state
no-unset [] h = refl
no-unset (Unset ∷ cs) h = absurd (omega arith)
no-unset (Set k ∷ cs) h = rw (no-unset cs (omega arith))
no-unset (SetNillable k ∷ cs) h = rw (no-unset cs (omega arith))
no-unset (NotSimple ∷ cs) h = rw (no-unset cs (omega arith))
no-unset (Multiple ∷ cs) h = rw (no-unset cs (omega arith))

no-marked : (cs : List Cell) → length cs ≤ first_with 4 cs → first_nillable cs ≡ none
unfolding first_with first_nillable cell_state
no-marked [] h = refl
no-marked (Unset ∷ cs) h = rw (no-marked cs (omega arith))
no-marked (Set k ∷ cs) h = rw (no-marked cs (omega arith))
no-marked (SetNillable k ∷ cs) h = absurd (omega arith)
no-marked (NotSimple ∷ cs) h = rw (no-marked cs (omega arith))
no-marked (Multiple ∷ cs) h = rw (no-marked cs (omega arith))

-- ---- the five answers

module _ (cs : List Cell) where
  pub several : first_with 3 cs < length cs → several_nodes ≡ outcome cs
  unfolding outcome
  several h = rw (some-multiple cs h)

  module _ (m : length cs ≤ first_with 3 cs) where
    pub not-simple : first_with 2 cs < length cs → no_simple_value ≡ outcome cs
    unfolding outcome
    not-simple h = rw (no-multiple cs m, some-not-simple cs h)

    module _ (n : length cs ≤ first_with 2 cs) where
      pub one-missing : first_with 0 cs < length cs → missing (first_with 0 cs) ≡ outcome cs
      unfolding outcome missing_or
      one-missing h = rw (no-multiple cs m, no-not-simple cs n, some-unset cs h)

      module _ (u : length cs ≤ first_with 0 cs) where
        pub one-marked : first_with 4 cs < length cs → on_nillable (first_with 4 cs) (keys_of cs) ≡ outcome cs
        unfolding outcome missing_or set_or
        one-marked h = rw (no-multiple cs m, no-not-simple cs n, no-unset cs u, some-marked cs h)

        pub all_set : length cs ≤ first_with 4 cs → complete (keys_of cs) ≡ outcome cs
        unfolding outcome missing_or set_or
        all_set h = rw (no-multiple cs m, no-not-simple cs n, no-unset cs u, no-marked cs h)

-- ---- the same of so many cells in bytes, by the places that were found: none of a Multiple, none of a NotSimple, none of an Unset one

module _ (fields n : ℕ) (xs : Bytes) (f : n ≡ min fields 4) where
  all-cells : cells_from n xs ≡ cells_in fields xs
  unfolding cells_in
  all-cells = ap (λ (k : ℕ). cells_from k xs) (let e : n ≡ min 4 fields = omega arith in e)

  abbrev cs : List Cell
  cs = cells_from n xs

  many : (k : ℕ) → k < n → k < length cs
  many k h = omega (arith, cells-length n xs)

  few : (k : ℕ) → n ≤ k → length cs ≤ k
  few k h = omega (arith, cells-length n xs)

  -- each by what was found: of a Multiple first
  module _ (o : code.Option ℕ) (w : Found o n (first_with 3 cs)) where
    pub answer-several : true ≡ is_some o → numbered several_nodes ≡ numbered (outcome (cells_in fields xs))
    answer-several h = ap numbered (several cs (many _ (found o n _ w (sym h))) ∙ ap outcome all-cells)

    -- of a NotSimple, where there was none
    module _ (f3 : false ≡ is_some o) (p : code.Option ℕ) (v : Found p n (first_with 2 cs)) where
      m : length cs ≤ first_with 3 cs
      m = few _ (none_found o n _ w (sym f3))

      pub answer-not-simple : true ≡ is_some p → numbered no_simple_value ≡ numbered (outcome (cells_in fields xs))
      answer-not-simple h = ap numbered (not-simple cs m (many _ (found p n _ v (sym h))) ∙ ap outcome all-cells)

      module _ (f2 : false ≡ is_some p) where
        k : length cs ≤ first_with 2 cs
        k = few _ (none_found p n _ v (sym f2))

        pub answer-missing : (i : ℕ) → (i ≡ first_with 0 cs) × (i < n) → numbered (missing i) ≡ numbered (outcome (cells_in fields xs))
        answer-missing i h = ap numbered (ap missing h.0 ∙ one-missing cs m k (many _ (rw h.0 at h.1)) ∙ ap outcome all-cells)

        module _ (l : n ≤ first_with 0 cs) where
          pub answer-nillable : (i : ℕ) → (i ≡ first_with 4 cs) × (i < n) → numbered (on_nillable i (keys_of (cells_in fields xs))) ≡ numbered (outcome (cells_in fields xs))
          answer-nillable i h =
              ap numbered
              (ap (λ (k : ℕ). on_nillable k (keys_of (cells_in fields xs))) h.0
              ∙ ap (λ (l : List Cell). on_nillable (first_with 4 cs) (keys_of l)) (sym all-cells)
              ∙ one-marked cs m k (few _ l) (many _ (rw h.0 at h.1))
              ∙ ap outcome all-cells)

          pub answer-complete : n ≤ first_with 4 cs → numbered (complete (keys_of (cells_in fields xs))) ≡ numbered (outcome (cells_in fields xs))
          answer-complete h =
              ap numbered
              (ap (λ (l : List Cell). complete (keys_of l)) (sym all-cells)
              ∙ all_set cs m k (few _ l) (few _ h)
              ∙ ap outcome all-cells)
