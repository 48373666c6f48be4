-- A selection is written exactly if each of its four cells is, with the number that it has beside its state, which in the last one is 0.
-- By induction on the numbers: the first cell is cut off, and the others are those of the rest with one field fewer.
-- Assumes nothing.
use Prim.Native.Nat.{ℕ, zero, suc, pred, ◌+◌, ◌*◌, ◌/◌, ◌%◌, ◌≤◌, ◌<◌}
use native.Mathlib.Omega.{arith}
use borrow.Author.Tests.{lt-ltb, leb-true, leb-false, eqb-true, eq-eqb}
use lib.Dec.{eqb, leb, ltb, leb-suc-suc, leb-suc-zero}
use lib.ListN.{length, take, drop, get_or, length-take, length-drop, drop_of_length-le}
use lib.Seq.{drop-drop}
use mathlib.Core.Path.{◌≡◌, refl, ap, sym, ◌∙◌}
use mathlib.Core.Bool.{Bool, true, false, ◌&&◌, and-true, and-false, and_assoc, false≢true}
use mathlib.Core.List.{List, [], ◌∷◌, ◌++◌}
use mathlib.Core.Option.{Option, none, some, map}
use Rattle.std.proofs.lemmas.Bool.{and_parts}
use Rattle.std.specs.List.{list_all, range_with_len}
use Rattle.lists.specs.Lists.{part}
use Rattle.texts.specs.Texts.{Text, same}
use Rattle.texts.proofs.Sameness.{same-eq, same-differ}
use Rattle.paths.specs.Reading.{on_some, every}
use Rattle.tree.specs.Cells.{Cell, Unset}
use Rattle.records.specs.Readers.{Bytes}
use Rattle.session_spec.specs.Layout.{parts, pad, cell_state, key_of, put_cell, cell_in, head_cell, tail_cells, put_cells}
use Rattle.session_laws.proofs.Areas.{CellFit, cell-width, cell-back, in-fit}
use Rattle.cells.specs.Cells.{depth_at, scope_at, or_unset}
use Rattle.cells.proofs.Places.{get_d_part}
use Rattle.cells.proofs.Selections.{depth_is, scope-is}
use Rattle.selections.specs.Selections.{written_for, written}
use Rattle.selections.specs.Exact.{highest, cell_or, exact_with, exact}
use Rattle.selections.proofs.Exact.{or-fit, state-low}
use Rattle.lists.proofs.Lists.{third-false}

-- ---- one cell in front of others

same-split : (x y s : Text) → same s (x ++ y) ≡ (same (take (length x) s) x && same (drop (length x) s) y)
unfolding same
same-split [] y s = refl
same-split (a ∷ x) y [] = refl
same-split (a ∷ x) y (b ∷ s) = rw (same-split x y s) (sym (and_assoc (eqb b a) (same (take (length x) s) x) (same (drop (length x) s) y)))

cell-split : (m : ℕ) (c : Cell) (ys xs : Bytes) → CellFit c → same xs (put_cell m c ++ ys) ≡ (same (take 128 xs) (put_cell m c) && same (drop 128 xs) ys)
cell-split m c ys xs f =
    same-split (put_cell m c) ys xs
    ∙ ap (λ (n : ℕ). same (take n xs) (put_cell m c) && same (drop n xs) ys) (cell-width m c f)

-- bytes that are no cell are not those of one
unread : (m : ℕ) (has : Bool) (xs : Bytes) → cell_in xs ≡ none → exact_with m has xs ≡ false
unfolding exact_with
unread m has xs h = same-differ xs (put_cell m (cell_or has xs)) differ
  where
    differ : xs ≡ put_cell m (cell_or has xs) → ⊥
    differ e =
        let q : cell_in (put_cell m (cell_or has xs)) ≡ some (cell_or has xs) = cell-back m (cell_or has xs) (or-fit has xs) in
        let p : cell_in xs ≡ cell_in (put_cell m (cell_or has xs)) = ap cell_in e in
        let z : ◌≡◌ {A = ℕ} 0 1 = cc in
        omega arith

-- ---- cells one behind the other, the first `f` of them of a field

unfoldable written_by : List ℕ → (f : ℕ) → Bytes → Option (List Cell) → Bool
written_by ms f xs none = false
written_by ms f xs (some cs) = same xs (put_cells ms (take f cs))

unfoldable exact_by : List ℕ → (f : ℕ) → Bytes → Bool
exact_by [] f xs = same xs []
exact_by (m ∷ ms) f xs = exact_with m (ltb 0 f) (take 128 xs) && exact_by ms (pred f) (drop 128 xs)

by-cells : (ms : List ℕ) (f : ℕ) (xs : Bytes) → written_by ms f xs (every cell_in (parts 128 (length ms) xs)) ≡ exact_by ms f xs
unfolding written_by exact_by every parts put_cells on_some
by-cells [] f xs = refl
by-cells (m ∷ ms) f xs = by (cell_in (take 128 xs)) refl (every cell_in (parts 128 (length ms) (drop 128 xs))) f (by-cells ms (pred f) (drop 128 xs))
  where
    by : (o : Option Cell) → cell_in (take 128 xs) ≡ o → (p : Option (List Cell)) (f : ℕ) → written_by ms (pred f) (drop 128 xs) p ≡ exact_by ms (pred f) (drop 128 xs)
        → written_by (m ∷ ms) f xs (on_some o (λ b. map (λ l. b ∷ l) p)) ≡ (exact_with m (ltb 0 f) (take 128 xs) && exact_by ms (pred f) (drop 128 xs))
    by none e p f ih = rw (unread m (ltb 0 f) (take 128 xs) e)
    by (some c) e none f ih = rw (← ih) (sym (and-false (exact_with m (ltb 0 f) (take 128 xs))))
    by (some c) e (some cs) zero ih =
        unfold head_cell tail_cells exact_with cell_or in
        (cell-split m Unset (put_cells ms []) xs (unfold key_of in omega arith)
        ∙ ap (λ (b : Bool). same (take 128 xs) (put_cell m Unset) && b) ih)
    by (some c) e (some cs) (suc g) ih =
        unfold head_cell tail_cells exact_with cell_or or_unset in
        (cell-split m c (put_cells ms (take g cs)) xs (in-fit (take 128 xs) c e)
        ∙ rw (lt-ltb 0 (suc g) (omega arith), e) (ap (λ (b : Bool). same (take 128 xs) (put_cell m c) && b) ih))

-- ---- what is written has 512 bytes

cell-wide : (m : ℕ) (has : Bool) (x : Bytes) → exact_with m has x ≡ true → length x ≡ 128
unfolding exact_with
cell-wide m has x h = ap length (same-eq x (put_cell m (cell_or has x)) h) ∙ cell-width m (cell_or has x) (or-fit has x)

cells_wide : (ms : List ℕ) (f : ℕ) (xs : Bytes) → exact_by ms f xs ≡ true → length xs ≡ 128 * length ms
unfolding exact_by
cells_wide [] f xs h = ap length (same-eq xs [] h)
cells_wide (m ∷ ms) f xs h =
    let p = and_parts (exact_with m (ltb 0 f) (take 128 xs)) (exact_by ms (pred f) (drop 128 xs)) h in
    let a = cell-wide m (ltb 0 f) (take 128 xs) p.0 in
    let b = cells_wide ms (pred f) (drop 128 xs) p.1 in
    omega (arith, length-take 128 xs, length-drop 128 xs)

module _ (f : ℕ) (xs : Bytes) where
  abbrev numbers : List ℕ
  numbers = depth_at xs 0 % 32 ∷ depth_at xs 0 / 32 ∷ scope_at xs 0 ∷ 0 ∷ []

  by-four : written f xs ≡ exact_by numbers f xs
  unfolding written
  by-four = same_test (every cell_in (parts 128 4 xs)) ∙ by-cells numbers f xs
    where
      same_test : (o : Option (List Cell)) → written_for f xs o ≡ written_by numbers f xs o
      same_test none = unfold written_for written_by in refl
      same_test (some cs) = unfold written_for written_by in refl

  pub written-width : (length xs ≡ 512 → ⊥) → false ≡ written f xs
  written-width n = by (written f xs) refl
    where
      by : (b : Bool) → written f xs ≡ b → false ≡ b
      by false e = refl
      by true e = absurd (n (cells_wide numbers f xs (sym by-four ∙ e)))

-- ---- each of the four

-- with one field fewer
fewer : (i f : ℕ) → ltb i (pred f) ≡ ltb (suc i) f
fewer i zero = leb-suc-zero i ∙ sym (leb-suc-zero (suc i))
fewer i (suc g) = sym (leb-suc-suc (suc i) g)

-- a cell under its own number
own : (m : ℕ) (has has' : Bool) (x x' : Bytes) → has ≡ has' → x ≡ x' → m ≡ get_or x' 0 0 / 8 → exact_with m has x ≡ exact has' x'
unfolding exact
own m has has' x x' p q r = rw (p, q, r)

-- the last one has no number
last_none : (has : Bool) (x : Bytes) → 7 < get_or x 0 0 → exact_with 0 has x ≡ false
unfolding exact_with put_cell pad
last_none has x h = same-differ x (put_cell 0 (cell_or has x)) differ
  where
    differ : x ≡ put_cell 0 (cell_or has x) → ⊥
    differ e =
        let s : get_or x 0 0 ≡ cell_state (cell_or has x) + 8 * 0 = ap (λ (l : Bytes). get_or l 0 0) e in
        omega (arith, state-low has x, most has)
      where
        most : (b : Bool) → highest b ≤ 4
        most true = omega arith
        most false = omega arith

module _ (f : ℕ) (xs : Bytes) (w : length xs ≡ 512) (low : get_or xs 0 0 < 256) (next : get_or xs 128 0 < 256) where
  number₀ : depth_at xs 0 % 32 ≡ get_or (part xs 0 128) 0 0 / 8
  number₀ = omega (arith, depth_is xs 0, get_d_part xs 0 128 0 (omega arith))

  number₁ : depth_at xs 0 / 32 ≡ get_or (part xs 128 128) 0 0 / 8
  number₁ = omega (arith, depth_is xs 0, get_d_part xs 128 128 0 (omega arith))

  number₂ : scope_at xs 0 ≡ get_or (part xs 256 128) 0 0 / 8
  number₂ = omega (arith, scope-is xs 0, get_d_part xs 256 128 0 (omega arith))

  second : drop 128 (drop 128 xs) ≡ drop 256 xs
  second = drop-drop 128 128 xs

  third : drop 128 (drop 128 (drop 128 xs)) ≡ drop 384 xs
  third = ap (drop 128) second ∙ drop-drop 128 256 xs

  nothing-behind : same (drop 128 (drop 128 (drop 128 (drop 128 xs)))) [] ≡ true
  unfolding same
  nothing-behind = rw (third, drop-drop 128 384 xs, drop_of_length-le xs {i = 512} (omega arith))

  four : written f xs
      ≡ (exact (ltb 0 f) (part xs 0 128) && (exact (ltb 1 f) (part xs 128 128) && (exact (ltb 2 f) (part xs 256 128) && exact_with 0 (ltb 3 f) (part xs 384 128))))
  unfolding exact_by
  four =
      by-four f xs
      ∙ rw (
        own (depth_at xs 0 % 32) (ltb 0 f) (ltb 0 f) (take 128 xs) (part xs 0 128) refl refl number₀,
        own (depth_at xs 0 / 32) (ltb 0 (pred f)) (ltb 1 f) (take 128 (drop 128 xs)) (part xs 128 128) (fewer 0 f) refl number₁,
        own (scope_at xs 0) (ltb 0 (pred (pred f))) (ltb 2 f) (take 128 (drop 128 (drop 128 xs))) (part xs 256 128) (fewer 0 (pred f) ∙ fewer 1 f) (ap (take 128) second) number₂,
        fewer 0 (pred (pred f)) ∙ fewer 1 (pred f) ∙ fewer 2 f,
        nothing-behind,
        third,
        and-true (exact_with 0 (ltb 3 f) (part xs 384 128)),
      )

  -- the last cell has no number, and each is exact
  by-parts : (b : Bool) → leb (get_or xs 384 0) 7 ≡ b
      → written f xs ≡ (b && (exact (ltb 0 f) (part xs 0 128) && (exact (ltb 1 f) (part xs 128 128) && (exact (ltb 2 f) (part xs 256 128) && exact (ltb 3 f) (part xs 384 128)))))
  by-parts true e =
      let h = leb-true (get_or xs 384 0) 7 e in
      let k : 0 ≡ get_or (part xs 384 128) 0 0 / 8 = omega (arith, get_d_part xs 384 128 0 (omega arith)) in
      four ∙ rw (own 0 (ltb 3 f) (ltb 3 f) (part xs 384 128) (part xs 384 128) refl refl k)
  by-parts false e =
      let h = leb-false (get_or xs 384 0) 7 e in
      let k : 7 < get_or (part xs 384 128) 0 0 = omega (arith, get_d_part xs 384 128 0 (omega arith)) in
      four ∙ rw (last_none (ltb 3 f) (part xs 384 128) k, and-false (exact (ltb 2 f) (part xs 256 128))) (third-false (exact (ltb 0 f) (part xs 0 128)) (exact (ltb 1 f) (part xs 128 128)))

four-tests : (f : ℕ) (xs : Bytes) → get_or xs 0 0 < 256 → get_or xs 128 0 < 256
    → written f xs ≡ (eqb (length xs) 512 && (leb (get_or xs 384 0) 7 && (exact (ltb 0 f) (part xs 0 128) && (exact (ltb 1 f) (part xs 128 128) && (exact (ltb 2 f) (part xs 256 128) && exact (ltb 3 f) (part xs 384 128))))))
four-tests f xs low next = by (eqb (length xs) 512) refl
  where
    by : (b : Bool) → eqb (length xs) 512 ≡ b
        → written f xs ≡ (b && (leb (get_or xs 384 0) 7 && (exact (ltb 0 f) (part xs 0 128) && (exact (ltb 1 f) (part xs 128 128) && (exact (ltb 2 f) (part xs 256 128) && exact (ltb 3 f) (part xs 384 128))))))
    by true e = by-parts f xs (eqb-true (length xs) 512 e) low next (leb (get_or xs 384 0) 7) refl
    by false e = sym (written-width f xs (λ q. false≢true (sym e ∙ eq-eqb (length xs) 512 q)))

-- whether the cell of a field is exact
abbrev pub exact-at : (f : ℕ) → Bytes → (i : ℕ) → Bool
exact-at f xs i = exact (ltb i f) (part xs (128 * i) 128)

-- THE TESTS that a selection's bytes are put to
pub written-tests : (f : ℕ) (xs : Bytes) → get_or xs 0 0 < 256 → get_or xs 128 0 < 256
    → written f xs ≡ (eqb (length xs) 512 && (leb (get_or xs 384 0) 7 && list_all (exact-at f xs) (range_with_len 0 4)))
written-tests f xs low next =
    four-tests f xs low next
    ∙ ap (λ (b : Bool). eqb (length xs) 512 && (leb (get_or xs 384 0) 7 && (exact-at f xs 0 && (exact-at f xs 1 && (exact-at f xs 2 && b))))) (sym (and-true (exact-at f xs 3)))
