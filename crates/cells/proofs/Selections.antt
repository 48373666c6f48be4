-- A selection's four cells: the numbers beside their states, and the blank ones that are written one behind the other.
-- What is read of a selection that stands there is its depth, the place of its scope and its cells.
-- Assumes nothing.
use Prim.Native.Nat.{ℕ, zero, suc, ◌+◌, ◌*◌, ◌/◌, ◌%◌, ◌≤◌, ◌<◌}
use native.Mathlib.Numerals.{add-one}
use native.Mathlib.Omega.{arith}
use lib.ListN.{length, take, get_or, length-append, get_or-eq_default}
use lib.Seq.{take_at, length-take-le, get_or-append-add}
use mathlib.Core.Path.{◌≡◌, refl, ap, sym, ◌∙◌}
use mathlib.Core.List.{List, [], ◌∷◌, ◌++◌, map, append-nil, append_assoc}
use Rattle.lists.specs.Lists.{part, put, All}
use Rattle.lists.proofs.Places.{over_nothing}
use Rattle.lists.proofs.Writes.{part-append, put-fits, put_then}
use Rattle.paths.specs.Matching.{FieldAlt}
use Rattle.tree.specs.Cells as tree
use Rattle.tree.specs.Cells.{Unset, Set, SetNillable, NotSimple, Multiple}
use Rattle.machine.specs.Machine.{OpenScope, Selection}
use Rattle.records.specs.Readers.{Bytes}
use Rattle.session_spec.specs.Layout.{pad, cell_state, key_of, put_cell, more_in, place_of, head_cell, tail_cells, put_cells, put_selection}
use Rattle.session_laws.proofs.Areas.{CellFit, cell-width, head-fit, tail-fit}
use Rattle.cells.specs.Cells.{cell_for, cell_at, depth_at, scope_at, blank_cells}
use Rattle.cells.proofs.Writes.{part-part}
use Rattle.cells.proofs.Places.{get_d_part, first-of-part, for-put}

-- ---- the numbers at a place

module _ (l : Bytes) (at : ℕ) where
  pub depth_is : get_or l at 0 / 8 + 32 * (get_or l (at + 128) 0 / 8) ≡ depth_at l at
  unfolding depth_at more_in
  depth_is = sym (rw (first-of-part l at 512 (omega arith), get_d_part l at 512 128 (omega arith)))

  pub scope-is : get_or l (at + 256) 0 / 8 ≡ scope_at l at
  unfolding scope_at more_in
  scope-is = sym (rw (get_d_part l at 512 256 (omega arith)))

  nothing : (n : ℕ) → length l ≤ at → get_or l (at + n) 0 ≡ 0
  nothing n h = get_or-eq_default l 0 {n = at + n} (omega arith)

  pub depth-past : length l ≤ at → 0 ≡ depth_at l at
  depth-past h = sym (sym depth_is ∙ rw (get_or-eq_default l 0 {n = at} h, nothing 128 h))

  pub scope-past : length l ≤ at → 0 ≡ scope_at l at
  scope-past h = sym (sym scope-is ∙ rw (nothing 256 h))

-- ---- the numbers and the cells of a selection that stands there

pub more-first : (m : ℕ) (c : tree.Cell) (xs : Bytes) → get_or (put_cell m c ++ xs) 0 0 / 8 ≡ m
unfolding put_cell pad cell_state
more-first m Unset xs = omega arith
more-first m (Set k) xs = omega arith
more-first m (SetNillable k) xs = omega arith
more-first m NotSimple xs = omega arith
more-first m Multiple xs = omega arith

more-nth : (i : ℕ) (ms : List ℕ) (cs : List tree.Cell) → All CellFit cs → more_in i (put_cells ms cs) ≡ get_or ms i 0
unfolding more_in put_cells
more-nth i [] cs h = refl
more-nth zero (m ∷ ms) cs h = more-first m (head_cell cs) (put_cells ms (tail_cells cs))
more-nth (suc i) (m ∷ ms) cs h =
    let w : length (put_cell m (head_cell cs)) ≡ 128 = cell-width m (head_cell cs) (head-fit cs h) in
    let n : 128 * suc i ≡ length (put_cell m (head_cell cs)) + 128 * i = omega arith in
    rw (n, get_or-append-add (put_cell m (head_cell cs)) (put_cells ms (tail_cells cs)) (128 * i) 0) (more-nth i ms (tail_cells cs) (tail-fit cs h))

head-is : (cs : List tree.Cell) → head_cell cs ≡ get_or cs 0 Unset
unfolding head_cell
head-is [] = refl
head-is (c ∷ cs) = refl

tail-is : (cs : List tree.Cell) (i : ℕ) → get_or (tail_cells cs) i Unset ≡ get_or cs (suc i) Unset
unfolding tail_cells
tail-is [] i = refl
tail-is (c ∷ cs) i = refl

nth-cell : (i : ℕ) (ms : List ℕ) (cs : List tree.Cell) → All CellFit cs → i < length ms → cell_for (part (put_cells ms cs) (128 * i) 128) ≡ get_or cs i Unset
unfolding put_cells
nth-cell i [] cs h r = absurd (omega arith)
nth-cell zero (m ∷ ms) cs h r =
    let f : CellFit (head_cell cs) = head-fit cs h in
    ap cell_for (take_at (put_cell m (head_cell cs)) (put_cells ms (tail_cells cs)) 128 (cell-width m (head_cell cs) f))
    ∙ for-put m (head_cell cs) f
    ∙ head-is cs
nth-cell (suc i) (m ∷ ms) cs h r =
    let w : length (put_cell m (head_cell cs)) ≡ 128 = cell-width m (head_cell cs) (head-fit cs h) in
    let n : 128 * suc i ≡ length (put_cell m (head_cell cs)) + 128 * i = omega arith in
    ap (λ (k : ℕ). cell_for (part (put_cell m (head_cell cs) ++ put_cells ms (tail_cells cs)) k 128)) n
    ∙ ap cell_for (part-append (put_cell m (head_cell cs)) (put_cells ms (tail_cells cs)) (128 * i) 128)
    ∙ nth-cell i ms (tail_cells cs) (tail-fit cs h) (omega arith)
    ∙ tail-is cs i

module _ (os : List OpenScope) (s : Selection) (l : Bytes) (at : ℕ) (fit : All CellFit s.cells) (here : part l at 512 ≡ put_selection os s) where
  more-here : (i : ℕ) → more_in i (part l at 512) ≡ get_or (s.depth % 32 ∷ s.depth / 32 ∷ place_of s.scope.number os ∷ 0 ∷ []) i 0
  more-here i = ap (λ (z : Bytes). more_in i z) here ∙ unfold put_selection in (more-nth i _ s.cells fit)

  pub depth-here : depth_at l at ≡ s.depth
  unfolding depth_at
  depth-here = rw (more-here 0, more-here 1) (omega arith)

  pub scope-here : scope_at l at ≡ place_of s.scope.number os
  unfolding scope_at
  scope-here = more-here 2

  -- each cell is read again; a field that the selection lacks is Unset
  pub cell-here : (i : ℕ) → i < 4 → cell_at l (at + 128 * i) ≡ get_or s.cells i Unset
  unfolding cell_at
  cell-here i r =
      ap cell_for (sym (part-part l at 512 (128 * i) 128 (omega arith)) ∙ ap (λ (z : Bytes). part z (128 * i) 128) here)
      ∙ unfold put_selection in (nth-cell i (s.depth % 32 ∷ s.depth / 32 ∷ place_of s.scope.number os ∷ 0 ∷ []) s.cells fit r)

-- ---- blank cells

unset-width : (m : ℕ) → length (put_cell m Unset) ≡ 128
unset-width m = cell-width m Unset (unfold key_of in omega arith)

blanks-length : (ms : List ℕ) → length (put_cells ms []) ≡ 128 * length ms
unfolding put_cells head_cell tail_cells
blanks-length [] = refl
blanks-length (m ∷ ms) = simp (length-append, unset-width m, blanks-length ms) (omega arith)

-- one more of them
next-blank : (ms : List ℕ) (k : ℕ) → k < length ms → put_cells (take (suc k) ms) [] ≡ put_cells (take k ms) [] ++ put_cell (get_or ms k 0) Unset
unfolding put_cells head_cell tail_cells
next-blank [] k h = absurd (omega arith)
next-blank (m ∷ ms) zero h = append-nil (put_cell m Unset)
next-blank (m ∷ ms) (suc k) h =
    ap (λ (z : Bytes). put_cell m Unset ++ z) (next-blank ms k (omega arith))
    ∙ sym (append_assoc (put_cell m Unset) (put_cells (take k ms) []) (put_cell (get_or ms k 0) Unset))

module _ (l : Bytes) (at : ℕ) (ms : List ℕ) (room : at + 128 * length ms ≤ length l) where
  pub blank-none : l ≡ put l at (put_cells (take 0 ms) [])
  unfolding put_cells
  blank-none = sym (put-fits l at [] (omega arith) ∙ over_nothing l at)

  pub blank-more : (k : ℕ) (before after : Bytes) (c : tree.Cell) → k < length ms → get_or ms k 0 < 32 → before ≡ put l at (put_cells (take k ms) []) → c ≡ Unset
      → after ≡ put before (at + 128 * k) (put_cell (get_or ms k 0 % 32) c) → after ≡ put l at (put_cells (take (k + 1) ms) [])
  blank-more k before after c h small e u ea =
      let m : get_or ms k 0 % 32 ≡ get_or ms k 0 = omega arith in
      let n : length (take k ms) ≡ k = length-take-le k ms (omega arith) in
      let w = blanks-length (take k ms) in
      let v = unset-width (get_or ms k 0) in
      ea
      ∙ rw (m, u, e)
      (put_then l at (at + 128 * k) (put_cells (take k ms) []) (put_cell (get_or ms k 0) Unset) (omega arith) (omega arith))
      ∙ ap (λ (z : Bytes). put l at z) (sym (next-blank ms k h))
      ∙ ap (λ (i : ℕ). put l at (put_cells (take i ms) [])) (sym (add-one k))

pub blank-length : (d s : ℕ) → length (blank_cells d s) ≡ 512
unfolding blank_cells
blank-length d s = blanks-length (d % 32 ∷ d / 32 % 32 ∷ s % 32 ∷ 0 ∷ [])

-- THEY ARE THE BYTES OF A SELECTION WHOSE FIELDS HAVE MET NOTHING.
unset-cells : (ms : List ℕ) (fs : List (List FieldAlt)) → put_cells ms [] ≡ put_cells ms (map (λ _. Unset) fs)
unfolding put_cells head_cell tail_cells
unset-cells [] fs = refl
unset-cells (m ∷ ms) [] = refl
unset-cells (m ∷ ms) (f ∷ fs) = ap (λ (z : Bytes). put_cell m Unset ++ z) (unset-cells ms fs)

pub blank-selection : (os : List OpenScope) (s : Selection) (fs : List (List FieldAlt)) → s.cells ≡ map (λ _. Unset) fs → s.depth < 1024
    → place_of s.scope.number os < 32 → blank_cells s.depth (place_of s.scope.number os) ≡ put_selection os s
unfolding blank_cells put_selection
blank-selection os s fs e hd hp =
    let p : ℕ = place_of s.scope.number os in
    let m₁ : s.depth / 32 % 32 ≡ s.depth / 32 = omega arith in
    let m₂ : p % 32 ≡ p = omega arith in
    ap (λ (m : ℕ). put_cells (s.depth % 32 ∷ m ∷ p % 32 ∷ 0 ∷ []) []) m₁
    ∙ ap (λ (m : ℕ). put_cells (s.depth % 32 ∷ s.depth / 32 ∷ m ∷ 0 ∷ []) []) m₂
    ∙ unset-cells (s.depth % 32 ∷ s.depth / 32 ∷ p ∷ 0 ∷ []) fs
    ∙ ap (λ z. put_cells (s.depth % 32 ∷ s.depth / 32 ∷ p ∷ 0 ∷ []) z) (sym e)
