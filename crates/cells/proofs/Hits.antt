-- Hits on the cell at a place: what each way through the code leaves. A place without room for a cell keeps its bytes, and no length changes.
-- Assumes nothing.
use Prim.Native.Nat.{ℕ, ◌+◌, ◌-◌, ◌*◌, ◌/◌, ◌%◌, ◌≤◌, ◌<◌}
use native.Mathlib.Omega.{arith}
use borrow.Author.Tests.{eq-eqb, ne_eqb}
use lib.Dec.{eqb}
use lib.ListN.{length, get_or, replicate, length-append, length-replicate}
use mathlib.Core.Path.{◌≡◌, refl, ap, sym, ◌∙◌}
use mathlib.Core.Bool.{Bool, true, false, cond, ◌||◌, or-true}
use mathlib.Core.List.{◌∷◌, ◌++◌}
use Rattle.lists.specs.Lists.{foldl, part, put}
use Rattle.lists.proofs.Writes.{length-put, put_full}
use Rattle.tree.specs.Cells as tree
use Rattle.tree.specs.Cells.{Hit, Unset, Set, SetNillable, NotSimple, Multiple}
use Rattle.tree.specs.Judge.{is_multiple}
use Rattle.machine.specs.Machine.{hit}
use Rattle.records.specs.Readers.{Bytes}
use Rattle.session_spec.specs.Layout.{pad, cell_state, key_of, put_cell, more_in}
use Rattle.cells.specs.Cells.{cell_for, cell_at, hit_bytes, hit_at}
use Rattle.cells.proofs.Writes.{put_same}
use Rattle.cells.proofs.Places.{first-of-part}

-- ---- the two tests

is-multiple : (x : tree.Cell) → cell_state x ≡ 3 → is_multiple x ≡ true
unfolding cell_state is_multiple
is-multiple Unset e = absurd (omega arith)
is-multiple (Set k) e = absurd (omega arith)
is-multiple (SetNillable k) e = absurd (omega arith)
is-multiple NotSimple e = absurd (omega arith)
is-multiple Multiple e = refl

not-multiple : (x : tree.Cell) → (cell_state x ≡ 3 → ⊥) → is_multiple x ≡ false
unfolding cell_state is_multiple
not-multiple Unset h = refl
not-multiple (Set k) h = refl
not-multiple (SetNillable k) h = refl
not-multiple NotSimple h = refl
not-multiple Multiple h = absurd (h refl)

-- ---- the bytes of the cell

module _ (h : Hit) (t : ℕ) (xs : Bytes) where
  pub bytes-none : t ≡ 0 → hit_bytes h t xs ≡ xs
  unfolding hit_bytes
  bytes-none e = rw (eq-eqb t 0 e)

  pub bytes-multiple : cell_state (cell_for xs) ≡ 3 → hit_bytes h t xs ≡ xs
  unfolding hit_bytes
  bytes-multiple e = rw (is-multiple (cell_for xs) e, or-true (eqb t 0))

  pub bytes-hit : (t ≡ 0 → ⊥) → (cell_state (cell_for xs) ≡ 3 → ⊥) → hit_bytes h t xs ≡ put_cell (more_in 0 xs) (foldl hit (cell_for xs) (replicate t h))
  unfolding hit_bytes
  bytes-hit z m = rw (ne_eqb t 0 z, not-multiple (cell_for xs) m)

-- ---- the area

module _ (h : Hit) (at t : ℕ) (l : Bytes) where
  pub no_hit : t ≡ 0 → l ≡ hit_at h at t l
  unfolding hit_at
  no_hit e = sym (ap (λ (z : Bytes). put l at z) (bytes-none h t (part l at 128) e) ∙ put_same l at 128)

  pub multiple-hit : cell_state (cell_at l at) ≡ 3 → l ≡ hit_at h at t l
  unfolding hit_at cell_at
  multiple-hit e = sym (ap (λ (z : Bytes). put l at z) (bytes-multiple h t (part l at 128) e) ∙ put_same l at 128)

  same_more : (m : ℕ) → m ≡ get_or l at 0 / 8 → m < 32 → m % 32 ≡ more_in 0 (part l at 128)
  unfolding more_in
  same_more m e r = let b : get_or (part l at 128) 0 0 ≡ get_or l at 0 = first-of-part l at 128 (omega arith) in omega arith

  pub new-hit : (m : ℕ) (y : tree.Cell) → (t ≡ 0 → ⊥) → (cell_state (cell_at l at) ≡ 3 → ⊥) → m ≡ get_or l at 0 / 8 → m < 32
      → y ≡ foldl hit (cell_at l at) (replicate t h) → put l at (put_cell (m % 32) y) ≡ hit_at h at t l
  unfolding hit_at cell_at
  new-hit m y z n e r ey =
      let xs : Bytes = part l at 128 in
      ap (λ (k : ℕ). put l at (put_cell k y)) (same_more m e r)
      ∙ ap (λ x. put l at (put_cell (more_in 0 xs) x)) ey
      ∙ ap (λ (b : Bytes). put l at b) (sym (bytes-hit h t xs z n))

  pub length-hit : length (hit_at h at t l) ≡ length l
  unfolding hit_at
  length-hit = length-put l at (hit_bytes h t (part l at 128))

-- ---- no room

wide : (m : ℕ) (c : tree.Cell) → 128 ≤ length (put_cell m c)
unfolding put_cell pad
wide m c =
    let ys : Bytes = (cell_state c + 8 * m) ∷ length (key_of c) ∷ key_of c in
    let e : length (ys ++ replicate (128 - length ys) 0) ≡ length ys + (128 - length ys) =
    length-append ys (replicate (128 - length ys) 0) ∙ ap (λ (n : ℕ). length ys + n) (length-replicate (128 - length ys) 0) in
    omega arith

pub hit-without-room : (h : Hit) (at t : ℕ) (l : Bytes) → length l < at + 128 → hit_at h at t l ≡ l
unfolding hit_at hit_bytes
hit-without-room h at t l r = by (eqb t 0 || is_multiple (cell_for (part l at 128)))
  where
    next : Bytes
    next = put_cell (more_in 0 (part l at 128)) (foldl hit (cell_for (part l at 128)) (replicate t h))

    by : (b : Bool) → put l at (cond b (part l at 128) next) ≡ l
    by true = put_same l at 128
    by false = put_full l at next (omega (arith, wide (more_in 0 (part l at 128)) (foldl hit (cell_for (part l at 128)) (replicate t h))))
