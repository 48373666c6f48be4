-- The cell at a place of the area: what its bytes tell by one test after the other, and that a cell which was stored is read again.
-- By cases on the three tests: 128 bytes, a key of at most 126, a state of at most 4.
-- Assumes nothing.
use Prim.Native.Nat.{ℕ, zero, suc, min, ◌+◌, ◌-◌, ◌%◌, ◌≤◌, ◌<◌}
use native.Mathlib.Nat.{add-zero}
use native.Mathlib.Omega.{arith}
use borrow.Author.Tests.{leb-true, le-leb, lt-leb}
use lib.Dec.{leb}
use lib.ListN.{length, take, drop, get_or, length-take, length-drop}
use lib.Seq.{get_or-take, get_or-drop}
use mathlib.Core.Path.{◌≡◌, refl, ap, sym, ◌∙◌}
use mathlib.Core.Bool.{Bool, true, false, cond, false≢true}
use mathlib.Core.List.{[]}
use mathlib.Core.Option.{none, some}
use Rattle.lists.specs.Lists.{part, over, put}
use Rattle.lists.proofs.Writes.{length_part, part-over, put-fits}
use Rattle.texts.specs.Texts.{Text}
use Rattle.tree.specs.Cells as tree
use Rattle.tree.specs.Cells.{Unset, Set, SetNillable, NotSimple, Multiple}
use Rattle.records.specs.Readers.{Bytes}
use Rattle.session_spec.specs.Layout.{cell_state, key_of, put_cell, cell_from, cell_in}
use Rattle.session_laws.proofs.Areas.{CellFit, cell-width, cell-back}
use Rattle.cells.specs.declared.Cell.{Cell}
use Rattle.cells.specs.Cells.{has_key, cell_of, or_unset, cell_for, cell_at}
use Rattle.cells.proofs.Writes.{part-part}
use Rattle.cells.proofs.Values.{Sized, value-fit}

-- ---- a byte of a part, and its length

pub get_d_part : (l : Bytes) (at w i : ℕ) → i < w → get_or (part l at w) i 0 ≡ get_or l (at + i) 0
get_d_part l at w i h = get_or-take w (drop at l) i 0 h ∙ get_or-drop at l i 0

pub first-of-part : (l : Bytes) (at w : ℕ) → 0 < w → get_or (part l at w) 0 0 ≡ get_or l at 0
first-of-part l at w h = get_d_part l at w 0 h ∙ ap (λ (k : ℕ). get_or l k 0) (add-zero at)

part-short : (l : Bytes) (at : ℕ) → length l < at + 128 → length (part l at 128) < 128
part-short l at h = simp (length-take, length-drop) (omega arith)

-- ---- the three tests

-- the cell, where `room` and `short` say that 128 bytes are there and that the key is short enough
abbrev tested : Bool → Bool → ℕ → Text → tree.Cell
tested room short s k = or_unset (cond room (cond short (cell_from s k) none) none)

-- the bytes of the key
abbrev key_here : Bytes → Text
key_here xs = take (get_or xs 1 0) (drop 2 xs)

for-tests : (xs : Bytes) → cell_for xs ≡ tested (leb 128 (length xs)) (leb (get_or xs 1 0) 126) (get_or xs 0 0 % 8) (key_here xs)
unfolding cell_for cell_in
for-tests xs = refl

state-good : (s : ℕ) (k : Text) → s ≤ 4 → s ≡ cell_state (or_unset (cell_from s k))
unfolding cell_from or_unset cell_state
state-good zero k h = refl
state-good (suc zero) k h = refl
state-good (suc (suc zero)) k h = refl
state-good (suc (suc (suc zero))) k h = refl
state-good (suc (suc (suc (suc zero)))) k h = refl
state-good (suc (suc (suc (suc (suc n))))) k h = absurd (omega arith)

state-odd : (s : ℕ) (k : Text) → (s ≡ 1 → ⊥) → (s ≡ 2 → ⊥) → (s ≡ 3 → ⊥) → (s ≡ 4 → ⊥) → 0 ≡ cell_state (or_unset (cell_from s k))
unfolding cell_from or_unset cell_state
state-odd zero k a b c d = refl
state-odd (suc zero) k a b c d = absurd (a refl)
state-odd (suc (suc zero)) k a b c d = absurd (b refl)
state-odd (suc (suc (suc zero))) k a b c d = absurd (c refl)
state-odd (suc (suc (suc (suc zero)))) k a b c d = absurd (d refl)
state-odd (suc (suc (suc (suc (suc n))))) k a b c d = refl

no-state : 0 ≡ cell_state (or_unset none)
unfolding or_unset cell_state
no-state = refl

pub for-short : (xs : Bytes) → length xs < 128 → cell_for xs ≡ Unset
unfolding or_unset
for-short xs h = for-tests xs ∙ rw (lt-leb 128 (length xs) h)

-- ---- the state, test by test

module _ (l : Bytes) (at : ℕ) where
  pub state-short : length l < at + 128 → 0 ≡ cell_state (cell_at l at)
  unfolding cell_at cell_state
  state-short h = rw (for-short (part l at 128) (part-short l at h))

  module _ (h : at + 128 ≤ length l) where
    room : leb 128 (length (part l at 128)) ≡ true
    room = le-leb 128 (length (part l at 128)) (omega (arith, length_part l at 128 h))

    size-here : get_or (part l at 128) 1 0 ≡ get_or l (at + 1) 0
    size-here = get_d_part l at 128 1 (omega arith)

    head-here : get_or (part l at 128) 0 0 ≡ get_or l at 0
    head-here = first-of-part l at 128 (omega arith)

    pub state-long : 126 < get_or l (at + 1) 0 → 0 ≡ cell_state (cell_at l at)
    unfolding cell_at
    state-long g =
        let t : leb (get_or (part l at 128) 1 0) 126 ≡ false = lt-leb (get_or (part l at 128) 1 0) 126 (rw size-here g) in
        rw (for-tests (part l at 128), room, t) no-state

    module _ (g : get_or l (at + 1) 0 ≤ 126) where
      short : leb (get_or (part l at 128) 1 0) 126 ≡ true
      short = le-leb (get_or (part l at 128) 1 0) 126 (rw size-here g)

      pub state-past : (get_or l at 0 % 8 ≡ 1 → ⊥) → (get_or l at 0 % 8 ≡ 2 → ⊥) → (get_or l at 0 % 8 ≡ 3 → ⊥) → (get_or l at 0 % 8 ≡ 4 → ⊥)
          → 0 ≡ cell_state (cell_at l at)
      unfolding cell_at
      state-past a b c d = rw (for-tests (part l at 128), room, short, head-here) (state-odd (get_or l at 0 % 8) (key_here (part l at 128)) a b c d)

      pub state-is : (n : ℕ) → n ≤ 4 → get_or l at 0 % 8 ≡ n → n ≡ cell_state (cell_at l at)
      unfolding cell_at
      state-is n h e =
          sym e ∙ rw (for-tests (part l at 128), room, short, head-here) (state-good (get_or l at 0 % 8) (key_here (part l at 128)) (omega (arith, e)))

-- ---- the key

-- a cell that is neither Set nor Nillable has none
pub without-key : (x : tree.Cell) → has_key (cell_state x) ≡ false → [] ≡ key_of x
unfolding cell_state key_of
without-key Unset h = refl
without-key (Set k) h = absurd (false≢true (sym h))
without-key (SetNillable k) h = absurd (false≢true (sym h))
without-key NotSimple h = refl
without-key Multiple h = refl

-- a Set cell passed all tests
set_tested : (room short : Bool) (s : ℕ) (k : Text) → has_key (cell_state (tested room short s k)) ≡ true → (room ≡ true) × (short ≡ true) × (k ≡ key_of (tested room short s k))
unfolding cell_from or_unset cell_state key_of
set_tested true true zero k h = absurd (false≢true h)
set_tested true true (suc zero) k h = (refl, refl, refl)
set_tested true true (suc (suc zero)) k h = absurd (false≢true h)
set_tested true true (suc (suc (suc zero))) k h = absurd (false≢true h)
set_tested true true (suc (suc (suc (suc zero)))) k h = (refl, refl, refl)
set_tested true true (suc (suc (suc (suc (suc n))))) k h = absurd (false≢true h)
set_tested true false s k h = absurd (false≢true h)
set_tested false short s k h = absurd (false≢true h)

-- where a Set cell stands, and its key
pub record SetAt (l : Bytes) (at : ℕ) : Type 0 where
  pub room : at + 128 ≤ length l
  pub short : get_or l (at + 1) 0 ≤ 126
  pub key : take (get_or l (at + 1) 0) (drop (at + 2) l) ≡ key_of (cell_at l at)

pub set_at : (l : Bytes) (at : ℕ) → has_key (cell_state (cell_at l at)) ≡ true → SetAt l at
unfolding cell_at
set_at l at h =
    let xs : Bytes = part l at 128 in
    let p = set_tested (leb 128 (length xs)) (leb (get_or xs 1 0) 126) (get_or xs 0 0 % 8) (key_here xs) (sym (ap (λ x. has_key (cell_state x)) (for-tests xs)) ∙ h) in
    let m : 128 ≤ length xs = leb-true 128 (length xs) p.0 in
    let n : length xs ≡ min 128 (length l - at) = simp (length-take, length-drop) in
    let e : get_or xs 1 0 ≡ get_or l (at + 1) 0 = get_d_part l at 128 1 (omega arith) in
    let k : get_or l (at + 1) 0 ≤ 126 = omega (arith, leb-true (get_or xs 1 0) 126 p.1) in
    record {
      room = omega arith;
      short = k;
      key =
          sym (part-part l at 128 2 (get_or l (at + 1) 0) (omega arith))
          ∙ ap (λ (i : ℕ). take i (drop 2 xs)) (sym e)
          ∙ p.2
          ∙ ap key_of (sym (for-tests xs));
    }

fit-tested : (room short : Bool) (s : ℕ) (k : Text) → (short ≡ true → length k ≤ 126) → CellFit (tested room short s k)
unfolding cell_from or_unset key_of
fit-tested true true zero k f = omega arith
fit-tested true true (suc zero) k f = f refl
fit-tested true true (suc (suc zero)) k f = omega arith
fit-tested true true (suc (suc (suc zero))) k f = omega arith
fit-tested true true (suc (suc (suc (suc zero)))) k f = f refl
fit-tested true true (suc (suc (suc (suc (suc n))))) k f = omega arith
fit-tested true false s k f = omega arith
fit-tested false short s k f = omega arith

-- no cell that is read has a key of more than 126 bytes
pub for-fit : (xs : Bytes) → CellFit (cell_for xs)
for-fit xs =
    rw (for-tests xs)
    (fit-tested (leb 128 (length xs)) (leb (get_or xs 1 0) 126) (get_or xs 0 0 % 8) (key_here xs)
    (λ e. let n = leb-true (get_or xs 1 0) 126 e in rw (length-take (get_or xs 1 0) (drop 2 xs)) (omega arith)))

pub at-fit : (l : Bytes) (at : ℕ) → CellFit (cell_at l at)
unfolding cell_at
at-fit l at = for-fit (part l at 128)

-- ---- the same cell as in the layout of a session

pub for-is : (xs : Bytes) (c : tree.Cell) → 128 ≤ length xs → cell_in xs ≡ some c → cell_for xs ≡ c
unfolding cell_for or_unset
for-is xs c h e = rw (le-leb 128 (length xs) h, e)

-- WHAT IS LOADED IS THE CELL THAT STANDS THERE.
pub at-is : (l : Bytes) (at : ℕ) (c : tree.Cell) → at + 128 ≤ length l → cell_in (part l at 128) ≡ some c → cell_at l at ≡ c
unfolding cell_at
at-is l at c h e = for-is (part l at 128) c (omega (arith, length_part l at 128 h)) e

pub for-put : (m : ℕ) (c : tree.Cell) → CellFit c → cell_for (put_cell m c) ≡ c
for-put m c f = for-is (put_cell m c) c (omega (arith, cell-width m c f)) (cell-back m c f)

-- WHAT WAS STORED IS LOADED AGAIN.
pub stored_back : (l : Bytes) (at m : ℕ) (c : tree.Cell) → at + 128 ≤ length l → CellFit c → cell_at (put l at (put_cell m c)) at ≡ c
unfolding cell_at
stored_back l at m c h f =
    let w : length (put_cell m c) ≡ 128 = cell-width m c f in
    let p : part (put l at (put_cell m c)) at 128 ≡ put_cell m c =
    ap (λ (z : Bytes). part z at 128) (put-fits l at (put_cell m c) (omega arith))
    ∙ ap (λ (n : ℕ). part (over l at (put_cell m c)) at n) (sym w)
    ∙ part-over l at (put_cell m c) (omega arith) in
    ap cell_for p ∙ for-put m c f

-- the same of a value
pub value-back : (l : Bytes) (at more : ℕ) (c : Cell) → Sized c → at + 128 ≤ length l → cell_at (put l at (put_cell (more % 32) (cell_of c))) at ≡ cell_of c
value-back l at more c k h = stored_back l at (more % 32) (cell_of c) h (value-fit c k)
