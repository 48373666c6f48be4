-- One cell, test by test: the state is none too high, a cell without a key has nothing but zeros behind its state, and one with a key has zeros behind that.
-- The bytes are taken as a first, a second and 126 others, and compared with what is written for the cell that they are.
-- Assumes nothing.
use Prim.Native.Nat.{ℕ, zero, suc, ◌+◌, ◌-◌, ◌*◌, ◌/◌, ◌%◌, ◌≤◌, ◌<◌}
use native.Mathlib.Omega.{arith}
use borrow.Author.Tests.{eqb-true, le-leb, lt-leb, eq-eqb, ne_eqb}
use lib.Dec.{eqb, leb}
use lib.ListN.{length, take, drop, get_or, replicate, length-drop, take-append-drop}
use lib.Seq.{length-take-le, drop-drop}
use mathlib.Core.Path.{◌≡◌, refl, ap, sym, ◌∙◌}
use mathlib.Core.Bool.{Bool, true, false, cond, ◌&&◌, and-false, false≢true}
use mathlib.Core.List.{[], ◌∷◌, ◌++◌}
use mathlib.Core.Option.{Option, none, some}
use Rattle.texts.specs.Texts.{Text, same}
use Rattle.texts.proofs.Sameness.{same-differ}
use Rattle.tree.specs.Cells.{Cell, Unset, Set, SetNillable, NotSimple, Multiple}
use Rattle.records.specs.Readers.{Bytes}
use Rattle.session_spec.specs.Layout.{pad, cell_state, key_of, put_cell, cell_from, cell_in}
use Rattle.session_laws.proofs.Areas.{CellFit, cell-width, in-fit}
use Rattle.cells.specs.Cells.{has_key, or_unset}
use Rattle.selections.specs.Exact.{zeros, highest, cell_or, exact_with, exact}
use Rattle.selections.proofs.Zeros.{same-zeros}

-- ---- the cell that bytes are

pub or-fit : (has : Bool) (xs : Bytes) → CellFit (cell_or has xs)
unfolding cell_or
or-fit false xs = unfold key_of in omega arith
or-fit true xs = by (cell_in xs) refl
  where
    by : (o : Option Cell) → cell_in xs ≡ o → CellFit (or_unset o)
    by none e = unfold or_unset key_of in omega arith
    by (some c) e = unfold or_unset in in-fit xs c e

-- its state is none too high
pub state-low : (has : Bool) (xs : Bytes) → cell_state (cell_or has xs) ≤ highest has
unfolding cell_or
state-low false xs = unfold cell_state in omega arith
state-low true xs = low (or_unset (cell_in xs))
  where
    low : (c : Cell) → cell_state c ≤ 4
    low Unset = unfold cell_state in omega arith
    low (Set k) = unfold cell_state in omega arith
    low (SetNillable k) = unfold cell_state in omega arith
    low NotSimple = unfold cell_state in omega arith
    low Multiple = unfold cell_state in omega arith

-- ---- a first byte, a second, and 126 others

same-behind : (k xs ys : Text) → same (k ++ xs) (k ++ ys) ≡ same xs ys
unfolding same
same-behind [] xs ys = refl
same-behind (x ∷ k) xs ys = rw (eq-eqb x x refl, same-behind k xs ys)

-- what is written for a cell, compared byte by byte
against : (has : Bool) (h n : ℕ) (rest : Bytes) (c : Cell) → cell_or has (h ∷ n ∷ rest) ≡ c
    → exact has (h ∷ n ∷ rest)
    ≡ (eqb h (cell_state c + 8 * (h / 8)) && (eqb n (length (key_of c)) && same rest (key_of c ++ replicate (126 - length (key_of c)) 0)))
unfolding exact exact_with put_cell pad same
against has h n rest c e = rw e (ap (λ (m : ℕ). eqb h (cell_state c + 8 * (h / 8)) && (eqb n (length (key_of c)) && same rest (key_of c ++ replicate m 0))) room)
  where
    room : 128 - suc (suc (length (key_of c))) ≡ 126 - length (key_of c)
    room = omega arith

-- a state that is too high
past : (has : Bool) (h n : ℕ) (rest : Bytes) → highest has < h % 8 → false ≡ exact has (h ∷ n ∷ rest)
past has h n rest k =
    let c : Cell = cell_or has (h ∷ n ∷ rest) in
    let low : cell_state c ≤ highest has = state-low has (h ∷ n ∷ rest) in
    let d : eqb h (cell_state c + 8 * (h / 8)) ≡ false = ne_eqb h (cell_state c + 8 * (h / 8)) (λ e. omega arith) in
    sym (against has h n rest c refl ∙ rw d)

-- the cell of a state that has no key
keyless : (s : ℕ) (k : Text) → s ≤ 4 → has_key s ≡ false → (cell_state (or_unset (cell_from s k)) ≡ s) × (key_of (or_unset (cell_from s k)) ≡ [])
unfolding cell_from or_unset cell_state key_of
keyless zero k h f = (refl, refl)
keyless (suc zero) k h f = absurd (false≢true (sym f))
keyless (suc (suc zero)) k h f = (refl, refl)
keyless (suc (suc (suc zero))) k h f = (refl, refl)
keyless (suc (suc (suc (suc zero)))) k h f = absurd (false≢true (sym f))
keyless (suc (suc (suc (suc (suc s))))) k h f = absurd (omega arith)

-- and of one that has
keyed : (s : ℕ) (k : Text) → s ≤ 4 → has_key s ≡ true → (cell_state (or_unset (cell_from s k)) ≡ s) × (key_of (or_unset (cell_from s k)) ≡ k)
unfolding cell_from or_unset cell_state key_of
keyed zero k h f = absurd (false≢true f)
keyed (suc zero) k h f = (refl, refl)
keyed (suc (suc zero)) k h f = absurd (false≢true f)
keyed (suc (suc (suc zero))) k h f = absurd (false≢true f)
keyed (suc (suc (suc (suc zero)))) k h f = (refl, refl)
keyed (suc (suc (suc (suc (suc s))))) k h f = absurd (omega arith)

-- such a state is not 0
keyed-some : (s : ℕ) → has_key s ≡ true → 1 ≤ s
keyed-some zero f = absurd (false≢true f)
keyed-some (suc s) f = omega arith

module _ (has : Bool) (h n : ℕ) (rest : Bytes) where
  -- ---- a cell without a key: nothing but zeros behind its state
  module _ (low : h % 8 ≤ highest has) (other : has_key (h % 8) ≡ false) where
    no_key : key_of (cell_or has (h ∷ n ∷ rest)) ≡ []
    unfolding cell_or cell_in
    no_key = by has low
      where
        by : (b : Bool) → h % 8 ≤ highest b → key_of (cond b (or_unset (cond (leb n 126) (cell_from (h % 8) (take n rest)) none)) Unset) ≡ []
        by false l = unfold key_of in refl
        by true l = to (leb n 126)
          where
            to : (t : Bool) → key_of (or_unset (cond t (cell_from (h % 8) (take n rest)) none)) ≡ []
            to true = (keyless (h % 8) (take n rest) l other).1
            to false = unfold or_unset key_of in refl

    its-state : n ≡ 0 → cell_state (cell_or has (h ∷ n ∷ rest)) ≡ h % 8
    unfolding cell_or cell_in
    its-state e = by has low
      where
        by : (b : Bool) → h % 8 ≤ highest b → cell_state (cond b (or_unset (cond (leb n 126) (cell_from (h % 8) (take n rest)) none)) Unset) ≡ h % 8
        by false l = unfold cell_state in omega arith
        by true l = rw (le-leb n 126 (omega arith)) (keyless (h % 8) (take n rest) l other).0

    keyless-exact : length rest ≡ 126 → zeros (n ∷ rest) ≡ exact has (h ∷ n ∷ rest)
    unfolding zeros
    keyless-exact w = by (eqb n 0) refl
      where
        c : Cell
        c = cell_or has (h ∷ n ∷ rest)

        blank : exact has (h ∷ n ∷ rest) ≡ (eqb h (cell_state c + 8 * (h / 8)) && (eqb n 0 && zeros rest))
        blank =
            against has h n rest c refl
            ∙ ap (λ (k : Text). eqb h (cell_state c + 8 * (h / 8)) && (eqb n (length k) && same rest (k ++ replicate (126 - length k) 0))) no_key
            ∙ ap (λ (b : Bool). eqb h (cell_state c + 8 * (h / 8)) && (eqb n 0 && b)) (same-zeros rest 126 w)

        by : (b : Bool) → eqb n 0 ≡ b → (eqb n 0 && zeros rest) ≡ exact has (h ∷ n ∷ rest)
        by true e =
            let s : cell_state c ≡ h % 8 = its-state (eqb-true n 0 e) in
            let t : eqb h (cell_state c + 8 * (h / 8)) ≡ true = eq-eqb h (cell_state c + 8 * (h / 8)) (omega arith) in
            sym (blank ∙ ap (λ (a : Bool). a && (eqb n 0 && zeros rest)) t)
        by false e = sym (blank ∙ rw e (and-false (eqb h (cell_state c + 8 * (h / 8)))))

  -- ---- a cell with a key: zeros behind that
  module _ (set : has_key (h % 8) ≡ true) where
    none_here : 126 < n → cell_or has (h ∷ n ∷ rest) ≡ Unset
    unfolding cell_or cell_in or_unset
    none_here k = rw (lt-leb n 126 k) (by has)
      where
        by : (b : Bool) → cond b (or_unset none) Unset ≡ Unset
        by true = refl
        by false = refl

    long-exact : 126 < n → false ≡ exact has (h ∷ n ∷ rest)
    unfolding cell_state
    long-exact k =
        let s : 1 ≤ h % 8 = keyed-some (h % 8) set in
        let d : eqb h (0 + 8 * (h / 8)) ≡ false = ne_eqb h (0 + 8 * (h / 8)) (λ e. omega arith) in
        sym (against has h n rest Unset (none_here k) ∙ rw d)

    module _ (low : h % 8 ≤ highest has) (k : n ≤ 126) where
      abbrev c : Cell
      c = cell_or has (h ∷ n ∷ rest)

      set_here : (cell_state c ≡ h % 8) × (key_of c ≡ take n rest)
      unfolding cell_or cell_in
      set_here = rw (le-leb n 126 k) (by has low)
        where
          by : (b : Bool) → h % 8 ≤ highest b
              → (cell_state (cond b (or_unset (cell_from (h % 8) (take n rest))) Unset) ≡ h % 8) × (key_of (cond b (or_unset (cell_from (h % 8) (take n rest))) Unset) ≡ take n rest)
          by true l = keyed (h % 8) (take n rest) l set
          by false l = let s : 1 ≤ h % 8 = keyed-some (h % 8) set in absurd (omega arith)

      set-exact : length rest ≡ 126 → zeros (drop n rest) ≡ exact has (h ∷ n ∷ rest)
      set-exact w =
          sym
          (against has h n rest c refl
          ∙ ap (λ (s : ℕ). eqb h (s + 8 * (h / 8)) && (eqb n (length (key_of c)) && same rest (key_of c ++ replicate (126 - length (key_of c)) 0))) set_here.0
          ∙ ap (λ (t : Text). eqb h (h % 8 + 8 * (h / 8)) && (eqb n (length t) && same rest (t ++ replicate (126 - length t) 0))) set_here.1
          ∙ rw (state, size, key))
        where
          room : length (take n rest) ≡ n
          room = length-take-le n rest (omega arith)

          state : eqb h (h % 8 + 8 * (h / 8)) ≡ true
          state = eq-eqb h (h % 8 + 8 * (h / 8)) (omega arith)

          size : eqb n (length (take n rest)) ≡ true
          size = eq-eqb n (length (take n rest)) (sym room)

          key : same rest (take n rest ++ replicate (126 - length (take n rest)) 0) ≡ zeros (drop n rest)
          key =
              ap (λ (l : Bytes). same l (take n rest ++ replicate (126 - length (take n rest)) 0)) (sym (take-append-drop n rest))
              ∙ same-behind (take n rest) (drop n rest) (replicate (126 - length (take n rest)) 0)
              ∙ same-zeros (drop n rest) (126 - length (take n rest)) (length-drop n rest ∙ rw (w, room))

-- ---- any bytes

module _ (has : Bool) (l : Bytes) where
  -- what is written for a cell has 128 bytes
  pub exact-width : (length l ≡ 128 → ⊥) → false ≡ exact has l
  unfolding exact exact_with
  exact-width f =
      sym (same-differ l (put_cell (get_or l 0 0 / 8) (cell_or has l)) (λ e. f (ap length e ∙ cell-width (get_or l 0 0 / 8) (cell_or has l) (or-fit has l))))

pub exact_past : (has : Bool) (l : Bytes) → length l ≡ 128 → highest has < get_or l 0 0 % 8 → false ≡ exact has l
exact_past has [] w k = absurd (omega arith)
exact_past has (h ∷ []) w k = absurd (omega arith)
exact_past has (h ∷ n ∷ rest) w k = past has h n rest k

pub exact-keyless : (has : Bool) (l : Bytes) → length l ≡ 128 → get_or l 0 0 % 8 ≤ highest has → has_key (get_or l 0 0 % 8) ≡ false → zeros (drop 1 l) ≡ exact has l
exact-keyless has [] w k f = absurd (omega arith)
exact-keyless has (h ∷ []) w k f = absurd (omega arith)
exact-keyless has (h ∷ n ∷ rest) w k f = keyless-exact has h n rest k f (omega arith)

pub exact-long : (has : Bool) (l : Bytes) → length l ≡ 128 → has_key (get_or l 0 0 % 8) ≡ true → 126 < get_or l 1 0 → false ≡ exact has l
exact-long has [] w e k = absurd (omega arith)
exact-long has (h ∷ []) w e k = absurd (omega arith)
exact-long has (h ∷ n ∷ rest) w e k = long-exact has h n rest e k

pub exact-set : (has : Bool) (l : Bytes) → length l ≡ 128 → has_key (get_or l 0 0 % 8) ≡ true → get_or l 0 0 % 8 ≤ highest has → get_or l 1 0 ≤ 126 → zeros (drop (2 + get_or l 1 0) l) ≡ exact has l
exact-set has [] w e m k = absurd (omega arith)
exact-set has (h ∷ []) w e m k = absurd (omega arith)
exact-set has (h ∷ n ∷ rest) w e m k = ap zeros (sym (drop-drop n 2 (h ∷ n ∷ rest))) ∙ set-exact has h n rest e m k (omega arith)
