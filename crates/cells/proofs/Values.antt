-- Laws of the cell as a value: what it means, the next one after a hit, its bytes. By cases on its state.
-- Assumes nothing.
use Prim.Native.Nat.{ℕ, zero, suc, min, ◌+◌, ◌*◌, ◌≤◌}
use native.Mathlib.Omega.{arith}
use borrow.Author.Tests.{ne_eqb}
use lib.ListN.{length, take, replicate, length-take}
use lib.Seq.{take_all}
use mathlib.Core.Path.{◌≡◌, refl, ap, sym, ◌∙◌}
use mathlib.Core.List.{[], ◌∷◌, ◌++◌}
use Rattle.std.proofs.lemmas.List.{take_min}
use Rattle.lists.specs.Lists.{foldl, put}
use Rattle.lists.proofs.Writes.{put_then}
use Rattle.texts.specs.Texts.{Text}
use Rattle.tree.specs.Cells as tree
use Rattle.tree.specs.Cells.{Hit, simple, nillable, complex, Unset, Set, SetNillable, NotSimple, Multiple, one, element_hit}
use Rattle.machine.specs.Machine.{hit}
use Rattle.machine.proofs.Cells.{stays-multiple}
use Rattle.session_spec.specs.Layout.{cell_state, key_of, put_cell, cell_from}
use Rattle.session_laws.proofs.Areas.{CellFit}
use Rattle.cells.specs.declared.Key.{Key}
use Rattle.cells.specs.declared.Cell.{Cell}
use Rattle.cells.specs.declared.Cell.TheVariants as code
use Rattle.cells.specs.declared.State.{State}
use Rattle.cells.specs.declared.State.TheVariants as state
use Rattle.cells.specs.Cells.{state_number, cell_of, cell_by, or_unset, hit_of, blank_or}
use Rattle.cells.proofs.Writes.{take_put, put-zeros}

-- ---- state and key

-- no other state has the number of Multiple
pub only-multiple : (s : State) → state_number s ≡ 3 → s ≡ state.Multiple
only-multiple state.Unset e = absurd (omega (arith, e))
only-multiple state.Set e = absurd (omega (arith, e))
only-multiple state.NotSimple e = absurd (omega (arith, e))
only-multiple state.Multiple e = refl
only-multiple state.Nillable e = absurd (omega (arith, e))

-- the arrays of its keys have 126 bytes, as the code's have
abbrev pub Sized : Cell → Type 0
Sized code.Unset = Unit {0}
Sized (code.Set k) = length k.bytes ≡ 126
Sized code.NotSimple = Unit {0}
Sized code.Multiple = Unit {0}
Sized (code.Nillable k) = length k.bytes ≡ 126

pub value-fit : (c : Cell) → Sized c → CellFit (cell_of c)
unfolding cell_of key_of
value-fit code.Unset l = omega arith
value-fit (code.Set k) l = rw (length-take k.len k.bytes) (omega arith)
value-fit code.NotSimple l = omega arith
value-fit code.Multiple l = omega arith
value-fit (code.Nillable k) l = rw (length-take k.len k.bytes) (omega arith)

-- a cell that is neither Set nor Nillable has no key
pub without-value : (c : Cell) → ((k : Key) → c ≡ code.Set k → ⊥) → ((k : Key) → c ≡ code.Nillable k → ⊥) → [] ≡ key_of (cell_of c)
unfolding cell_of key_of
without-value code.Unset a b = refl
without-value (code.Set k) a b = absurd (a k refl)
without-value code.NotSimple a b = refl
without-value code.Multiple a b = refl
without-value (code.Nillable k) a b = absurd (b k refl)

-- the front of a text, kept in zeros
pub kept : (n : ℕ) (text z : Text) → n ≡ min (length text) 126 → z ≡ put (replicate 126 0) 0 (take n text) → take n z ≡ take 126 text
kept n text z en ez =
    let m : n ≡ min 126 (length text) = omega arith in
    let t : take n text ≡ take 126 text = ap (λ (k : ℕ). take k text) m ∙ take_min 126 text in
    let l : length (take n text) ≡ n = length-take n text ∙ omega arith in
    ap (λ (y : Text). take n y) ez
    ∙ ap (λ (k : ℕ). take k (put (replicate 126 0) 0 (take n text))) (sym l)
    ∙ take_put (replicate 126 0) (take n text) (omega arith)
    ∙ t

-- state and key are all there is to a cell
rebuilt : (x : tree.Cell) → or_unset (cell_from (cell_state x) (key_of x)) ≡ x
unfolding or_unset cell_from cell_state key_of
rebuilt Unset = refl
rebuilt (Set k) = refl
rebuilt (SetNillable k) = refl
rebuilt NotSimple = refl
rebuilt Multiple = refl

pub loaded : (x : tree.Cell) (s : ℕ) (k t : Text) → s ≡ cell_state x → k ≡ key_of x → CellFit x → t ≡ take 126 k → or_unset (cell_from s t) ≡ x
loaded x s k t es ek f et =
    let q : t ≡ key_of x = et ∙ ap (λ (y : Text). take 126 y) ek ∙ take_all 126 (key_of x) f in
    rw (es, q) (rebuilt x)

pub loaded-blank : (x : tree.Cell) (s : ℕ) → s ≡ cell_state x → (s ≡ 1 → ⊥) → (s ≡ 2 → ⊥) → (s ≡ 3 → ⊥) → (s ≡ 4 → ⊥) → Unset ≡ x
unfolding cell_state
loaded-blank Unset s e a b c d = refl
loaded-blank (Set k) s e a b c d = absurd (a e)
loaded-blank (SetNillable k) s e a b c d = absurd (d e)
loaded-blank NotSimple s e a b c d = absurd (b e)
loaded-blank Multiple s e a b c d = absurd (c e)

-- ---- one hit

-- what a hit makes of a cell, by what it makes of a blank one
pub hit-is-first : (c : tree.Cell) (h : Hit) → blank_or c (one h) ≡ hit c h
unfolding blank_or hit
hit-is-first Unset h = refl
hit-is-first (Set k) h = refl
hit-is-first (SetNillable k) h = refl
hit-is-first NotSimple h = refl
hit-is-first Multiple h = refl

pub not-blank : (s : Cell) (c : tree.Cell) → (s ≡ code.Unset → ⊥) → Multiple ≡ blank_or (cell_of s) c
unfolding cell_of blank_or
not-blank code.Unset c ne = absurd (ne refl)
not-blank (code.Set k) c ne = refl
not-blank code.NotSimple c ne = refl
not-blank code.Multiple c ne = refl
not-blank (code.Nillable k) c ne = refl

-- which hit a simple byte says
pub hit-complex : (byte : ℕ) (key : Text) → byte ≡ 0 → complex ≡ hit_of byte key
unfolding hit_of element_hit
hit-complex byte key e = rw e

pub hit-nillable : (byte : ℕ) (key : Text) → byte ≡ 2 → nillable (take 126 key) ≡ hit_of byte key
unfolding hit_of element_hit
hit-nillable byte key e = rw e

pub hit-simple : (byte : ℕ) (key : Text) → (byte ≡ 0 → ⊥) → (byte ≡ 2 → ⊥) → simple (take 126 key) ≡ hit_of byte key
unfolding hit_of element_hit
hit-simple byte key z t = rw (ne_eqb byte 0 z, ne_eqb byte 2 t)

-- ---- the same hit many times

twice : (x : tree.Cell) (h : Hit) → hit (hit x h) h ≡ Multiple
unfolding hit one
twice Unset (simple k) = refl
twice Unset (nillable k) = refl
twice Unset complex = refl
twice (Set k) h = refl
twice (SetNillable k) h = refl
twice NotSimple h = refl
twice Multiple h = refl

pub multiple-stays : (n : ℕ) (x : tree.Cell) (h : Hit) → x ≡ Multiple → foldl hit x (replicate n h) ≡ x
multiple-stays n x h e = rw e (stays-multiple (replicate n h))

pub hits_more : (x : tree.Cell) (n : ℕ) (h : Hit) → (n ≡ 0 → ⊥) → (n ≡ 1 → ⊥) → hit (hit x h) h ≡ foldl hit x (replicate n h)
hits_more x zero h z o = absurd (z refl)
hits_more x (suc zero) h z o = absurd (o refl)
hits_more x (suc (suc n)) h z o =
    twice x h ∙ sym (stays-multiple (replicate n h)) ∙ ap (λ y. foldl hit y (replicate n h)) (sym (twice x h))

-- ---- its bytes: state and number, length of the key, the key, and zeros

pub written : (x : tree.Cell) (m n s : ℕ) (k b c : Text) → s ≡ cell_state x → n ≡ length k → k ≡ key_of x → length k ≤ 126
    → b ≡ put (replicate 128 0) 0 ((s + 8 * m) ∷ n ∷ []) → c ≡ put b 2 k → c ≡ put_cell m x
unfolding put_cell
written x m n s k b c es en ek h eb ec =
    let head : Text = (s + 8 * m) ∷ n ∷ [] in
    let p : put b 2 k ≡ put (replicate 128 0) 0 (head ++ k) =
    ap (λ (y : Text). put y 2 k) eb ∙ put_then (replicate 128 0) 0 2 head k refl (omega arith) in
    ec ∙ p ∙ put-zeros 128 (head ++ k) (omega arith) ∙ rw (es, en, ek)

-- ---- the cell of a state's number

-- a number that no other state has is that of more than one value
pub by_other : (n : ℕ) (k : Text) → (n ≡ 0 → ⊥) → (n ≡ 1 → ⊥) → (n ≡ 2 → ⊥) → (n ≡ 4 → ⊥) → Multiple ≡ cell_by n k
unfolding cell_by
by_other zero k a b c d = absurd (a refl)
by_other (suc zero) k a b c d = absurd (b refl)
by_other (suc (suc zero)) k a b c d = absurd (c refl)
by_other (suc (suc (suc zero))) k a b c d = refl
by_other (suc (suc (suc (suc zero)))) k a b c d = absurd (d refl)
by_other (suc (suc (suc (suc (suc n))))) k a b c d = refl
