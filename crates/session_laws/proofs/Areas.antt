-- What is written into a place is read again: open names, cells, open selections; and the packed number. What decodes to a selection has exactly the
-- bytes that are written for it, and so has each selection of an area that reads, at its place.
-- Assumes nothing.
use Prim.Native.Nat.{ℕ, zero, suc, ◌+◌, ◌-◌, ◌*◌, ◌/◌, ◌%◌, ◌≤◌, ◌<◌}
use native.Mathlib.Omega.{arith}
use borrow.Author.Tests.{le-leb, leb-true}
use lib.Dec.{leb}
use lib.ListN.{length, take, drop, get_or, get_elem?, replicate, length-append, length-replicate, length-take}
use lib.Seq.{take_at, drop_at, take-append_seam, get_or-append-add, drop-drop}
use mathlib.Core.Path.{◌≡◌, refl, ap, ◌∙◌, sym}
use mathlib.Core.Bool.{◌&&◌}
use mathlib.Core.List.{List, [], ◌∷◌, ◌++◌, flat_map}
use mathlib.Core.Option.{Option, none, some, some-injective}
use Rattle.std.proofs.lemmas.Bool.{and_parts}
use Rattle.texts.specs.Texts.{Text, same}
use Rattle.texts.proofs.Sameness.{same_refl, same-eq}
use Rattle.paths.specs.Names.{Name}
use Rattle.paths.specs.Reading.{on_some, every}
use Rattle.paths.proofs.Sure.{some-parts}
use Rattle.tree.specs.Cells.{Cell, Unset, Set, SetNillable, NotSimple, Multiple}
use Rattle.machine.specs.Machine.{OpenScope, Selection}
use Rattle.records.specs.Readers.{Bytes, put_text}
use Rattle.records.proofs.Readers.{text-put, text-length}
use Rattle.session_spec.specs.Layout.{parts, pad, put_name, text_in, name_in, cell_state, key_of, put_cell, cell_from, cell_in, more_in, place_of, head_cell, tail_cells, put_cells, put_selection, selection_of, exactly, selection_with, selection_in, Counts, pack, unpack}
use Rattle.session_laws.proofs.Tests.{cond-parts}
use Rattle.session_laws.proofs.Parts.{places-back, places-length, every-uncons}
use Rattle.lists.specs.Lists.{All, part}

-- ---- open names

pub pad-length : (n : ℕ) (xs : Bytes) → length xs ≤ n → length (pad n xs) ≡ n
unfolding pad
pad-length n xs h = length-append xs (replicate (n - length xs) 0) ∙ rw (length-replicate {A = ℕ} (n - length xs) 0) (omega arith)

pub record NameFit (n : Name) : Type 0 where
  pub space : length n.space ≤ 255
  pub local : length n.local ≤ 255

-- each text in 257 bytes
pub half_length : (t : Text) → length t ≤ 255 → length (pad 257 (put_text t)) ≡ 257
half_length t h = pad-length 257 (put_text t) (omega (arith, text-length t))

half_back : (t : Text) → text_in (pad 257 (put_text t)) ≡ some t
unfolding text_in pad on_some
half_back t = rw (text-put t (replicate (257 - length (put_text t)) 0))

pub name-width : (n : Name) → NameFit n → length (put_name n) ≡ 514
unfolding put_name
name-width n h =
    length-append (pad 257 (put_text n.space)) (pad 257 (put_text n.local)) ∙ rw (half_length n.space h.space, half_length n.local h.local)

pub name_back : (n : Name) → NameFit n → name_in (put_name n) ≡ some n
unfolding name_in put_name on_some
name_back n h =
    rw (
      take_at (pad 257 (put_text n.space)) (pad 257 (put_text n.local)) 257 (half_length n.space h.space),
      drop_at (pad 257 (put_text n.space)) (pad 257 (put_text n.local)) 257 (half_length n.space h.space),
      half_back n.space,
      half_back n.local,
    )

pub names-back : (l : List Name) (rest : Bytes) → All NameFit l → every name_in (parts 514 (length l) (flat_map put_name l ++ rest)) ≡ some l
names-back = places-back 514 put_name name_in NameFit name-width name_back

pub names-length : (l : List Name) → All NameFit l → length (flat_map put_name l) ≡ 514 * length l
names-length = places-length 514 put_name name_in NameFit name-width name_back

-- ---- cells

abbrev pub CellFit : Cell → Type 0
CellFit c = length (key_of c) ≤ 126

pub cell-width : (m : ℕ) (c : Cell) → CellFit c → length (put_cell m c) ≡ 128
unfolding put_cell
cell-width m c h = pad-length 128 ((cell_state c + 8 * m) ∷ length (key_of c) ∷ key_of c) (omega arith)

state-back : (c : Cell) (m : ℕ) → (cell_state c + 8 * m) % 8 ≡ cell_state c
unfolding cell_state
state-back Unset m = omega arith
state-back (Set k) m = omega arith
state-back (SetNillable k) m = omega arith
state-back NotSimple m = omega arith
state-back Multiple m = omega arith

more-back : (c : Cell) (m : ℕ) → (cell_state c + 8 * m) / 8 ≡ m
unfolding cell_state
more-back Unset m = omega arith
more-back (Set k) m = omega arith
more-back (SetNillable k) m = omega arith
more-back NotSimple m = omega arith
more-back Multiple m = omega arith

from-state : (c : Cell) → cell_from (cell_state c) (key_of c) ≡ some c
unfolding cell_from cell_state key_of
from-state Unset = refl
from-state (Set k) = refl
from-state (SetNillable k) = refl
from-state NotSimple = refl
from-state Multiple = refl

pub cell-back : (m : ℕ) (c : Cell) → CellFit c → cell_in (put_cell m c) ≡ some c
unfolding cell_in put_cell pad
cell-back m c h =
    rw (le-leb (length (key_of c)) 126 h, state-back c m, take-append_seam (key_of c), from-state c)

-- a cell that is read has a key of at most 126 bytes
pub in-fit : (xs : Bytes) (c : Cell) → cell_in xs ≡ some c → CellFit c
unfolding cell_in cell_from key_of
in-fit xs c h =
    let key : Text = take (get_or xs 1 0) (drop 2 xs) in
    let p = cond-parts (leb (get_or xs 1 0) 126) (cell_from (get_or xs 0 0 % 8) key) c h in
    let n : get_or xs 1 0 ≤ 126 = leb-true (get_or xs 1 0) 126 p.0 in
    from-fit (get_or xs 0 0 % 8) key (rw (length-take (get_or xs 1 0) (drop 2 xs)) (omega arith)) p.1
  where
    from-fit : (s : ℕ) (k : Text) → length k ≤ 126 → cell_from s k ≡ some c → CellFit c
    from-fit zero k n e = rw (← some-injective Unset c e) (omega arith)
    from-fit (suc zero) k n e = rw (← some-injective (Set k) c e) n
    from-fit (suc (suc zero)) k n e = rw (← some-injective NotSimple c e) (omega arith)
    from-fit (suc (suc (suc zero))) k n e = rw (← some-injective Multiple c e) (omega arith)
    from-fit (suc (suc (suc (suc zero)))) k n e = rw (← some-injective (SetNillable k) c e) n
    from-fit (suc (suc (suc (suc (suc s))))) k n e = let z : ◌≡◌ {A = ℕ} 0 1 = cc in absurd (omega arith)

-- the cells that the four places hold
unfoldable pub filled : List ℕ → List Cell → List Cell
filled [] cs = []
filled (m ∷ ms) cs = head_cell cs ∷ filled ms (tail_cells cs)

pub head-fit : (cs : List Cell) → All CellFit cs → CellFit (head_cell cs)
unfolding head_cell key_of
head-fit [] h = omega arith
head-fit (c ∷ cs) h = h.0

pub tail-fit : (cs : List Cell) → All CellFit cs → All CellFit (tail_cells cs)
unfolding tail_cells
tail-fit [] h = tt
tail-fit (c ∷ cs) h = h.1

cells-back : (ms : List ℕ) (cs : List Cell) → All CellFit cs → every cell_in (parts 128 (length ms) (put_cells ms cs)) ≡ some (filled ms cs)
unfolding every parts put_cells on_some filled
cells-back [] cs h = refl
cells-back (m ∷ ms) cs h =
    let f : CellFit (head_cell cs) = head-fit cs h in
    rw (
      take_at (put_cell m (head_cell cs)) (put_cells ms (tail_cells cs)) 128 (cell-width m (head_cell cs) f),
      drop_at (put_cell m (head_cell cs)) (put_cells ms (tail_cells cs)) 128 (cell-width m (head_cell cs) f),
      cell-back m (head_cell cs) f,
      cells-back ms (tail_cells cs) (tail-fit cs h),
    )

cells-width : (ms : List ℕ) (cs : List Cell) → All CellFit cs → length (put_cells ms cs) ≡ 128 * length ms
unfolding put_cells
cells-width [] cs h = refl
cells-width (m ∷ ms) cs h =
    length-append (put_cell m (head_cell cs)) (put_cells ms (tail_cells cs))
    ∙ rw (cell-width m (head_cell cs) (head-fit cs h), cells-width ms (tail_cells cs) (tail-fit cs h)) (omega arith)

filled-take : (ms : List ℕ) (cs : List Cell) → length cs ≤ length ms → take (length cs) (filled ms cs) ≡ cs
unfolding filled head_cell tail_cells
filled-take ms [] h = refl
filled-take [] (c ∷ cs) h = absurd (omega arith)
filled-take (m ∷ ms) (c ∷ cs) h = rw (filled-take ms cs (omega arith))

skip : (m : ℕ) (c : Cell) (xs : Bytes) (n : ℕ) → CellFit c → get_or (put_cell m c ++ xs) (128 + n) 0 ≡ get_or xs n 0
skip m c xs n h = rw (← (cell-width m c h)) (get_or-append-add (put_cell m c) xs n 0)

first-byte : (m : ℕ) (c : Cell) (xs : Bytes) → get_or (put_cell m c ++ xs) 0 0 ≡ cell_state c + 8 * m
unfolding put_cell pad
first-byte m c xs = refl

-- ---- open selections

pub record SelectionFit (os : List OpenScope) (s : Selection) : Type 0 where
  pub home : OpenScope
  pub found : get_elem? os (place_of s.scope.number os) ≡ some home
  pub scope : home.scope ≡ s.scope
  pub within : home.depth ≤ s.depth
  pub many : length s.cells ≡ length s.scope.constraint.fields
  pub few : length s.cells ≤ 4
  pub keys : All CellFit s.cells

module _ (os : List OpenScope) (s : Selection) (f : SelectionFit os s) where
  places : List ℕ
  places = s.depth % 32 ∷ s.depth / 32 ∷ place_of s.scope.number os ∷ 0 ∷ []

  cell-at₁ : CellFit (head_cell (tail_cells s.cells))
  cell-at₁ = head-fit (tail_cells s.cells) (tail-fit s.cells f.keys)

  more₀ : more_in 0 (put_selection os s) ≡ s.depth % 32
  unfolding more_in put_selection put_cells
  more₀ = rw (first-byte (s.depth % 32) (head_cell s.cells)) (more-back (head_cell s.cells) (s.depth % 32))

  more₁ : more_in 1 (put_selection os s) ≡ s.depth / 32
  unfolding more_in put_selection put_cells
  more₁ =
      ap (λ (n : ℕ). n / 8) (skip (s.depth % 32) (head_cell s.cells) _ 0 (head-fit s.cells f.keys))
      ∙ rw (first-byte (s.depth / 32) (head_cell (tail_cells s.cells))) (more-back (head_cell (tail_cells s.cells)) (s.depth / 32))

  more₂ : more_in 2 (put_selection os s) ≡ place_of s.scope.number os
  unfolding more_in put_selection put_cells
  more₂ =
      ap (λ (n : ℕ). n / 8)
      (skip (s.depth % 32) (head_cell s.cells) _ 128 (head-fit s.cells f.keys)
      ∙ skip (s.depth / 32) (head_cell (tail_cells s.cells)) _ 0 cell-at₁)
      ∙ rw (first-byte (place_of s.scope.number os) (head_cell (tail_cells (tail_cells s.cells))))
      (more-back (head_cell (tail_cells (tail_cells s.cells))) (place_of s.scope.number os))

  depth-back : s.depth % 32 + 32 * (s.depth / 32) ≡ s.depth
  depth-back = omega arith

  -- the cells of the four places, less those that the constraint has no field for
  all-cells : selection_of s.depth f.home (filled places s.cells) ≡ s
  unfolding selection_of places
  all-cells =
      let e : take (length f.home.scope.constraint.fields) (filled places s.cells) ≡ s.cells = rw (f.scope, ← f.many) (filled-take places s.cells f.few) in
      λ i. record { scope = f.scope i; depth = s.depth; cells = e i }

  is-exact : exactly os f.home (put_selection os s) s ≡ some s
  unfolding exactly
  is-exact = rw (le-leb f.home.depth s.depth f.within, same_refl (put_selection os s))

  four-cells : every cell_in (parts 128 4 (put_selection os s)) ≡ some (filled places s.cells)
  unfolding put_selection places
  four-cells = cells-back places s.cells f.keys

  pub selection-back : selection_in os (put_selection os s) ≡ some s
  unfolding selection_in selection_with on_some
  selection-back = rw (more₀, more₁, more₂, f.found, depth-back, four-cells, all-cells) is-exact

  pub selection-width : length (put_selection os s) ≡ 512
  unfolding put_selection places
  selection-width = cells-width places s.cells f.keys

pub selections-back : (os : List OpenScope) (l : List Selection) (rest : Bytes) → All (SelectionFit os) l
    → every (selection_in os) (parts 512 (length l) (flat_map (put_selection os) l ++ rest)) ≡ some l
selections-back os = places-back 512 (put_selection os) (selection_in os) (SelectionFit os) (selection-width os) (selection-back os)

pub selections-length : (os : List OpenScope) (l : List Selection) → All (SelectionFit os) l → length (flat_map (put_selection os) l) ≡ 512 * length l
selections-length os = places-length 512 (put_selection os) (selection_in os) (SelectionFit os) (selection-width os) (selection-back os)

-- a selection that reads has the bytes that are written for it: what gets no hit keeps its bytes
pub selection-exact : (os : List OpenScope) (xs : Bytes) (s : Selection) → selection_in os xs ≡ some s → xs ≡ put_selection os s
unfolding selection_in
selection-exact os xs s h = by (get_elem? os (more_in 2 xs)) h
  where
    by : (o : Option OpenScope) → selection_with os (more_in 0 xs + 32 * more_in 1 xs) xs o ≡ some s → xs ≡ put_selection os s
    by none h = unfold selection_with in (let z : ◌≡◌ {A = ℕ} 0 1 = cc in absurd (omega arith))
    by (some o) h =
        let p = some-parts (every cell_in (parts 128 4 xs)) (λ cs. exactly os o xs (selection_of (more_in 0 xs + 32 * more_in 1 xs) o cs)) s (unfold selection_with in h) in
        let t : Selection = selection_of (more_in 0 xs + 32 * more_in 1 xs) o p.0 in
        let q = cond-parts (leb o.depth t.depth && same xs (put_selection os t)) (some t) s (unfold exactly in p.2) in
        same-eq xs (put_selection os t) (and_parts (leb o.depth t.depth) (same xs (put_selection os t)) q.0).1
        ∙ ap (put_selection os) (some-injective t s q.1)

-- and so each of them has, in an area that reads
pub selection-at : (os : List OpenScope) (n : ℕ) (ss : List Selection) (area : Bytes)
    → every (selection_in os) (parts 512 n area) ≡ some ss → (j : ℕ) (s : Selection)
    → get_elem? ss j ≡ some s → part area (512 * j) 512 ≡ put_selection os s
unfolding parts
selection-at os n [] area e j s g = let z : ◌≡◌ {A = ℕ} 0 1 = cc in absurd (omega arith)
selection-at os zero (x ∷ ss) area e j s g =
    let z : ◌≡◌ {A = ℕ} 0 1 = cc (some-injective [] (x ∷ ss) (unfold every in e)) in absurd (omega arith)
selection-at os (suc n) (x ∷ ss) area e zero s g =
    let p = every-uncons (selection_in os) (take 512 area) (parts 512 n (drop 512 area)) (x ∷ ss) e in
    let q : x ∷ ss ≡ p.head ∷ p.rest = p.split in
    let i : p.head ≡ s = cc in
    selection-exact os (take 512 area) s (p.head_is ∙ ap some i)
selection-at os (suc n) (x ∷ ss) area e (suc j) s g =
    let p = every-uncons (selection_in os) (take 512 area) (parts 512 n (drop 512 area)) (x ∷ ss) e in
    let q : x ∷ ss ≡ p.head ∷ p.rest = p.split in
    let i : p.rest ≡ ss = cc in
    let m : 512 + 512 * j ≡ 512 * suc j = omega arith in
    sym (ap (take 512) (drop-drop (512 * j) 512 area ∙ ap (λ (k : ℕ). drop k area) m))
    ∙ selection-at os n ss (drop 512 area) (p.rest_is ∙ ap some i) j s g

-- ---- the packed number

pub unpacked : (c : Counts) → c.stage < 128 → c.scopes < 32 → c.selections < 64 → unpack (pack c) ≡ c
unfolding unpack pack
unpacked c h k l =
    λ i. record {
      stage = stage i;
      scopes = scopes i;
      selections = selections i;
      opened = opened i;
    }
  where
    stage : (c.stage + 128 * (c.scopes + 32 * (c.selections + 64 * c.opened))) % 128 ≡ c.stage
    stage = omega arith

    scopes : (c.stage + 128 * (c.scopes + 32 * (c.selections + 64 * c.opened))) / 128 % 32 ≡ c.scopes
    scopes = omega arith

    selections : (c.stage + 128 * (c.scopes + 32 * (c.selections + 64 * c.opened))) / 4096 % 64 ≡ c.selections
    selections = omega arith

    opened : (c.stage + 128 * (c.scopes + 32 * (c.selections + 64 * c.opened))) / 262144 ≡ c.opened
    opened = omega arith

pub packed-again : (n : ℕ) → pack (unpack n) ≡ n
unfolding unpack pack
packed-again n = omega arith
