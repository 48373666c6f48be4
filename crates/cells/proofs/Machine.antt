-- THE AREA FOLLOWS THE MACHINE: bytes of selections become the bytes of the selections with the hit cell. First one
-- cell, then the cells of a selection, by induction on the field, then all selections. And the machine's cells are fed
-- one field after the other, with the hit that the end of an element gives; a field that a constraint lacks is not
-- reached.
-- Assumes nothing.
use Prim.Native.Nat.{ℕ, zero, suc, ◌+◌, ◌*◌, ◌/◌, ◌%◌, ◌≤◌, ◌<◌}
use native.Mathlib.Omega.{arith}
use borrow.Author.Tests.{eqb-true, eqb-false}
use lib.Dec.{eqb}
use lib.ListN.{length, take, drop, replicate, get_or, take-append-drop, get_or-eq_default}
use lib.Seq.{take_at, drop_at, drop-drop, take_all}
use mathlib.Core.Path.{◌≡◌, refl, ap, sym, ◌∙◌}
use mathlib.Core.Bool.{Bool, true, false}
use mathlib.Core.List.{List, [], ◌∷◌, ◌++◌, map, flat_map, zip_with, append_assoc}
use mathlib.Core.Option.{none, some}
use Rattle.std.proofs.lemmas.List.Sums.{fold-append}
use Rattle.lists.specs.Lists.{foldl, part, put, All}
use Rattle.lists.proofs.Writes.{part-append}
use Rattle.texts.specs.Texts.{Text}
use Rattle.paths.specs.Names.{Name}
use Rattle.paths.specs.Matching.{FieldAlt}
use Rattle.paths.specs.Reading.{every}
use Rattle.tree.specs.Events.{End}
use Rattle.tree.specs.Cells as tree
use Rattle.tree.specs.Cells.{Hit, simple, Unset, Set, SetNillable, NotSimple, Multiple, element_hit, reach}
use Rattle.machine.specs.Machine.{OpenScope, Selection, hit, feed_cells}
use Rattle.records.specs.Readers.{Bytes}
use Rattle.session_spec.specs.Layout.{parts, pad, cell_state, put_cell, more_in, place_of, head_cell, tail_cells, put_cells, put_selection, selection_in}
use Rattle.session_laws.proofs.Areas.{CellFit, cell-width, SelectionFit, selection-width, selection-exact}
use Rattle.session_laws.proofs.Parts.{every-uncons}
use Rattle.session_laws.proofs.OpenSelections.{HitFit, hit-fit}
use Rattle.cells.specs.Cells.{hit_of, cell_for, hit_bytes, hit_at, each_chunk, hit_selections, hit_nth, hit_field, hit_each, hit_fields}
use Rattle.cells.proofs.Writes.{put_front, put-append}
use Rattle.cells.proofs.Values.{multiple-stays}
use Rattle.cells.proofs.Places.{for-put}
use Rattle.cells.proofs.Hits.{bytes-none, bytes-multiple, bytes-hit, no_hit}

-- ---- keys stay short enough

hits-fit : (t : ℕ) (c : tree.Cell) (h : Hit) → HitFit h → CellFit c → CellFit (foldl hit c (replicate t h))
hits-fit zero c h f g = g
hits-fit (suc t) c h f g = hits-fit t (hit c h) h f (hit-fit c h f)

nth-fit : (i t : ℕ) (cs : List tree.Cell) (h : Hit) → HitFit h → All CellFit cs → All CellFit (hit_nth i (replicate t h) cs)
unfolding hit_nth
nth-fit i t [] h f g = tt
nth-fit zero t (c ∷ cs) h f g = (hits-fit t c h f g.0, g.1)
nth-fit (suc i) t (c ∷ cs) h f g = (g.0, nth-fit i t cs h f g.1)

pub nth-length : (i : ℕ) (hs : List Hit) (cs : List tree.Cell) → length (hit_nth i hs cs) ≡ length cs
unfolding hit_nth
nth-length i hs [] = refl
nth-length zero hs (c ∷ cs) = refl
nth-length (suc i) hs (c ∷ cs) = ap suc (nth-length i hs cs)

-- ---- one cell

own-more : (m : ℕ) (c : tree.Cell) → more_in 0 (put_cell m c) ≡ m
unfolding more_in put_cell pad cell_state
own-more m Unset = omega arith
own-more m (Set k) = omega arith
own-more m (SetNillable k) = omega arith
own-more m NotSimple = omega arith
own-more m Multiple = omega arith

state-three : (c : tree.Cell) → cell_state c ≡ 3 → c ≡ Multiple
unfolding cell_state
state-three Unset e = absurd (omega arith)
state-three (Set k) e = absurd (omega arith)
state-three (SetNillable k) e = absurd (omega arith)
state-three NotSimple e = absurd (omega arith)
state-three Multiple e = refl

-- A CELL THAT STANDS IN BYTES TAKES THE HITS.
pub cell-hit : (h : Hit) (t m : ℕ) (c : tree.Cell) → CellFit c → hit_bytes h t (put_cell m c) ≡ put_cell m (foldl hit c (replicate t h))
cell-hit h zero m c f = bytes-none h zero (put_cell m c) refl ∙ refl
cell-hit h (suc t) m c f = by (eqb (cell_state c) 3) refl
  where
    here : cell_for (put_cell m c) ≡ c
    here = for-put m c f

    by : (b : Bool) → eqb (cell_state c) 3 ≡ b → hit_bytes h (suc t) (put_cell m c) ≡ put_cell m (foldl hit c (replicate (suc t) h))
    by true e =
        let s : cell_state c ≡ 3 = eqb-true (cell_state c) 3 e in
        bytes-multiple h (suc t) (put_cell m c) (ap cell_state here ∙ s)
        ∙ ap (λ x. put_cell m x) (sym (multiple-stays (suc t) c h (state-three c s)))
    by false e =
        bytes-hit h (suc t) (put_cell m c) (λ z. omega arith) (λ s. eqb-false (cell_state c) 3 e (sym (ap cell_state here) ∙ s))
        ∙ ap (λ (k : ℕ). put_cell k (foldl hit (cell_for (put_cell m c)) (replicate (suc t) h))) (own-more m c)
        ∙ ap (λ x. put_cell m (foldl hit x (replicate (suc t) h))) here

-- ---- the cells of a selection

-- what is hit behind a list
behind : (h : Hit) (k t : ℕ) (a l : Bytes) → hit_at h (length a + k) t (a ++ l) ≡ a ++ hit_at h k t l
unfolding hit_at
behind h k t a l =
    ap (λ (z : Bytes). put (a ++ l) (length a + k) (hit_bytes h t z)) (part-append a l k 128)
    ∙ put-append a l k (hit_bytes h t (part l k 128))

module _ (h : Hit) (fit : HitFit h) (t : ℕ) where
  first-hit : (m : ℕ) (c : tree.Cell) (l : Bytes) → CellFit c → hit_at h 0 t (put_cell m c ++ l) ≡ put_cell m (foldl hit c (replicate t h)) ++ l
  unfolding hit_at
  first-hit m c l g =
      let a : Bytes = put_cell m c in
      let b : Bytes = put_cell m (foldl hit c (replicate t h)) in
      let w : length a ≡ 128 = cell-width m c g in
      let v : length b ≡ 128 = cell-width m (foldl hit c (replicate t h)) (hits-fit t c h fit g) in
      ap (λ (z : Bytes). put (a ++ l) 0 (hit_bytes h t z)) (take_at a l 128 w)
      ∙ ap (λ (z : Bytes). put (a ++ l) 0 z) (cell-hit h t m c g)
      ∙ put_front a l b (v ∙ sym w)

  nth-hit : (i : ℕ) (ms : List ℕ) (cs : List tree.Cell) → All CellFit cs → i < length ms → (length cs ≤ i → t ≡ 0)
      → hit_at h (128 * i) t (put_cells ms cs) ≡ put_cells ms (hit_nth i (replicate t h) cs)
  unfolding put_cells head_cell tail_cells hit_nth
  nth-hit i [] cs g r z = absurd (omega arith)
  nth-hit i (m ∷ ms) [] g r z = sym (no_hit h (128 * i) t (put_cells (m ∷ ms) []) (z (omega arith)))
  nth-hit zero (m ∷ ms) (c ∷ cs) g r z = first-hit m c (put_cells ms cs) g.0
  nth-hit (suc i) (m ∷ ms) (c ∷ cs) g r z =
      let a : Bytes = put_cell m c in
      let w : length a ≡ 128 = cell-width m c g.0 in
      let n : 128 * suc i ≡ length a + 128 * i = omega arith in
      ap (λ (k : ℕ). hit_at h k t (a ++ put_cells ms cs)) n
      ∙ behind h (128 * i) t a (put_cells ms cs)
      ∙ ap (λ (y : Bytes). a ++ y) (nth-hit i ms cs g.1 (omega arith) (λ q. z (omega arith)))

  -- A SELECTION THAT STANDS IN BYTES TAKES THE HITS IN ONE FIELD. Only a field that it has can be hit.
  pub selection-hit : (os : List OpenScope) (s : Selection) (field : ℕ) → All CellFit s.cells → field < 4 → (length s.cells ≤ field → t ≡ 0)
      → hit_at h (128 * field) t (put_selection os s) ≡ put_selection os (hit_field field (replicate t h) s)
  unfolding put_selection hit_field
  selection-hit os s field g r z =
      nth-hit field (s.depth % 32 ∷ s.depth / 32 ∷ place_of s.scope.number os ∷ 0 ∷ []) s.cells g r z

  hit-selection-fit : (os : List OpenScope) (s : Selection) (field : ℕ) → SelectionFit os s → SelectionFit os (hit_field field (replicate t h) s)
  unfolding hit_field
  hit-selection-fit os s field f =
      let n : length (hit_nth field (replicate t h) s.cells) ≡ length s.cells = nth-length field (replicate t h) s.cells in
      record {
        home = f.home;
        found = f.found;
        scope = f.scope;
        within = f.within;
        many = n ∙ f.many;
        few = omega (arith, f.few);
        keys = nth-fit field t s.cells h fit f.keys;
      }

-- ---- all selections

-- there is a selection for each count, and it has the field if it is hit
abbrev pub Counted : (field : ℕ) → List ℕ → List Selection → Type 0
Counted field [] ss = Unit {0}
Counted field (t ∷ ts) [] = ⊥
Counted field (t ∷ ts) (s ∷ ss) = (length s.cells ≤ field → t ≡ 0) × Counted field ts ss

module _ (os : List OpenScope) (h : Hit) (fit : HitFit h) (field : ℕ) (r : field < 4) where
  -- THE BYTES OF SELECTIONS BECOME THOSE OF THE SELECTIONS WITH THAT CELL HIT.
  pub selections-hit : (counts : List ℕ) (ss : List Selection) (rest : Bytes) → All (SelectionFit os) ss → Counted field counts ss
      → hit_selections h field counts (flat_map (put_selection os) ss ++ rest) ≡ flat_map (put_selection os) (hit_each h field counts ss) ++ rest
  unfolding hit_selections each_chunk hit_each flat_map
  selections-hit [] ss rest f g = refl
  selections-hit (t ∷ ts) [] rest f g = absurd g
  selections-hit (t ∷ ts) (s ∷ ss) rest f g =
      let a : Bytes = put_selection os s in
      let l : Bytes = flat_map (put_selection os) ss ++ rest in
      let w : length a ≡ 512 = selection-width os s f.0 in
      let e : hit_at h (128 * field) t a ≡ put_selection os (hit_field field (replicate t h) s) = selection-hit h fit t os s field f.0.keys r g.0 in
      ap (λ (z : Bytes). each_chunk 512 (hit_at h (128 * field)) (t ∷ ts) z) (append_assoc a (flat_map (put_selection os) ss) rest)
      ∙ ap (λ (z : Bytes). hit_at h (128 * field) t z ++ each_chunk 512 (hit_at h (128 * field)) ts (drop 512 (a ++ l))) (take_at a l 512 w)
      ∙ ap (λ (z : Bytes). hit_at h (128 * field) t a ++ each_chunk 512 (hit_at h (128 * field)) ts z) (drop_at a l 512 w)
      ∙ ap (λ (z : Bytes). z ++ each_chunk 512 (hit_at h (128 * field)) ts l) e
      ∙ ap (λ (z : Bytes). put_selection os (hit_field field (replicate t h) s) ++ z) (selections-hit ts ss rest f.1 g.1)
      ∙ sym (append_assoc (put_selection os (hit_field field (replicate t h) s)) (flat_map (put_selection os) (hit_each h field ts ss)) rest)

  pub hit-fits : (counts : List ℕ) (ss : List Selection) → All (SelectionFit os) ss → All (SelectionFit os) (hit_each h field counts ss)
  unfolding hit_each
  hit-fits [] ss f = f
  hit-fits (t ∷ ts) [] f = tt
  hit-fits (t ∷ ts) (s ∷ ss) f = (hit-selection-fit h fit t os s field f.0, hit-fits ts ss f.1)

-- an area that reads is written so
pub area-is : (os : List OpenScope) (ss : List Selection) (area : Bytes) → every (selection_in os) (parts 512 (length ss) area) ≡ some ss
    → area ≡ flat_map (put_selection os) ss ++ drop (512 * length ss) area
unfolding flat_map
area-is os [] area e = refl
area-is os (s ∷ ss) area e =
    let p = every-uncons (selection_in os) (take 512 area) (parts 512 (length ss) (drop 512 area)) (s ∷ ss) (unfold parts in e) in
    let q : s ∷ ss ≡ p.head ∷ p.rest = p.split in
    let i : p.head ≡ s = cc in
    let j : p.rest ≡ ss = cc in
    let a : take 512 area ≡ put_selection os s = selection-exact os (take 512 area) s (p.head_is ∙ ap some i) in
    let b = area-is os ss (drop 512 area) (p.rest_is ∙ ap some j) in
    let n : 512 + 512 * length ss ≡ 512 * suc (length ss) = omega arith in
    let d : drop (512 * length ss) (drop 512 area) ≡ drop (512 * suc (length ss)) area = drop-drop (512 * length ss) 512 area ∙ ap (λ (k : ℕ). drop k area) n in
    sym (take-append-drop 512 area)
    ∙ ap (λ (z : Bytes). z ++ drop 512 area) a
    ∙ ap (λ (z : Bytes). put_selection os s ++ z) (b ∙ ap (λ (z : Bytes). flat_map (put_selection os) ss ++ z) d)
    ∙ sym (append_assoc (put_selection os s) (flat_map (put_selection os) ss) (drop (512 * suc (length ss)) area))

-- THE AREA OF A SESSION, where each of the open selections is hit in that field.
pub area-hit : (os : List OpenScope) (h : Hit) → HitFit h → (field : ℕ) → field < 4 → (counts : List ℕ) (ss : List Selection) (area : Bytes)
    → All (SelectionFit os) ss → Counted field counts ss → every (selection_in os) (parts 512 (length ss) area) ≡ some ss
    → hit_selections h field counts area ≡ flat_map (put_selection os) (hit_each h field counts ss) ++ drop (512 * length ss) area
area-hit os h fit field r counts ss area f g e =
    ap (λ (z : Bytes). hit_selections h field counts z) (area-is os ss area e) ∙ selections-hit os h fit field r counts ss (drop (512 * length ss) area) f g

-- ---- the machine's cells, one field after the other

fields-behind : (i : ℕ) (hss : List (List Hit)) (c : tree.Cell) (cs : List tree.Cell) → hit_fields (suc i) hss (c ∷ cs) ≡ c ∷ hit_fields i hss cs
unfolding hit_fields hit_nth
fields-behind i [] c cs = refl
fields-behind i (hs ∷ hss) c cs = fields-behind (suc i) hss c (hit_nth i hs cs)

-- FEEDING A SELECTION IS HITTING ITS FIELDS IN TURN.
pub fed-in-turn : (give : List FieldAlt → List Hit) (fs : List (List FieldAlt)) (cs : List tree.Cell) → length cs ≡ length fs
    → hit_fields 0 (map give fs) cs ≡ feed_cells give fs cs
unfolding hit_fields hit_nth feed_cells zip_with
fed-in-turn give [] [] e = refl
fed-in-turn give [] (c ∷ cs) e = absurd (omega arith)
fed-in-turn give (f ∷ fs) [] e = absurd (omega arith)
fed-in-turn give (f ∷ fs) (c ∷ cs) e =
    fields-behind 0 (map give fs) (foldl hit c (give f)) cs ∙ ap (λ l. foldl hit c (give f) ∷ l) (fed-in-turn give fs cs (omega arith))

-- what two nodes give, one after the other
pub fed-twice : (give more : List FieldAlt → List Hit) (fs : List (List FieldAlt)) (cs : List tree.Cell)
    → feed_cells more fs (feed_cells give fs cs) ≡ feed_cells (λ alts. give alts ++ more alts) fs cs
unfolding feed_cells zip_with
fed-twice give more [] [] = refl
fed-twice give more [] (c ∷ cs) = refl
fed-twice give more (f ∷ fs) [] = refl
fed-twice give more (f ∷ fs) (c ∷ cs) =
    let a = fold-append hit c (give f) (more f) in
    let b = fed-twice give more fs cs in
    cc (a, b)

-- ---- four fields in turn: one that the constraint lacks is not there to be hit

-- the first n fields, an empty one for each that is lacking
unfoldable first_fields : ℕ → List (List FieldAlt) → List (List FieldAlt)
first_fields zero fs = []
first_fields (suc n) [] = [] ∷ first_fields n []
first_fields (suc n) (f ∷ fs) = f ∷ first_fields n fs

no_cells : (i : ℕ) (hss : List (List Hit)) → hit_fields i hss [] ≡ []
unfolding hit_fields hit_nth
no_cells i [] = refl
no_cells i (hs ∷ hss) = no_cells (suc i) hss

fed-first : (give : List FieldAlt → List Hit) (n : ℕ) (fs : List (List FieldAlt)) (cs : List tree.Cell) → length cs ≡ length fs → length fs ≤ n
    → hit_fields 0 (map give (first_fields n fs)) cs ≡ feed_cells give fs cs
unfolding first_fields hit_fields hit_nth feed_cells zip_with
fed-first give n [] [] e h = no_cells 0 (map give (first_fields n []))
fed-first give n [] (c ∷ cs) e h = absurd (omega arith)
fed-first give n (f ∷ fs) [] e h = absurd (omega arith)
fed-first give zero (f ∷ fs) (c ∷ cs) e h = absurd (omega arith)
fed-first give (suc n) (f ∷ fs) (c ∷ cs) e h =
    fields-behind 0 (map give (first_fields n fs)) (foldl hit c (give f)) cs ∙ ap (λ l. foldl hit c (give f) ∷ l) (fed-first give n fs cs (omega arith) (omega arith))

first-four : (fs : List (List FieldAlt)) → first_fields 4 fs ≡ get_or fs 0 [] ∷ get_or fs 1 [] ∷ get_or fs 2 [] ∷ get_or fs 3 [] ∷ []
unfolding first_fields
first-four [] = refl
first-four (a ∷ []) = refl
first-four (a ∷ b ∷ []) = refl
first-four (a ∷ b ∷ c ∷ []) = refl
first-four (a ∷ b ∷ c ∷ d ∷ fs) = refl

pub fed-four : (give : List FieldAlt → List Hit) (fs : List (List FieldAlt)) (cs : List tree.Cell) → length cs ≡ length fs → length fs ≤ 4
    → hit_nth 3 (give (get_or fs 3 [])) (hit_nth 2 (give (get_or fs 2 [])) (hit_nth 1 (give (get_or fs 1 [])) (hit_nth 0 (give (get_or fs 0 [])) cs))) ≡ feed_cells give fs cs
unfolding hit_fields
fed-four give fs cs e h =
    sym (ap (λ (l : List (List FieldAlt)). hit_fields 0 (map give l) cs) (first-four fs)) ∙ fed-first give 4 fs cs e h

-- ---- the element's hit

pub hit-is : (byte : ℕ) (text : Text) (e : End) → length text ≤ 126 → byte ≡ e.simple → text ≡ e.key → hit_of byte text ≡ element_hit e
unfolding hit_of
hit-is byte text e h s k = let p : take 126 text ≡ e.key = take_all 126 text h ∙ k in ap element_hit (λ i. record { simple = s i; key = p i })

-- a field that the constraint lacks is not reached, and so it is hit no time
pub not-reached : (fs : List (List FieldAlt)) (below : List Name) (f : ℕ) → length fs ≤ f
    → reach (get_or fs f []) below none ≡ 0
unfolding reach
not-reached fs below f h = rw (get_or-eq_default fs [] {n = f} h)
