-- Selections and hits, as lists: hits in a field one after the other, a number of hits for each selection, and what stays of a selection that is hit. By induction on the field
-- and on the selections.
-- Assumes nothing.
use Prim.Native.Nat.{ℕ, zero, suc, ◌≤◌, ◌<◌}
use native.Mathlib.Omega.{arith}
use lib.ListN.{length, replicate}
use mathlib.Core.Path.{◌≡◌, refl, ap, sym, ◌∙◌}
use mathlib.Core.Bool.{Bool, true, false, cond}
use mathlib.Core.List.{List, [], ◌∷◌, ◌++◌, map}
use Rattle.std.proofs.lemmas.List.Sums.{fold-append}
use Rattle.tree.specs.Cells as tree
use Rattle.tree.specs.Cells.{Hit}
use Rattle.machine.specs.Machine.{OpenScope, Selection, hit}
use Rattle.cells.specs.Cells.{hit_nth, hit_field, hit_each}
use Rattle.cells.proofs.Machine.{Counted, nth-length}
use Rattle.attribute_hits.specs.Steps.{is_of, Has, hit_here}
use Rattle.lists.specs.Lists.{All}

-- ---- the cells of one selection

nth-none : (i : ℕ) (cs : List tree.Cell) → hit_nth i [] cs ≡ cs
unfolding hit_nth
nth-none i [] = refl
nth-none zero (c ∷ cs) = refl
nth-none (suc i) (c ∷ cs) = ap (λ (l : List tree.Cell). c ∷ l) (nth-none i cs)

nth-then : (i : ℕ) (hs gs : List Hit) (cs : List tree.Cell) → hit_nth i gs (hit_nth i hs cs) ≡ hit_nth i (hs ++ gs) cs
unfolding hit_nth
nth-then i hs gs [] = refl
nth-then zero hs gs (c ∷ cs) = ap (λ (x : tree.Cell). x ∷ cs) (sym (fold-append hit c hs gs))
nth-then (suc i) hs gs (c ∷ cs) = ap (λ (l : List tree.Cell). c ∷ l) (nth-then i hs gs cs)

-- the same selection with other cells
abbrev pub with_cells : Selection → List tree.Cell → Selection
with_cells s cs = record { scope = s.scope; depth = s.depth; cells = cs }

field-none : (f : ℕ) (s : Selection) → hit_field f [] s ≡ s
unfolding hit_field
field-none f s = ap (with_cells s) (nth-none f s.cells)

field-then : (f : ℕ) (hs gs : List Hit) (s : Selection) → hit_field f gs (hit_field f hs s) ≡ hit_field f (hs ++ gs) s
unfolding hit_field
field-then f hs gs s = ap (with_cells s) (nth-then f hs gs s.cells)

-- ---- a selection of the scope at a place

module _ (os : List OpenScope) (place field : ℕ) where
  pub here-none : (hits : ℕ → List Hit) → ((d : ℕ) → hits d ≡ []) → (s : Selection) → hit_here os place field hits s ≡ s
  unfolding hit_here
  here-none hits e s = by (is_of os place s)
    where
      by : (b : Bool) → cond b (hit_field field (hits s.depth) s) s ≡ s
      by true = ap (λ (hs : List Hit). hit_field field hs s) (e s.depth) ∙ field-none field s
      by false = refl

  pub here-then : (hs gs all : ℕ → List Hit) → ((d : ℕ) → hs d ++ gs d ≡ all d) → (s : Selection)
      → hit_here os place field gs (hit_here os place field hs s) ≡ hit_here os place field all s
  unfolding hit_here hit_field
  here-then hs gs all e s = by (is_of os place s) refl
    where
      by : (b : Bool) → is_of os place s ≡ b → hit_here os place field gs (cond b (hit_field field (hs s.depth) s) s) ≡ cond b (hit_field field (all s.depth) s) s
      by true q =
          ap (λ (b : Bool). cond b (hit_field field (gs s.depth) (hit_field field (hs s.depth) s)) (hit_field field (hs s.depth) s)) q
          ∙ field-then field (hs s.depth) (gs s.depth) s
          ∙ ap (λ (l : List Hit). hit_field field l s) (e s.depth)
      by false q = ap (λ (b : Bool). cond b (hit_field field (gs s.depth) s) s) q

  pub here-has : (hits : ℕ → List Hit) (s : Selection) → Has os place field s → Has os place field (hit_here os place field hits s)
  unfolding hit_here hit_field
  here-has hits s h = by (is_of os place s)
    where
      by : (b : Bool) → Has os place field (cond b (hit_field field (hits s.depth) s) s)
      by true = λ e. let l = nth-length field (hits s.depth) s.cells in let k = h e in omega arith
      by false = h

-- ---- all selections

-- a number of hits for each
pub each_map : (h : Hit) (field : ℕ) (count : Selection → ℕ) (ss : List Selection)
    → hit_each h field (map count ss) ss ≡ map (λ s. hit_field field (replicate (count s) h) s) ss
unfolding hit_each
each_map h field count [] = refl
each_map h field count (s ∷ ss) = ap (λ (l : List Selection). hit_field field (replicate (count s) h) s ∷ l) (each_map h field count ss)

pub counted-map : (field : ℕ) (count : Selection → ℕ) (ss : List Selection) → All (λ (s : Selection). length s.cells ≤ field → count s ≡ 0) ss
    → Counted field (map count ss) ss
counted-map field count [] a = tt
counted-map field count (s ∷ ss) a = (a.0, counted-map field count ss a.1)

module _ (os : List OpenScope) (place field : ℕ) (h : Hit) (reached : ℕ → ℕ) where
  -- of that scope as many as reach it, of others none
  abbrev pub count_of : Selection → ℕ
  count_of s = cond (is_of os place s) (reached s.depth) 0

  pub count-here : (s : Selection) → hit_field field (replicate (count_of s) h) s ≡ hit_here os place field (λ d. replicate (reached d) h) s
  unfolding hit_here
  count-here s = by (is_of os place s)
    where
      by : (b : Bool) → hit_field field (replicate (cond b (reached s.depth) 0) h) s ≡ cond b (hit_field field (replicate (reached s.depth) h) s) s
      by true = refl
      by false = field-none field s

  pub count_none : (s : Selection) → Has os place field s → length s.cells ≤ field → count_of s ≡ 0
  count_none s k l = by (is_of os place s) k
    where
      by : (b : Bool) → (b ≡ true → field < length s.cells) → cond b (reached s.depth) 0 ≡ 0
      by true k = let z = k refl in absurd (omega arith)
      by false k = refl
