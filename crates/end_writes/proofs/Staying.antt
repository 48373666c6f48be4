-- The hits of the selections that stay open: each row of counts hits one field of each, and four fields in turn are what `feed` does. By induction on the selections,
-- side by side with the numbers of a row.
-- Assumes nothing.
use Prim.Native.Nat.{ℕ, zero, suc, ◌+◌, ◌*◌, ◌≤◌, ◌<◌}
use native.Mathlib.Omega.{arith}
use native.Mathlib.Numerals.{add-one}
use lib.ListN.{length, take, drop, replicate, get_or, get_elem?, length-take, length-drop}
use lib.Seq.{get_or-take, get_or-drop}
use mathlib.Core.Path.{◌≡◌, refl, ap, ap₂, sym, ◌∙◌, subst}
use mathlib.Core.List.{List, [], ◌∷◌, ◌++◌, map, flat_map}
use mathlib.Core.Option.{none, some}
use Rattle.lists.specs.Lists.{part, All}
use Rattle.texts.specs.Texts.{Text}
use Rattle.paths.specs.Names.{Name}
use Rattle.tree.specs.Events.{End}
use Rattle.tree.specs.Cells.{Hit, reach, element_hit, element_hits}
use Rattle.machine.specs.Machine.{OpenScope, Selection, end_gives, feed}
use Rattle.records.specs.Readers.{Bytes}
use Rattle.session_spec.specs.Layout.{put_selection}
use Rattle.session_laws.proofs.Areas.{SelectionFit}
use Rattle.session_laws.proofs.OpenSelections.{HitFit, element-hit}
use Rattle.cells.specs.Cells.{hit_of, hit_selections, hit_field, hit_each}
use Rattle.cells.proofs.Machine.{Counted, selections-hit, hit-fits, area-is, fed-four, hit-is, not-reached}
use Rattle.end_writes.specs.Staying.{Reached, row_of, hit_four, HitsStaying}
use Rattle.lists.proofs.Places.{found-within}

-- ---- a row of counts beside the selections

-- each number is what `g` says of its selection
abbrev Agree : (Selection → ℕ) → List ℕ → List Selection → Type 0
Agree g [] [] = Unit {0}
Agree g [] (s ∷ ss) = ⊥
Agree g (t ∷ ts) [] = ⊥
Agree g (t ∷ ts) (s ∷ ss) = (t ≡ g s) × Agree g ts ss

agree_of : (g : Selection → ℕ) (row : List ℕ) (ss : List Selection) → length row ≡ length ss → ((j : ℕ) (x : Selection) → get_elem? ss j ≡ some x → get_or row j 0 ≡ g x) → Agree g row ss
agree_of g [] [] n p = tt
agree_of g [] (s ∷ ss) n p = absurd (omega arith)
agree_of g (t ∷ ts) [] n p = absurd (omega arith)
agree_of g (t ∷ ts) (s ∷ ss) n p = (p 0 s refl, agree_of g ts ss (omega arith) (λ j x e. p (suc j) x e))

-- a map that changes nothing that `g` looks at
agree-map : (g : Selection → ℕ) (m : Selection → Selection) → ((x : Selection) → g (m x) ≡ g x) → (row : List ℕ) (ss : List Selection) → Agree g row ss → Agree g row (map m ss)
agree-map g m e [] [] a = tt
agree-map g m e [] (s ∷ ss) a = a
agree-map g m e (t ∷ ts) [] a = a
agree-map g m e (t ∷ ts) (s ∷ ss) a = (a.0 ∙ sym (e s), agree-map g m e ts ss a.1)

module _ (h : Hit) (f : ℕ) (g : Selection → ℕ) where
  abbrev hit_by : Selection → Selection
  hit_by x = hit_field f (replicate (g x) h) x

  each-is : (row : List ℕ) (ss : List Selection) → Agree g row ss → hit_each h f row ss ≡ map hit_by ss
  unfolding hit_each
  each-is [] [] a = refl
  each-is [] (s ∷ ss) a = absurd a
  each-is (t ∷ ts) [] a = absurd a
  each-is (t ∷ ts) (s ∷ ss) a =
      ap₂ {C = List Selection} ◌∷◌ (ap (λ (n : ℕ). hit_field f (replicate n h) s) a.0) (each-is ts ss a.1)

  counted : (row : List ℕ) (ss : List Selection) → Agree g row ss → All (λ (x : Selection). length x.cells ≤ f → g x ≡ 0) ss → Counted f row ss
  counted [] [] a b = tt
  counted [] (s ∷ ss) a b = tt
  counted (t ∷ ts) [] a b = a
  counted (t ∷ ts) (s ∷ ss) a b = (λ q. a.0 ∙ b.0 q, counted ts ss a.1 b.1)

-- ---- four rows

module _ (os : List OpenScope) (names : List Name) (e : End) (fit : HitFit (element_hit e)) where
  abbrev h : Hit
  h = element_hit e

  abbrev times : ℕ → Selection → ℕ
  times f x = reach (get_or x.scope.constraint.fields f []) (drop x.depth names) none

  abbrev next : ℕ → Selection → Selection
  next f x = hit_field f (replicate (times f x) h) x

  lacks : (f : ℕ) (ss : List Selection) → All (SelectionFit os) ss → All (λ (x : Selection). length x.cells ≤ f → times f x ≡ 0) ss
  lacks f [] a = tt
  lacks f (s ∷ ss) a =
      (λ q. not-reached s.scope.constraint.fields (drop s.depth names) f (let m = a.0.many in omega arith), lacks f ss a.1)

  -- one row
  one-row : (f : ℕ) → f < 4 → (row : List ℕ) (ss : List Selection) (rest : Bytes) → All (SelectionFit os) ss → Agree (times f) row ss
      → hit_selections h f row (flat_map (put_selection os) ss ++ rest) ≡ flat_map (put_selection os) (map (next f) ss) ++ rest
  one-row f r row ss rest a g =
      selections-hit os h fit f r row ss rest a (counted h f (times f) row ss g (lacks f ss a))
      ∙ ap (λ (l : List Selection). flat_map (put_selection os) l ++ rest) (each-is h f (times f) row ss g)

  still-fit : (f : ℕ) → f < 4 → (row : List ℕ) (ss : List Selection) → All (SelectionFit os) ss → Agree (times f) row ss → All (SelectionFit os) (map (next f) ss)
  still-fit f r row ss a g = subst (All (SelectionFit os)) (each-is h f (times f) row ss g) (hit-fits os h fit f r row ss a)

  same-times : (i f : ℕ) (x : Selection) → times i (next f x) ≡ times i x
  unfolding hit_field
  same-times i f x = refl

  fed : (x : Selection) → SelectionFit os x → next 3 (next 2 (next 1 (next 0 x))) ≡ feed names (end_gives e) x
  unfolding hit_field feed element_hits
  fed x ok = λ i.
      record {
        scope = x.scope;
        depth = x.depth;
        cells = fed-four (λ alts. end_gives e alts (drop x.depth names)) x.scope.constraint.fields x.cells ok.many (let m = ok.many in let n = ok.few in omega arith) i;
      }

  all-fed : (ss : List Selection) → All (SelectionFit os) ss → map (next 3) (map (next 2) (map (next 1) (map (next 0) ss))) ≡ map (feed names (end_gives e)) ss
  all-fed [] a = refl
  all-fed (s ∷ ss) a = ap₂ {C = List Selection} ◌∷◌ (fed s a.0) (all-fed ss a.1)

  module _ (first : ℕ) (counts : Bytes) (ss : List Selection) (many : length ss ≡ first) (few : first ≤ 32) (long : length counts ≡ 128) (reached : Reached names counts ss)
      (ok : All (SelectionFit os) ss) where
    row-length : (f : ℕ) → f < 4 → length (row_of counts first f) ≡ first
    row-length f r =
        length-take first (part counts (32 * f) 32)
        ∙ (let a = length-take 32 (drop (32 * f) counts) in let b = length-drop (32 * f) counts in omega arith)

    row_at : (f j : ℕ) → f < 4 → j < first → get_or (row_of counts first f) j 0 ≡ get_or counts (32 * f + j) 0
    row_at f j r q = get_or-take first (part counts (32 * f) 32) j 0 q ∙ get_or-take 32 (drop (32 * f) counts) j 0 (omega arith) ∙ get_or-drop (32 * f) counts j 0

    row-agrees : (f : ℕ) → f < 4 → Agree (times f) (row_of counts first f) ss
    row-agrees f r =
        agree_of (times f) (row_of counts first f) ss (row-length f r ∙ sym many)
        (λ j x q. row_at f j r (let b = found-within ss j x q in omega arith) ∙ reached f j x r q)

    staying-hit : (rest : Bytes) → hit_four h first counts (flat_map (put_selection os) ss ++ rest) ≡ flat_map (put_selection os) (map (feed names (end_gives e)) ss) ++ rest
    staying-hit rest =
        let s₁ = map (next 0) ss in
        let s₂ = map (next 1) s₁ in
        let s₃ = map (next 2) s₂ in
        let g₀ = row-agrees 0 (omega arith) in
        let g₁ = agree-map (times 1) (next 0) (same-times 1 0) (row_of counts first 1) ss (row-agrees 1 (omega arith)) in
        let g₂ = agree-map (times 2) (next 1) (same-times 2 1) (row_of counts first 2) s₁ (agree-map (times 2) (next 0) (same-times 2 0) (row_of counts first 2) ss (row-agrees 2 (omega arith))) in
        let g₃ = agree-map (times 3) (next 2) (same-times 3 2) (row_of counts first 3) s₂
        (agree-map (times 3) (next 1) (same-times 3 1) (row_of counts first 3) s₁ (agree-map (times 3) (next 0) (same-times 3 0) (row_of counts first 3) ss (row-agrees 3 (omega arith)))) in
        let a₁ = still-fit 0 (omega arith) (row_of counts first 0) ss ok g₀ in
        let a₂ = still-fit 1 (omega arith) (row_of counts first 1) s₁ a₁ g₁ in
        let a₃ = still-fit 2 (omega arith) (row_of counts first 2) s₂ a₂ g₂ in
        let e₀ = one-row 0 (omega arith) (row_of counts first 0) ss rest ok g₀ in
        let e₁ = one-row 1 (omega arith) (row_of counts first 1) s₁ rest a₁ g₁ in
        let e₂ = one-row 2 (omega arith) (row_of counts first 2) s₂ rest a₂ g₂ in
        let e₃ = one-row 3 (omega arith) (row_of counts first 3) s₃ rest a₃ g₃ in
        ap (λ (l : Bytes). hit_selections h 3 (row_of counts first 3) (hit_selections h 2 (row_of counts first 2) (hit_selections h 1 (row_of counts first 1) l))) e₀
        ∙ ap (λ (l : Bytes). hit_selections h 3 (row_of counts first 3) (hit_selections h 2 (row_of counts first 2) l)) e₁
        ∙ ap (λ (l : Bytes). hit_selections h 3 (row_of counts first 3) l) e₂
        ∙ e₃
        ∙ ap (λ (l : List Selection). flat_map (put_selection os) l ++ rest) (all-fed ss ok)

-- ---- one row after the other

pub rows-hit : Hit → (first : ℕ) → (counts cells : Bytes) → (fields : ℕ) → Bytes
rows-hit h first counts cells zero = cells
rows-hit h first counts cells (suc f) = hit_selections h f (row_of counts first f) (rows-hit h first counts cells f)

module _ (h : Hit) (first : ℕ) (counts cells : Bytes) where
  pub no-row : cells ≡ rows-hit h first counts cells 0
  unfolding rows-hit
  no-row = refl

  pub row-more : (f : ℕ) (row before after : Bytes) → row ≡ part counts (32 * f) 32 → before ≡ rows-hit h first counts cells f
      → after ≡ hit_selections h f (take first row) before → after ≡ rows-hit h first counts cells (f + 1)
  unfolding rows-hit
  row-more f row before after r b e = rw add-one (e ∙ rw (r, b))

  pub four-rows : (after : Bytes) (f : ℕ) → f ≡ 4 → after ≡ rows-hit h first counts cells f → after ≡ hit_four h first counts cells
  unfolding rows-hit
  four-rows after f n e = e ∙ ap (rows-hit h first counts cells) n

-- ---- THE LAW of `hit_staying`

pub hits-staying : (cells : Bytes) (first : ℕ) (counts : Bytes) (byte : ℕ) (text : Text) (after : Bytes) → after ≡ hit_four (hit_of byte text) first counts cells
    → HitsStaying cells first counts byte text after
hits-staying cells first counts byte text after w =
    record {
      bytes = w;
      says = λ os ss names e i read ok many few long reached.
          let z : 512 * length ss ≡ 512 * first = omega arith in
          let fit : HitFit (element_hit e) = element-hit e (subst (λ (t : Text). length t ≤ 126) i.text i.short) in
          w
          ∙ ap (λ (x : Hit). hit_four x first counts cells) (hit-is byte text e i.short i.simple i.text)
          ∙ ap (hit_four (element_hit e) first counts) (area-is os ss cells read)
          ∙ staying-hit os names e fit first counts ss many few long reached ok (drop (512 * length ss) cells)
          ∙ ap (λ (k : ℕ). flat_map (put_selection os) (map (feed names (end_gives e)) ss) ++ drop k cells) z;
    }
