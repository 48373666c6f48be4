-- Field by field: the rows of those that are done hold their numbers, and the others are as they were. A row is lent, and comes back in its place.
-- Assumes nothing.
use Prim.Native.Nat.{ℕ, zero, suc, min, ◌+◌, ◌*◌, ◌≤◌, ◌<◌}
use native.Mathlib.Omega.{arith}
use borrow.Author.Tests.{ltb-true, ltb-false}
use lib.Dec.{ltb}
use lib.ListN.{length, take, drop, get_or}
use lib.Seq.{get_or-take, get_or-drop}
use mathlib.Core.Path.{◌≡◌, refl, ap, sym, ◌∙◌, subst}
use mathlib.Core.Bool.{Bool, true, false, cond}
use mathlib.Core.List.{List, [], ◌∷◌, ◌++◌}
use Rattle.lists.specs.Lists.{over, All}
use Rattle.lists.proofs.Writes.{length_part, length_over, lent-over, get_d_over, get_d-before-over, get_d-behind-over}
use Rattle.texts.specs.Texts.{Text}
use Rattle.records.specs.Readers.{Bytes}
use Rattle.bindings.specs.Bindings.{uri_in}
use Rattle.cells.specs.Cells.{depth_at}
use Rattle.path_area.specs.Scratch.{Scratched}
use Rattle.path_area.proofs.Scratch.{scratch-same, scratch-then}
use Rattle.constraints.specs.declared.Parts.{Parts}
use Rattle.reaching.specs.Rows.{picked}
use Rattle.element_hits.specs.Rows.{reach_of, field_texts, RowBlank, Blank, FieldOf, RowsOf}

-- a text that is not there is short, too: unlike lists' All-get_or, this asks no place within
pub short-at : (l : List Text) (i : ℕ) → All (λ (t : Text). length t ≤ 255) l → length (get_or l i []) ≤ 255
short-at [] i a = omega arith
short-at (x ∷ l) zero a = a.0
short-at (x ∷ l) (suc i) a = short-at l i a.1

-- ---- the matrix with row f written anew

module _ (counts row : Bytes) (f : ℕ) (size : length counts ≡ 128) (low : f < 4) (wide : length row ≡ 32) where
  here-over : (j : ℕ) → j < 32 → get_or (over counts (32 * f) row) (32 * f + j) 0 ≡ get_or row j 0
  here-over j h = get_d_over counts (32 * f) row j 0 (omega arith) (omega arith)

  else-over : (g j : ℕ) → j < 32 → (g ≡ f → ⊥) → get_or (over counts (32 * f) row) (32 * g + j) 0 ≡ get_or counts (32 * g + j) 0
  else-over g j h q = by (ltb g f) refl
    where
      by : (b : Bool) → ltb g f ≡ b → get_or (over counts (32 * f) row) (32 * g + j) 0 ≡ get_or counts (32 * g + j) 0
      by true e = let l = ltb-true g f e in get_d-before-over counts (32 * f) row (32 * g + j) 0 (omega arith) (omega arith)
      by false e =
          let l = ltb-false g f e in
          let m : f < g = above g f l q in
          get_d-behind-over counts (32 * f) row (32 * g + j) 0 (omega arith) (omega arith)
        where
          above : (a c : ℕ) → c ≤ a → (a ≡ c → ⊥) → c < a
          above a c k ne = omega arith

-- ---- field by field

-- the target that a field was asked with, and the row that was lent for it
abbrev pub target_of : {cells : Bytes} {n place : ℕ} {names : Bytes} {depth : ℕ} {own : Bytes} {p : Parts} {f target : ℕ} {defs before row after row' : Bytes}
    → FieldOf cells n place names depth own p f target defs before row after row' → ℕ
target_of {cells} {n} {place} {names} {depth} {own} {p} {f} {target} {defs} {before} {row} {after} {row'} fo = target

abbrev pub lent_of : {cells : Bytes} {n place : ℕ} {names : Bytes} {depth : ℕ} {own : Bytes} {p : Parts} {f target : ℕ} {defs before row after row' : Bytes}
    → FieldOf cells n place names depth own p f target defs before row after row' → Bytes
lent_of {cells} {n} {place} {names} {depth} {own} {p} {f} {target} {defs} {before} {row} {after} {row'} fo = row

module _ (cells : Bytes) (n place : ℕ) (names : Bytes) (depth : ℕ) (own : Bytes) (p : Parts) (defs before counts₀ : Bytes) where
  abbrev wanted : (g j : ℕ) → ℕ
  wanted g j =
      cond (picked place n cells j) (reach_of (uri_in own defs (2 + g)) (get_or (field_texts own p) g []) names depth (depth_at cells (512 * j)))
      (get_or counts₀ (32 * g + j) 0)

  -- f fields are done
  pub record Rows (f : ℕ) (area counts : Bytes) : Type 0 where
    pub size : length counts ≡ length counts₀
    pub scratched : Scratched before area
    pub done : 1024 ≤ length before → All (λ (t : Text). length t ≤ 255) (field_texts own p) → Blank cells n place counts₀
        → (g j : ℕ) → g < f → j < 32 → get_or counts (32 * g + j) 0 ≡ wanted g j
    pub left : (g j : ℕ) → f ≤ g → j < 32 → get_or counts (32 * g + j) 0 ≡ get_or counts₀ (32 * g + j) 0

  pub rows_none : Rows 0 before counts₀
  rows_none = record { size = refl; scratched = scratch-same before; done = λ l s b g j h. absurd (omega arith); left = λ g j h k. refl }

  module _ (f : ℕ) (area counts : Bytes) (q : Rows f area counts) (long : length counts₀ ≡ 128) (low : f < 4)
      (w target : ℕ) (lent : Bytes) (we : w ≡ 32) (tg : target ≡ 2 + f) (le : lent ≡ take w (drop (32 * f) counts)) (mid row : Bytes)
      (fo : FieldOf cells n place names depth own p f target defs area lent mid row) where
    size : length counts ≡ 128
    size = q.size ∙ long

    lent-size : length lent ≡ 32
    lent-size = ap length le ∙ length_part counts (32 * f) w (omega (arith, size)) ∙ we

    lent_at : (j : ℕ) → j < 32 → get_or lent j 0 ≡ get_or counts (32 * f + j) 0
    lent_at j h = ap (λ (x : Bytes). get_or x j 0) le ∙ get_or-take w (drop (32 * f) counts) j 0 (omega arith) ∙ get_or-drop (32 * f) counts j 0

    back : take (32 * f) counts ++ (row ++ drop w (drop (32 * f) counts)) ≡ over counts (32 * f) row
    back = lent-over counts row (32 * f) w (fo.same ∙ lent-size ∙ sym we)

    wide : length row ≡ 32
    wide = fo.same ∙ lent-size

    blank-row : Blank cells n place counts₀ → RowBlank cells n place lent
    blank-row b j h e =
        let k : j < 32 = omega (arith, lent-size) in
        lent_at j k ∙ q.left f j (omega arith) k ∙ b f j low k e

    module _ (l : 1024 ≤ length before) (s : All (λ (t : Text). length t ≤ 255) (field_texts own p)) (b : Blank cells n place counts₀) where
      row_done : (j : ℕ) → j < 32 → get_or row j 0 ≡ wanted f j
      row_done j h =
          let r = fo.says (omega (arith, q.scratched.size)) (short-at (field_texts own p) f s) (blank-row b) in
          r.each j (omega (arith, lent-size))
          ∙ ap (λ (m : ℕ). cond (picked place n cells j) (reach_of (uri_in own defs target) (get_or (field_texts own p) f []) names depth (depth_at cells (512 * j))) m)
          (lent_at j h ∙ q.left f j (omega arith) h)
          ∙ ap (λ (t : ℕ). cond (picked place n cells j) (reach_of (uri_in own defs t) (get_or (field_texts own p) f []) names depth (depth_at cells (512 * j))) (get_or counts₀ (32 * f + j) 0)) tg

      all_done : (g j : ℕ) → g < f + 1 → j < 32 → get_or (over counts (32 * f) row) (32 * g + j) 0 ≡ wanted g j
      all_done g j h k = by (ltb g f) refl
        where
          by : (t : Bool) → ltb g f ≡ t → get_or (over counts (32 * f) row) (32 * g + j) 0 ≡ wanted g j
          by true e =
              let m = ltb-true g f e in
              else-over counts row f size low wide g j k (λ z. omega arith) ∙ q.done l s b g j m k
          by false e =
              let m = ltb-false g f e in
              let z : g ≡ f = omega arith in
              ap (λ (x : ℕ). get_or (over counts (32 * f) row) (32 * x + j) 0) z
              ∙ here-over counts row f size low wide j k
              ∙ row_done j k
              ∙ ap (λ (x : ℕ). wanted x j) (sym z)

    rows-over : Rows (f + 1) mid (over counts (32 * f) row)
    rows-over =
        record {
          size = length_over counts (32 * f) row (omega (arith, size, wide)) ∙ q.size;
          scratched = scratch-then before area mid q.scratched fo.scratched;
          done = λ l s b. all_done l s b;
          left = λ g j h k. else-over counts row f size low wide g j k (λ z. omega arith) ∙ q.left g j (omega arith) k;
        }

    pub rows-one : Rows (f + 1) mid (take (32 * f) counts ++ (row ++ drop w (drop (32 * f) counts)))
    rows-one = subst (λ (x : Bytes). Rows (f + 1) mid x) (sym back) rows-over

  pub rows_all : (f : ℕ) (area counts : Bytes) → Rows f area counts → f ≡ min 4 p.count
      → RowsOf cells n place names depth own p defs before counts₀ area counts
  rows_all f area counts q e =
      record {
        done = λ l s b g j h k m. q.done l s b g j (omega arith) k;
        left = λ g j h k m. q.left g j (omega arith) k;
        same = q.size;
        scratched = q.scratched;
      }
