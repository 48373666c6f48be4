-- The first selection at a depth, place by place; and in a session's area it stands behind those that stay open.
-- Assumes nothing.
use Prim.Native.Nat.{ℕ, zero, suc, ◌+◌, ◌*◌, ◌≤◌}
use native.Mathlib.Omega.{arith}
use native.Mathlib.Numerals.{add-one}
use borrow.Author.Tests.{eq-eqb, ne_eqb, ltb-false}
use lib.Dec.{eqb, ltb}
use lib.ListN.{length, get_elem?}
use mathlib.Core.Path.{◌≡◌, refl, ap, sym, ◌∙◌}
use mathlib.Core.Bool.{Bool, true, false, cond, not}
use mathlib.Core.List.{List, [], ◌∷◌, ◌++◌}
use mathlib.Core.Option.{some}
use Rattle.std.specs.List.{position_or_len, range_with_len}
use Rattle.std.specs.Option.{unwrap_or}
use Rattle.std.specs.declared.option.Option as code
use Rattle.std.specs.declared.option.Option.TheVariants.{Some, None}
use Rattle.std.proofs.lemmas.List.Sums.{prefix_len-le-length}
use Rattle.std.proofs.lemmas.List.FromFn.{length-range_with_len}
use Rattle.machine.specs.Machine.{Selection}
use Rattle.records.specs.Readers.{Bytes}
use Rattle.cells.specs.Cells.{depth_at}
use Rattle.end_writes.specs.Staying.{deep_from}
use Rattle.lists.specs.Lists.{All}

-- ---- the loop

module _ (cells : Bytes) (depth : ℕ) where
  pub deep-here : (j n : ℕ) → depth_at cells (512 * j) ≡ depth → deep_from cells j (suc n) depth ≡ j
  unfolding deep_from
  deep-here j n e = rw (eq-eqb (depth_at cells (512 * j)) depth e)

  pub deep-on : (j n : ℕ) → (depth_at cells (512 * j) ≡ depth → ⊥) → deep_from cells j (suc n) depth ≡ deep_from cells (suc j) n depth
  unfolding deep_from
  deep-on j n e = rw (ne_eqb (depth_at cells (512 * j)) depth e)

  abbrev pub at-depth : (j : ℕ) → Bool
  at-depth j = eqb (depth_at cells (512 * j)) depth

  deep-place : (j n : ℕ) → deep_from cells j n depth ≡ j + position_or_len at-depth (range_with_len j n)
  unfolding deep_from
  deep-place j zero = omega arith
  deep-place j (suc n) = by (at-depth j) (deep_from cells (suc j) n depth) (position_or_len at-depth (range_with_len (j + 1) n)) (ap (λ (k : ℕ). deep_from cells k n depth) (sym (add-one j)) ∙ deep-place (j + 1) n)
    where
      by : (b : Bool) (d q : ℕ) → d ≡ j + 1 + q → cond b j d ≡ j + cond (not b) (1 + q) 0
      by true d q e = omega arith
      by false d q e = omega arith

  -- the place that is found, or how many there are
  pub first-is : (last : ℕ) (o : code.Option ℕ)
      → o ≡ cond (ltb (position_or_len at-depth (range_with_len 0 last)) (length (range_with_len 0 last))) (Some (position_or_len at-depth (range_with_len 0 last))) None
      → unwrap_or o last ≡ deep_from cells 0 last depth
  first-is last o e =
      let n : length (range_with_len 0 last) ≡ last = length-range_with_len 0 last in
      let p : deep_from cells 0 last depth ≡ position_or_len at-depth (range_with_len 0 last) = omega (arith, deep-place 0 last) in
      let m : position_or_len at-depth (range_with_len 0 last) ≤ length (range_with_len 0 last) = prefix_len-le-length (λ j. not (at-depth j)) (range_with_len 0 last) in
      ap (λ (o : code.Option ℕ). unwrap_or o last) e
      ∙ by (position_or_len at-depth (range_with_len 0 last)) (length (range_with_len 0 last)) (ltb (position_or_len at-depth (range_with_len 0 last)) (length (range_with_len 0 last))) refl m n
      ∙ sym p
    where
      by : (k l : ℕ) (b : Bool) → ltb k l ≡ b → k ≤ l → l ≡ last → unwrap_or (cond b (Some k) None) last ≡ k
      by k l true f m n = refl
      by k l false f m n = let h = ltb-false k l f in omega arith

-- ---- in a session

-- selections at other depths, and behind them those at this one
pub deep_is : (cells : Bytes) (depth j : ℕ) (xs ys : List Selection)
    → ((i : ℕ) (x : Selection) → get_elem? (xs ++ ys) i ≡ some x → depth_at cells (512 * (j + i)) ≡ x.depth)
    → All (λ (x : Selection). x.depth ≡ depth → ⊥) xs → All (λ (x : Selection). x.depth ≡ depth) ys
    → deep_from cells j (length (xs ++ ys)) depth ≡ j + length xs
deep_is cells depth j [] [] g a b = unfold deep_from in omega arith
deep_is cells depth j [] (y ∷ ys) g a b =
    let z : 512 * (j + 0) ≡ 512 * j = omega arith in
    let e : depth_at cells (512 * j) ≡ depth = ap (depth_at cells) (sym z) ∙ g 0 y refl ∙ b.0 in
    deep-here cells depth j (length ys) e ∙ omega arith
deep_is cells depth j (x ∷ xs) ys g a b =
    let z : 512 * (j + 0) ≡ 512 * j = omega arith in
    let e : depth_at cells (512 * j) ≡ x.depth = ap (depth_at cells) (sym z) ∙ g 0 x refl in
    let ih = deep_is cells depth (suc j) xs ys (λ i y q. let w : 512 * (j + suc i) ≡ 512 * (suc j + i) = omega arith in ap (depth_at cells) (sym w) ∙ g (suc i) y q) a.1 b in
    deep-on cells depth j (length (xs ++ ys)) (λ q. a.0 (sym e ∙ q)) ∙ ih ∙ omega arith
