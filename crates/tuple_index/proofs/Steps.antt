-- What the functions of the index do step by step: the place behind a record, the walk behind what is covered, a table that is crowded.
-- Assumes nothing.
use Rattle.std.proofs.Common.{◌≡◌, ℕ, zero, suc, ◌+◌, ◌-◌, ◌*◌, ◌<◌, ◌≤◌, Bool, true, false, cond, ◌&&◌, ltb, leb, List, [], ◌∷◌, length, get_or, drop, sym, refl, ap, ◌∙◌, ap₂, arith, length-drop, drop_of_length-le, le-ltb, lt-ltb, eqb, ◌||◌}
use borrow.Author.Tests.{lt-leb, ltb-true, ltb-false, eqb-true}
use mathlib.Core.Option.{Option, none, some, map}
use Rattle.std.specs.declared.option.Option as code
use Rattle.std.specs.declared.result.Result.{Result}
use Rattle.std.specs.declared.result.Result.TheVariants.{Ok, Err}
use Rattle.std.specs.Result.{OkIff, result_ok}
use Rattle.lists.specs.Answers.{given}
use Rattle.texts.specs.Texts.{same}
use Rattle.records.specs.Readers.{Bytes, on_read, ◌>>=◌, read_byte}
use Rattle.session_spec.specs.Definitions.{frame}
use Rattle.output_stores.specs.Stores.{standing}
use Rattle.output_stores.proofs.Walks.{up_to-count}
use Rattle.tuple_search.specs.Search.{or_zero, place_with}
use Rattle.tuple_index.specs.declared.Head.{Head}
use Rattle.tuple_index.specs.Index.{found_behind}
use Rattle.tuple_index.specs.Covers.{place_behind, next_place, head_in, is_crowded}
use Rattle.lists.proofs.Lists.{third-false}

-- ---- the place behind a record

module _ (used : Bytes) (place : ℕ) where
  pub next-none : place < 1 → none ≡ next_place used place
  unfolding next_place
  next-none h = let z : place ≡ 0 = omega arith in sym (ap (next_place used) z)

  -- by what stands one before the place
  pub next-by : 1 ≤ place → (s : Bytes) → s ≡ drop (place - 1) used → (o : Option (Bytes × Bytes)) → o ≡ frame s → place_behind place o ≡ next_place used place
  unfolding next_place
  next-by h s e o q = by place h e
    where
      by : (p : ℕ) → 1 ≤ p → s ≡ drop (p - 1) used → place_behind p o ≡ next_place used p
      by zero h e = absurd (omega arith)
      by (suc c) h e = ap (place_behind (suc c)) (q ∙ ap frame (e ∙ ap (λ (k : ℕ). drop k used) (let z : suc c - 1 ≡ c = omega arith in z)))

  pub next_past : 1 ≤ place → length used < place - 1 → none ≡ next_place used place
  unfolding frame read_byte ◌>>=◌ on_read
  next_past h l = next-by h [] (sym (drop_of_length-le used (omega arith))) none refl

-- the number that four bytes hold, or none
pub held : {E : Type 0} (n : ℕ) (r : Result ℕ E) → OkIff r (n < 4294967296) n → (o : code.Option ℕ) → o ≡ result_ok r → given o ≡ cond (ltb 4294967295 n) none (some n)
held n (Ok m) h o e = ap given e ∙ ap some h.1 ∙ sym (rw (le-ltb 4294967295 n (let k = h.0 in omega arith)))
held n (Err x) h o e = ap given e ∙ sym (rw (lt-ltb 4294967295 n (by (ltb 4294967295 n) refl)))
  where
    by : (b : Bool) → ltb 4294967295 n ≡ b → 4294967295 < n
    by true t = ltb-true 4294967295 n t
    by false t = absurd (h (let k = ltb-false 4294967295 n t in omega arith))

-- ---- the walk behind what is covered

place-few : (t : Bytes) (fs : List Bytes) → or_zero (place_with t fs) ≤ length fs
unfolding place_with or_zero
place-few t [] = omega arith
place-few t (f ∷ fs) = by (same (drop 5 f) t) (place_with t fs) (place-few t fs)
  where
    by : (b : Bool) (o : Option ℕ) → or_zero o ≤ length fs → or_zero (cond b (some 1) (map suc o)) ≤ suc (length fs)
    by true o l = omega arith
    by false none l = omega arith
    by false (some n) l = omega arith

module _ (used tail rest : Bytes) (from count : ℕ) (d : rest ≡ drop from used) (r : Option ℕ) (g : r ≡ place_with tail (standing frame rest)) where
  found-where : r ≡ place_with tail (standing frame (drop from used))
  found-where = g ∙ ap (λ (l : Bytes). place_with tail (standing frame l)) d

  pub behind_few : (n : ℕ) → r ≡ some n → n ≤ length used
  unfolding or_zero standing
  behind_few n e =
      let p : place_with tail (standing frame (drop from used)) ≡ some n = sym found-where ∙ e in
      let q : or_zero (place_with tail (standing frame (drop from used))) ≡ n = ap or_zero p in
      let a = place-few tail (standing frame (drop from used)) in
      let b = up_to-count frame (length (drop from used)) (drop from used) in
      let d = length-drop from used in
      omega arith

  pub behind-is : map (λ n. count + n) r ≡ found_behind count tail (standing frame (drop from used))
  unfolding found_behind
  behind-is = ap (map (λ n. count + n)) found-where

-- ---- a table that is crowded

half : (a b : Bool) → (a && (false && b)) ≡ false
half true b = refl
half false b = refl

module _ (t : List ℕ) where
  crowd-short : length t < 7 → false ≡ is_crowded t
  unfolding is_crowded
  crowd-short l =
      sym (ap (λ (b : Bool). ltb 0 (get_or t 0 0) && (ltb (get_or t 3 0) (2 * get_or t 2 0) && b)) (lt-leb (3 * get_or t 3 0 + 7) (length t) (omega arith))
      ∙ third-false (ltb 0 (get_or t 0 0)) (ltb (get_or t 3 0) (2 * get_or t 2 0)))

  crowd-none : get_or t 0 0 ≡ 0 → false ≡ is_crowded t
  unfolding is_crowded
  crowd-none e = sym (rw (le-ltb 0 (get_or t 0 0) (omega arith)))

  pub crowd-headless : none ≡ head_in t → false ≡ is_crowded t
  unfolding head_in
  crowd-headless = by (ltb (length t) 4) (eqb (get_or t 0 0) 0) refl refl
    where
      by : (a b : Bool) → ltb (length t) 4 ≡ a → eqb (get_or t 0 0) 0 ≡ b
          → ◌≡◌ {A = Option Head} none (cond (a || b) none (some (record { next = get_or t 0 0; count = get_or t 1 0; entries = get_or t 2 0 }))) → false ≡ is_crowded t
      by true b x y p = let l = ltb-true (length t) 4 x in crowd-short (omega arith)
      by false true x y p = crowd-none (eqb-true (get_or t 0 0) 0 y)
      by false false x y p = absurd (let z : ◌≡◌ {A = ℕ} 0 1 = cc in omega arith)

  module _ (s n : ℕ) (es : s ≡ get_or t 3 0) (en : n ≡ get_or t 2 0) where
    pub crowd-half : 2 * n ≤ s → false ≡ is_crowded t
    unfolding is_crowded
    crowd-half l =
        sym (ap (λ (b : Bool). ltb 0 (get_or t 0 0) && (b && leb (3 * get_or t 3 0 + 7) (length t))) (le-ltb (get_or t 3 0) (2 * get_or t 2 0) (omega arith))
        ∙ half (ltb 0 (get_or t 0 0)) (leb (3 * get_or t 3 0 + 7) (length t)))

    pub crowd-room : (get_or t 0 0 ≡ 0 → ⊥) → s < 2 * n → leb (3 * s + 7) (length t) ≡ is_crowded t
    unfolding is_crowded
    crowd-room z l =
        ap (λ (k : ℕ). leb (3 * k + 7) (length t)) es
        ∙ sym (ap₂ (λ (a b : Bool). a && (b && leb (3 * get_or t 3 0 + 7) (length t))) (lt-ltb 0 (get_or t 0 0) (pos (get_or t 0 0) z)) (lt-ltb (get_or t 3 0) (2 * get_or t 2 0) (omega arith)))
      where
        pos : (k : ℕ) → (k ≡ 0 → ⊥) → 0 < k
        pos zero z = absurd (z refl)
        pos (suc k) z = omega arith
