-- The two searches over the records of the store: the bytes of a record from a place on, whether it answers, that the walks go over the records that stand, and the number of what a
-- position finds.
-- Assumes nothing.
use Prim.Native.Nat.{ℕ, suc, ◌+◌, ◌<◌}
use native.Mathlib.Omega.{arith}
use lib.Dec.{eqb, ltb}
use lib.ListN.{length, drop, drop_of_length-le, get_or}
use borrow.Author.Tests.{eq-eqb, ne_eqb, ltb-true, ltb-false, lt-ltb, le-ltb}
use mathlib.Core.Path.{◌≡◌, refl, ap, sym, ◌∙◌}
use mathlib.Core.Bool.{Bool, true, false, cond}
use mathlib.Core.List.{List, [], ◌∷◌}
use mathlib.Core.Option.{none, some, map}
use Rattle.texts.specs.Texts.{same}
use Rattle.records.specs.Readers.{Bytes}
use Rattle.session_spec.specs.Definitions.{frame}
use Rattle.output_stores.specs.Stores.{standing, in_mask}
use Rattle.std.specs.declared.option.Option as code
use Rattle.std.specs.declared.option.Option.TheVariants.{Some, None}
use Rattle.std.specs.Option.{unwrap_or}
use Rattle.std.specs.List.{position, position_or_len}
use Rattle.std.specs.Iterator.{YieldsFirstRef}
use Rattle.std.proofs.lemmas.Iterator.{YieldsList}
use Rattle.std.proofs.lemmas.Iterator.Consumers.{YieldsList-from_first}
use denote.Ref.{Bor}
use Rattle.lists.specs.Answers.{given}
use Rattle.frames.specs.declared.Records.{Records}
use Rattle.tuple_search.specs.Search.{or_zero, place_with, first_with, is_answer}

-- ---- the bytes of a record from a place on

none-same : (b : Bytes) → eqb (length b) 0 ≡ same [] b
unfolding same
none-same [] = eq-eqb 0 0 refl
none-same (x ∷ b) = ne_eqb (suc (length b)) 0 (λ e. omega arith)

pub past_end : (f : Bytes) (at : ℕ) (b : Bytes) → length f < at → eqb (length b) 0 ≡ same (drop at f) b
past_end f at b h = none-same b ∙ ap (λ (l : Bytes). same l b) (sym (drop_of_length-le f {i = at} (omega arith)))

-- ---- whether a record answers

module _ (named : ℕ) (texts f : Bytes) (c : ℕ) (h : Bool) (e : c ≡ get_or f 4 0) (m : h ≡ in_mask named c) where
  in-set : in_mask named (get_or f 4 0) ≡ h
  in-set = ap (in_mask named) (sym e) ∙ sym m

  pub not_named : h ≡ false → false ≡ is_answer named texts f
  unfolding is_answer
  not_named p = rw (in-set ∙ p)

  pub if-named : (r : Bool) → h ≡ true → r ≡ same (drop 9 f) texts → r ≡ is_answer named texts f
  unfolding is_answer
  if-named r p q = rw (in-set ∙ p) q

-- ---- the walks

-- they go over the records that stand
pub walk : (s : Records) → YieldsList (YieldsFirstRef {A = Bytes} (λ (t : Records). standing frame t.0.now)) (λ (b : Bor Bytes). b.now) s (standing frame s.0.now)
walk s = YieldsList-from_first (λ b. b.now) (λ t. standing frame t.0.now) (standing frame s.0.now) refl

-- the number of the first one that is the same counts it and those before it
module _ (tail : Bytes) where
  abbrev is_it : Bytes → Bool
  is_it f = same (drop 5 f) tail

  on-one : (f : Bytes) (fs : List Bytes) (b : Bool) → is_it f ≡ b
      → place_with tail fs ≡ cond (ltb (position_or_len is_it fs) (length fs)) (some (position_or_len is_it fs + 1)) none
      → place_with tail (f ∷ fs) ≡ cond (ltb (position_or_len is_it (f ∷ fs)) (length (f ∷ fs))) (some (position_or_len is_it (f ∷ fs) + 1)) none
  unfolding place_with
  on-one f fs true e ih = rw (e, lt-ltb 0 (suc (length fs)) (omega arith)) refl
  on-one f fs false e ih = rw (e, ih) (by (position_or_len is_it fs) (ltb (position_or_len is_it fs) (length fs)) refl)
    where
      by : (n : ℕ) (b : Bool) → ltb n (length fs) ≡ b → map suc (cond (ltb n (length fs)) (some (n + 1)) none) ≡ cond (ltb (1 + n) (suc (length fs))) (some (1 + n + 1)) none
      by n true t = let h = ltb-true n (length fs) t in rw (t, lt-ltb (1 + n) (suc (length fs)) (omega arith)) (ap some (omega arith))
      by n false t = let h = ltb-false n (length fs) t in rw (t, le-ltb (1 + n) (suc (length fs)) (omega arith)) refl

  first : (fs : List Bytes) → place_with tail fs ≡ cond (ltb (position_or_len is_it fs) (length fs)) (some (position_or_len is_it fs + 1)) none
  unfolding place_with
  first [] = refl
  first (f ∷ fs) = on-one f fs (is_it f) refl (first fs)

  module _ (fs : List Bytes) (r : code.Option ℕ) (p : r ≡ position is_it fs) where
    pub found_none : r ≡ None → none ≡ place_with tail fs
    found_none e = by (ltb (position_or_len is_it fs) (length fs)) refl
      where
        by : (b : Bool) → ltb (position_or_len is_it fs) (length fs) ≡ b → none ≡ place_with tail fs
        by true t = let z : ◌≡◌ {A = code.Option ℕ} None (Some (position_or_len is_it fs)) = sym e ∙ p ∙ rw t in cc
        by false t = sym (first fs ∙ rw t)

    pub found_at : (n : ℕ) → r ≡ Some n → some (n + 1) ≡ place_with tail fs
    found_at n e = by (ltb (position_or_len is_it fs) (length fs)) refl
      where
        by : (b : Bool) → ltb (position_or_len is_it fs) (length fs) ≡ b → some (n + 1) ≡ place_with tail fs
        by true t =
            let z : ◌≡◌ {A = code.Option ℕ} (Some n) (Some (position_or_len is_it fs)) = sym e ∙ p ∙ rw t in
            let m : n ≡ position_or_len is_it fs = cc in
            ap (λ (k : ℕ). some (k + 1)) m ∙ sym (first fs ∙ rw t)
        by false t = let z : ◌≡◌ {A = code.Option ℕ} (Some n) None = sym e ∙ p ∙ rw t in cc

    pub found_below : (n : ℕ) → r ≡ Some n → n < length fs
    found_below n e = by (ltb (position_or_len is_it fs) (length fs)) refl
      where
        by : (b : Bool) → ltb (position_or_len is_it fs) (length fs) ≡ b → n < length fs
        by true t =
            let z : ◌≡◌ {A = code.Option ℕ} (Some n) (Some (position_or_len is_it fs)) = sym e ∙ p ∙ rw t in
            let m : n ≡ position_or_len is_it fs = cc in
            let h = ltb-true (position_or_len is_it fs) (length fs) t in omega arith
        by false t = let z : ◌≡◌ {A = code.Option ℕ} (Some n) None = sym e ∙ p ∙ rw t in cc

-- where a number is wanted and 0 where there is none
pub number_found : (tail : Bytes) (fs : List Bytes) (r : code.Option ℕ) (n : ℕ) → given r ≡ place_with tail fs → n ≡ unwrap_or r 0 → n ≡ first_with tail fs
unfolding first_with or_zero
number_found tail fs None n e h = h ∙ ap or_zero e
number_found tail fs (Some m) n e h = h ∙ ap or_zero e
