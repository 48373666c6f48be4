-- The search along the slots finds what the walk over all records finds, and nothing where it finds nothing.
-- Assumes nothing.
use Rattle.std.proofs.Common.{◌≡◌, ℕ, zero, suc, Bool, true, false, cond, eqb, ◌⊎◌, List, [], ◌∷◌, length, drop, sym, refl, ap, ◌∙◌, subst, inl, inr, ⊎_elim, true≢false}
use mathlib.Core.Option.{Option, none, some, map, none-ne-some}
use borrow.Author.Tests.{eq-eqb}
use Rattle.std.proofs.lemmas.Bool.{and_parts, and_from}
use Rattle.texts.specs.Texts.{same}
use Rattle.texts.proofs.Sameness.{same_refl, same-eq}
use Rattle.records.specs.Readers.{Bytes}
use Rattle.hashes.specs.Hashes.{hash_of}
use Rattle.tuple_search.specs.Search.{or_zero, place_with, first_with}
use Rattle.tuple_index.specs.declared.Slot.{Slot}
use Rattle.tuple_index.specs.Index.{is_free, start_of, passes_by, seek, Right, Along, Indexed}
use Rattle.lists.specs.Lists.{All}

module _ (fs : List Bytes) (tail : Slot → Bytes) (q : Bytes) where
  -- a slot that passes says the number that the walk gives
  passes : (s : Slot) → Right fs tail s → passes_by none tail (hash_of q) q s ≡ true → s.number ≡ first_with q fs
  passes s r h =
      let e : tail s ≡ q = same-eq (tail s) q (and_parts (eqb s.hash (hash_of q)) (same (tail s) q) h).1 in
      r.number ∙ ap (λ (t : Bytes). first_with t fs) e

  -- one with this tail passes
  passing-one : (s : Slot) → Right fs tail s → tail s ≡ q → passes_by none tail (hash_of q) q s ≡ true
  passing-one s r e =
      and_from (eqb s.hash (hash_of q)) (same (tail s) q)
      (ap (λ (h : ℕ). eqb h (hash_of q)) (r.hash ∙ ap hash_of e) ∙ eq-eqb (hash_of q) (hash_of q) refl)
      (ap (λ (t : Bytes). same t q) e ∙ same_refl q)

  -- whatever the slots are: nothing, or what the walk gives
  pub seek-right : (ss : List Slot) → All (λ s. is_free s ≡ false → Right fs tail s) ss
      → (seek (passes_by none tail (hash_of q) q) ss ≡ 0) ⊎ (seek (passes_by none tail (hash_of q) q) ss ≡ first_with q fs)
  unfolding seek
  seek-right [] a = inl refl
  seek-right (s ∷ ss) a = by (seek-right ss a.1) (is_free s) refl
    where
      Rest : Type 0
      Rest = (seek (passes_by none tail (hash_of q) q) ss ≡ 0) ⊎ (seek (passes_by none tail (hash_of q) q) ss ≡ first_with q fs)

      or : Rest → (h : Bool) → is_free s ≡ false → passes_by none tail (hash_of q) q s ≡ h
          → (cond h s.number (seek (passes_by none tail (hash_of q) q) ss) ≡ 0) ⊎ (cond h s.number (seek (passes_by none tail (hash_of q) q) ss) ≡ first_with q fs)
      or d true f e = inr (passes s (a.0 f) e)
      or d false f e = d

      by : Rest → (b : Bool) → is_free s ≡ b
          → (cond b 0 (cond (passes_by none tail (hash_of q) q s) s.number (seek (passes_by none tail (hash_of q) q) ss)) ≡ 0) ⊎ (cond b 0 (cond (passes_by none tail (hash_of q) q s) s.number (seek (passes_by none tail (hash_of q) q) ss)) ≡ first_with q fs)
      by d true e = inl refl
      by d false e = or d (passes_by none tail (hash_of q) q s) e refl

  -- where one with this tail stands behind slots that are not free: what the walk gives
  pub seek-along : (ss : List Slot) → All (λ s. is_free s ≡ false → Right fs tail s) ss → Along (λ s. tail s ≡ q) ss → seek (passes_by none tail (hash_of q) q) ss ≡ first_with q fs
  unfolding seek
  seek-along [] a l = absurd l
  seek-along (s ∷ ss) a l = rw l.0 (by (λ r. seek-along ss a.1 r) (passes_by none tail (hash_of q) q s) refl l.1)
    where
      by : (Along (λ s. tail s ≡ q) ss → seek (passes_by none tail (hash_of q) q) ss ≡ first_with q fs) → (h : Bool) → passes_by none tail (hash_of q) q s ≡ h → (tail s ≡ q) ⊎ Along (λ s. tail s ≡ q) ss
          → cond h s.number (seek (passes_by none tail (hash_of q) q) ss) ≡ first_with q fs
      by d true p c = passes s (a.0 l.0) p
      by d false p (inl e) = absurd (true≢false (sym (passing-one s (a.0 l.0) e) ∙ p))
      by d false p (inr r) = d r

abbrev is_some : Option ℕ → ℕ
is_some none = 0
is_some (some m) = 1

-- what is true of all tails of a list is true of one that is found in it
pub found_among : (P : Bytes → Type 0) (q : Bytes) (fs : List Bytes) → All (λ f. P (drop 5 f)) fs → (n : ℕ) → place_with q fs ≡ some n → P q
unfolding place_with
found_among P q [] a n e = absurd (none-ne-some n e)
found_among P q (f ∷ fs) a n e = by (λ m p. found_among P q fs a.1 m p) (same (drop 5 f) q) refl e
  where
    deeper : ((m : ℕ) → place_with q fs ≡ some m → P q) → (o : Option ℕ) → place_with q fs ≡ o → map suc o ≡ some n → P q
    deeper d (some m) p r = d m p
    deeper d none p r = absurd (none-ne-some n r)

    by : ((m : ℕ) → place_with q fs ≡ some m → P q) → (b : Bool) → same (drop 5 f) q ≡ b → cond b (some 1) (map suc (place_with q fs)) ≡ some n → P q
    by d true p r = subst P (same-eq (drop 5 f) q p) a.0
    by d false p r = deeper d (place_with q fs) refl r

pub All-drop : {A : Type 0} (p : A → Type 0) (n : ℕ) (xs : List A) → All p xs → All p (drop n xs)
All-drop p zero xs a = a
All-drop p (suc n) [] a = tt
All-drop p (suc n) (x ∷ xs) a = All-drop p n xs a.1

-- THE LAW of the index: the search from the slot of its number on is the walk, for a text that is there and for one that is not
pub found-is : (fs : List Bytes) (tail : Slot → Bytes) (ss : List Slot) → Indexed fs tail ss → (q : Bytes)
    → seek (passes_by none tail (hash_of q) q) (drop (start_of (length ss) (hash_of q)) ss) ≡ first_with q fs
unfolding first_with or_zero
found-is fs tail ss i q = by (place_with q fs) refl
  where
    from : List Slot
    from = drop (start_of (length ss) (hash_of q)) ss

    right : All (λ s. is_free s ≡ false → Right fs tail s) from
    right = All-drop (λ s. is_free s ≡ false → Right fs tail s) (start_of (length ss) (hash_of q)) ss i.sound

    by : (o : Option ℕ) → place_with q fs ≡ o → seek (passes_by none tail (hash_of q) q) from ≡ first_with q fs
    by (some n) e = seek-along fs tail q from right (found_among (λ t. Along (λ s. tail s ≡ t) (drop (start_of (length ss) (hash_of t)) ss)) q fs i.complete n e)
    by none e =
        let z : first_with q fs ≡ 0 = ap or_zero e in
        ⊎_elim (λ (p : seek (passes_by none tail (hash_of q) q) from ≡ 0). p ∙ sym z) (λ (p : seek (passes_by none tail (hash_of q) q) from ≡ first_with q fs). p) (seek-right fs tail q from right)
