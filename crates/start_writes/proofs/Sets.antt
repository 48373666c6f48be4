-- The members of a list whose places are in a set: with one more, and of two lists that are as long. All by induction on the list.
-- Assumes nothing.
use Prim.Native.Nat.{ℕ, zero, suc, ◌+◌, ◌≤◌, ◌<◌}
use native.Mathlib.Nat.{zero-add, add-zero}
use native.Mathlib.Numerals.{add-one}
use native.Mathlib.Omega.{arith}
use lib.ListN.{length, take, get_or, length-append, length-map}
use mathlib.Core.Path.{◌≡◌, refl, ap, ap₂, sym, ◌∙◌}
use mathlib.Core.Bool.{Bool, true, false, cond}
use mathlib.Core.List.{List, [], ◌∷◌, ◌++◌, map, flat_map, append_assoc, append-nil}
use Rattle.lists.specs.Lists.{only_if, All}
use Rattle.lists.proofs.Folds.{length-only_if, length-snoc, flat_map-of-map}
use Rattle.output_stores.specs.Stores.{in_mask}
use Rattle.start_places.specs.StartPass.{marked}
use Rattle.start_pass.proofs.Marks.{marked_append, marked_next, marked-map, All-marked}
use Rattle.start_writes.specs.Writes.{places}

-- ---- one more member

pub marked-snoc : {A : Type 0} (m k : ℕ) (xs : List A) (x : A) → length xs ≡ k
    → marked m 0 (xs ++ (x ∷ [])) ≡ marked m 0 xs ++ only_if (in_mask m k) (x ∷ [])
unfolding marked
marked-snoc m k xs x e =
    marked_append m 0 xs (x ∷ [])
    ∙ ap (λ (i : ℕ). marked m 0 xs ++ (only_if (in_mask m i) (x ∷ []) ++ [])) (zero-add (length xs) ∙ e)
    ∙ ap (λ (z : List _). marked m 0 xs ++ z) (append-nil (only_if (in_mask m k) (x ∷ [])))

-- where `b` says whether the next one is in the set
module _ {A : Type 0} (m : ℕ) (xs : List A) (j : ℕ) (d : A) (b : Bool) (h : j < length xs) (e : b ≡ in_mask m j) where
  pub up_to : marked m 0 (take (j + 1) xs) ≡ marked m 0 (take j xs) ++ only_if b (get_or xs j d ∷ [])
  up_to = marked_next m xs j d h ∙ ap (λ (t : Bool). marked m 0 (take j xs) ++ only_if t (get_or xs j d ∷ [])) (sym e)

  pub count-up-to : length (marked m 0 (take (j + 1) xs)) ≡ length (marked m 0 (take j xs)) + cond b 1 0
  count-up-to =
      ap length up_to
      ∙ length-append (marked m 0 (take j xs)) (only_if b (get_or xs j d ∷ []))
      ∙ ap (λ (k : ℕ). length (marked m 0 (take j xs)) + k) (length-only_if b (get_or xs j d ∷ []))

-- ---- how many

pub length_marked : {A : Type 0} (m j : ℕ) (xs : List A) → length (marked m j xs) ≤ length xs
unfolding marked
length_marked m j [] = omega arith
length_marked m j (x ∷ xs) =
    let o = only_if (in_mask m j) (x ∷ []) in
    by (in_mask m j) (length-append o (marked m (suc j) xs) ∙ ap (λ (n : ℕ). n + length (marked m (suc j) xs)) (length-only_if (in_mask m j) (x ∷ [])))
    (length_marked m (suc j) xs)
  where
    by : {n k l : ℕ} (b : Bool) → n ≡ cond b 1 0 + k → k ≤ l → n ≤ suc l
    by true e h = omega arith
    by false e h = omega arith

-- ---- the places themselves

pub length-places : (k : ℕ) → length (places k) ≡ k
unfolding places
length-places zero = refl
length-places (suc k) = length-snoc (places k) k ∙ ap suc (length-places k)

pub places-next : (m j : ℕ) → marked m 0 (places (j + 1)) ≡ marked m 0 (places j) ++ only_if (in_mask m j) (j ∷ [])
unfolding places
places-next m j = ap (λ (k : ℕ). marked m 0 (places k)) (add-one j) ∙ marked-snoc m j (places j) j (length-places j)

-- ---- a list whose members know their places

-- each member with its place, counted from j on
unfoldable pub indexed : {A : Type 0} → (j : ℕ) → List A → List (ℕ × A)
indexed j [] = []
indexed j (x ∷ xs) = (j, x) ∷ indexed (suc j) xs

module _ {A : Type 0} where
  pub members-of-indexed : (j : ℕ) (xs : List A) → map (λ (p : ℕ × A). p.1) (indexed j xs) ≡ xs
  unfolding indexed
  members-of-indexed j [] = refl
  members-of-indexed j (x ∷ xs) = ap (λ (z : List A). x ∷ z) (members-of-indexed (suc j) xs)

  places-from : (j : ℕ) (xs : List A) → places j ++ map (λ (p : ℕ × A). p.0) (indexed j xs) ≡ places (j + length xs)
  unfolding indexed places
  places-from j [] = append-nil (places j) ∙ ap places (sym (add-zero j))
  places-from j (x ∷ xs) =
      let n : suc j + length xs ≡ j + suc (length xs) = omega arith in
      sym (append_assoc (places j) (j ∷ []) (map (λ (p : ℕ × A). p.0) (indexed (suc j) xs)))
      ∙ places-from (suc j) xs
      ∙ ap places n

  pub places-of-indexed : (xs : List A) → map (λ (p : ℕ × A). p.0) (indexed 0 xs) ≡ places (length xs)
  unfolding places
  places-of-indexed xs = places-from 0 xs ∙ ap places (zero-add (length xs))

flat-alike : {A B : Type 0} (f g : A → List B) (xs : List A) → All (λ (x : A). f x ≡ g x) xs → flat_map f xs ≡ flat_map g xs
unfolding flat_map
flat-alike f g [] a = refl
flat-alike f g (x ∷ xs) a = ap₂ {C = List _} ◌++◌ a.0 (flat-alike f g xs a.1)

-- THE SAME SET OF TWO LISTS AS LONG: the marked places are those of the marked members.
module _ {A : Type 0} (m k : ℕ) (os : List A) (w : length os ≡ k) where
  pub marked-places : marked m 0 (places k) ≡ map (λ (p : ℕ × A). p.0) (marked m 0 (indexed 0 os))
  marked-places =
      ap (λ (i : ℕ). marked m 0 (places i)) (sym w)
      ∙ ap (marked m 0) (sym (places-of-indexed os))
      ∙ marked-map (λ (p : ℕ × A). p.0) m 0 (indexed 0 os)

  pub marked-members : marked m 0 os ≡ map (λ (p : ℕ × A). p.1) (marked m 0 (indexed 0 os))
  marked-members = ap (marked m 0) (sym (members-of-indexed 0 os)) ∙ marked-map (λ (p : ℕ × A). p.1) m 0 (indexed 0 os)

  pub places-marked : length (marked m 0 (places k)) ≡ length (marked m 0 os)
  places-marked =
      ap length marked-places
      ∙ length-map (marked m 0 (indexed 0 os)) (λ (p : ℕ × A). p.0)
      ∙ sym (ap length marked-members ∙ length-map (marked m 0 (indexed 0 os)) (λ (p : ℕ × A). p.1))

  -- what is made of the marked places, one behind the other, with the members at them
  pub flat-places : {B : Type 0} (f : ℕ → List B) → flat_map f (marked m 0 (places k)) ≡ flat_map (λ (p : ℕ × A). f p.0) (marked m 0 (indexed 0 os))
  flat-places f = ap (flat_map f) marked-places ∙ flat_map-of-map f (λ (p : ℕ × A). p.0) (marked m 0 (indexed 0 os))

  -- and of the marked members, where that is the same at every place
  pub flat-members : {B : Type 0} (f : ℕ → List B) (g : A → List B) → All (λ (p : ℕ × A). f p.0 ≡ g p.1) (indexed 0 os)
      → flat_map f (marked m 0 (places k)) ≡ flat_map g (marked m 0 os)
  flat-members f g a =
      flat-places f
      ∙ flat-alike (λ (p : ℕ × A). f p.0) (λ (p : ℕ × A). g p.1) (marked m 0 (indexed 0 os)) (All-marked _ m 0 (indexed 0 os) a)
      ∙ sym (ap (flat_map g) marked-members ∙ flat_map-of-map g (λ (p : ℕ × A). p.1) (marked m 0 (indexed 0 os)))
