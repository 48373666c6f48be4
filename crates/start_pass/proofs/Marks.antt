-- A set that grows place by place: what is marked by it, and that it has as many bits.
-- Assumes nothing.
use Prim.Native.Nat.{ℕ, zero, suc, ◌+◌, ◌-◌, ◌^◌, ◌≤◌, ◌<◌}
use native.Mathlib.Omega.{arith}
use native.Mathlib.Nat.{zero-add, add-zero, add_comm, one-mul, pow-zero}
use native.Mathlib.Numerals.{add-one}
use lib.ListN.{length, take, get_or, length-append}
use lib.Seq.{take-suc, length-take-le}
use mathlib.Core.Path.{◌≡◌, refl, ap, ap₂, sym, ◌∙◌}
use mathlib.Core.Bool.{Bool, true, false, cond}
use mathlib.Core.List.{List, [], ◌∷◌, ◌++◌, map, map-append, append_assoc, append-nil}
use Rattle.lists.specs.Lists.{only_if, All}
use Rattle.lists.proofs.Folds.{length-only_if, map-only_if, All-append, All-only_if}
use Rattle.output_stores.specs.Stores.{in_mask}
use Rattle.constraints.proofs.Bits.{below_next}
use Rattle.start_places.specs.StartPass.{marked, Places}
use Rattle.std.specs.Prelude.{count_ones}
use Rattle.std.specs.Int.Count.{ones}
use Rattle.std.proofs.lemmas.Nat.{ones_cat}
use Rattle.start_pass.proofs.Bits.{past-low, with-below, with-here}

-- ---- the members

module _ {A : Type 0} where
  -- those of two lists, one behind the other
  pub marked_append : (m k : ℕ) (xs ys : List A) → marked m k (xs ++ ys) ≡ marked m k xs ++ marked m (k + length xs) ys
  unfolding marked
  marked_append m k [] ys = ap (λ (n : ℕ). marked m n ys) (sym (add-zero k))
  marked_append m k (x ∷ xs) ys =
      let e : suc k + length xs ≡ k + suc (length xs) = omega arith in
      ap (λ (l : List A). only_if (in_mask m k) (x ∷ []) ++ l) (marked_append m (suc k) xs ys ∙ ap (λ (n : ℕ). marked m (suc k) xs ++ marked m n ys) e)
      ∙ sym (append_assoc (only_if (in_mask m k) (x ∷ [])) (marked m (suc k) xs) (marked m (k + suc (length xs)) ys))

  -- by two sets that have the same of these places
  pub marked-same : (m n k : ℕ) (xs : List A) → ((i : ℕ) → i < k + length xs → in_mask m i ≡ in_mask n i) → marked m k xs ≡ marked n k xs
  unfolding marked
  marked-same m n k [] h = refl
  marked-same m n k (x ∷ xs) h =
      ap₂ {C = List A} (λ (b : Bool) (l : List A). only_if b (x ∷ []) ++ l) (h k (omega arith)) (marked-same m n (suc k) xs (λ i l. h i (omega arith)))

  -- one more of them
  pub marked_next : (m : ℕ) (xs : List A) (j : ℕ) (d : A) → j < length xs
      → marked m 0 (take (j + 1) xs) ≡ marked m 0 (take j xs) ++ only_if (in_mask m j) (get_or xs j d ∷ [])
  marked_next m xs j d h =
      let k : 0 + length (take j xs) ≡ j = zero-add (length (take j xs)) ∙ length-take-le j xs (omega arith) in
      ap (marked m 0) (ap (λ (n : ℕ). take n xs) (add-one j) ∙ take-suc xs j d h)
      ∙ marked_append m 0 (take j xs) (get_or xs j d ∷ [])
      ∙ ap (λ (n : ℕ). marked m 0 (take j xs) ++ marked m n (get_or xs j d ∷ [])) k
      ∙ unfold marked in (ap (λ (l : List A). marked m 0 (take j xs) ++ l) (append-nil (only_if (in_mask m j) (get_or xs j d ∷ []))))

  pub marked-map : {B : Type 0} (f : A → B) (m k : ℕ) (xs : List A) → marked m k (map f xs) ≡ map f (marked m k xs)
  unfolding marked
  marked-map f m k [] = refl
  marked-map f m k (x ∷ xs) =
      ap₂ {C = List _} ◌++◌ (map-only_if f (in_mask m k) x) (marked-map f m (suc k) xs) ∙ sym (map-append f (only_if (in_mask m k) (x ∷ [])) (marked m (suc k) xs))

  -- what holds of all holds of these
  pub All-marked : (p : A → Type 0) (m k : ℕ) (xs : List A) → All p xs → All p (marked m k xs)
  unfolding marked
  All-marked p m k [] a = tt
  All-marked p m k (x ∷ xs) a =
      All-append p (only_if (in_mask m k) (x ∷ [])) (marked m (suc k) xs) (All-only_if p (in_mask m k) x a.0) (All-marked p m (suc k) xs a.1)

-- ---- how many

-- of the first n places
unfoldable pub count_to : (mask n : ℕ) → ℕ
count_to m zero = 0
count_to m (suc n) = count_to m n + cond (in_mask m n) 1 0

count_same : (a b n : ℕ) → ((i : ℕ) → i < n → in_mask a i ≡ in_mask b i) → count_to a n ≡ count_to b n
unfolding count_to
count_same a b zero h = refl
count_same a b (suc n) h = ap₂ (λ (x : ℕ) (t : Bool). x + cond t 1 0) (count_same a b n (λ i l. h i (omega arith))) (h n (omega arith))

count_past : (m k n : ℕ) → ((i : ℕ) → k ≤ i → in_mask m i ≡ false) → count_to m (k + n) ≡ count_to m k
unfolding count_to
count_past m k zero h = ap (count_to m) (add-zero k)
count_past m k (suc n) h =
    let e : k + suc n ≡ suc (k + n) = omega arith in
    ap (count_to m) e ∙ rw (h (k + n) (omega arith), add-zero (count_to m (k + n))) (count_past m k n h)

marked-length : {A : Type 0} (m k : ℕ) (xs : List A) → length (marked m k xs) + count_to m k ≡ count_to m (k + length xs)
unfolding marked count_to
marked-length m k [] = zero-add (count_to m k) ∙ ap (count_to m) (sym (add-zero k))
marked-length m k (x ∷ xs) =
    let e : suc k + length xs ≡ k + suc (length xs) = omega arith in
    let l : length (only_if (in_mask m k) (x ∷ []) ++ marked m (suc k) xs) ≡ cond (in_mask m k) 1 0 + length (marked m (suc k) xs) =
    length-append (only_if (in_mask m k) (x ∷ [])) (marked m (suc k) xs) ∙ ap (λ (n : ℕ). n + length (marked m (suc k) xs)) (length-only_if (in_mask m k) (x ∷ [])) in
    let r : length (marked m (suc k) xs) + (count_to m k + cond (in_mask m k) 1 0) ≡ count_to m (suc k + length xs) = marked-length m (suc k) xs in
    let s : length (only_if (in_mask m k) (x ∷ []) ++ marked m (suc k) xs) + count_to m k ≡ length (marked m (suc k) xs) + (count_to m k + cond (in_mask m k) 1 0) = omega arith in
    s ∙ r ∙ ap (count_to m) e

-- ---- the walk

one_bit : count_ones 1 ≡ 1
unfolding ones
one_bit = refl

-- a bit above the others is one more
ones_on : (mask j : ℕ) → mask < 2 ^ j → (here : Bool) → count_ones (mask + cond here (2 ^ j) 0) ≡ count_ones mask + cond here 1 0
ones_on mask j low false = ap count_ones (add-zero mask) ∙ sym (add-zero (count_ones mask))
ones_on mask j low true =
    ap count_ones (add_comm mask (2 ^ j) ∙ ap (λ (n : ℕ). n + mask) (sym (one-mul (2 ^ j))))
    ∙ ones_cat j 1 mask low
    ∙ ap (λ (n : ℕ). n + count_ones mask) one_bit
    ∙ add_comm 1 (count_ones mask)

-- the first j places are decided
pub record Grown (mask j : ℕ) : Type 0 where
  pub few : j ≤ 32
  pub low : mask < 2 ^ j
  pub counts : count_ones mask ≡ count_to mask j

pub grown-none : Grown 0 0
unfolding count_to ones
grown-none = record { few = omega arith; low = rw (pow-zero 2) (omega arith); counts = refl }

module _ (mask j : ℕ) (g : Grown mask j) where
  pub grown-places : {A : Type 0} (xs : List A) → j ≤ length xs → Places xs mask
  unfolding count_to
  grown-places xs h =
      let e : j + (length xs - j) ≡ length xs = omega arith in
      let past : (i : ℕ) → j ≤ i → in_mask mask i ≡ false = past-low mask j g.low in
      let n : length (marked mask 0 xs) ≡ count_to mask j =
      sym (add-zero (length (marked mask 0 xs))) ∙ marked-length mask 0 xs ∙ ap (count_to mask) (zero-add (length xs) ∙ sym e) ∙ count_past mask j (length xs - j) past in
      record { past = λ i l. past i (omega arith); counted = g.counts ∙ sym n }

  module _ (l : j ≤ 31) (here : Bool) (mask2 : ℕ) (is : mask2 ≡ mask + cond here (2 ^ j) 0) where
    -- the places before keep what they were, and this one is in where it is to be
    pub as_before : (i : ℕ) → i < j → in_mask mask2 i ≡ in_mask mask i
    as_before i h = ap (λ (n : ℕ). in_mask n i) is ∙ with-below mask j g.low here i h

    pub decided : in_mask mask2 j ≡ here
    decided = ap (λ (n : ℕ). in_mask n j) is ∙ with-here mask j g.low here

    pub grown-on : Grown mask2 (j + 1)
    unfolding count_to
    grown-on =
        record {
          few = omega arith;
          low = rw is (below_next j mask here g.low);
          counts = ap count_ones is ∙ ones_on mask j g.low here ∙ ap₂ (λ (x y : ℕ). x + y) (g.counts ∙ sym (count_same mask2 mask j as_before)) (ap (λ (b : Bool). cond b 1 0) (sym decided))
              ∙ sym (ap (count_to mask2) (add-one j));
        }

    -- THE MEMBERS so far, and this one
    pub marked-on : {A : Type 0} (xs : List A) (d : A) → j < length xs
        → marked mask2 0 (take (j + 1) xs) ≡ marked mask 0 (take j xs) ++ only_if here (get_or xs j d ∷ [])
    marked-on {A} xs d h =
        marked_next mask2 xs j d h
        ∙ ap₂ {C = List A} ◌++◌ (marked-same mask2 mask 0 (take j xs) (λ i q. as_before i (let t = length-take-le j xs (omega arith) in omega arith)))
        (ap (λ (b : Bool). only_if b (get_or xs j d ∷ [])) decided)
