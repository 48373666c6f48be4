-- One record more, entered into the first free slot from its own on: the index is one of all records then. One whose tail is there already is not entered.
-- Assumes nothing.
use Rattle.std.proofs.Common.{◌≡◌, ℕ, zero, suc, ◌+◌, ◌<◌, ◌≤◌, Bool, true, false, cond, ◌⊎◌, List, [], ◌∷◌, ◌++◌, length, drop, sym, refl, ap, ◌∙◌, subst, inl, inr, true≢false, arith, length-append}
use mathlib.Core.Option.{Option, none, some, map, none-ne-some}
use Rattle.lists.proofs.Folds.{All-append, All-parts, All-weaken}
use Rattle.texts.specs.Texts.{same}
use Rattle.texts.proofs.Sameness.{same_refl}
use Rattle.records.specs.Readers.{Bytes}
use Rattle.hashes.specs.Hashes.{hash_of}
use Rattle.tuple_search.specs.Search.{or_zero, place_with, first_with}
use Rattle.tuple_index.proofs.Found.{found_among}
use Rattle.tuple_index.specs.declared.Slot.{Slot}
use Rattle.tuple_index.specs.Index.{is_free, start_of, Right, Along, Indexed}
use Rattle.lists.specs.Lists.{All}

-- ---- the walk over more records

place-more : (t : Bytes) (fs gs : List Bytes) (n : ℕ) → place_with t fs ≡ some n → place_with t (fs ++ gs) ≡ some n
unfolding place_with
place-more t [] gs n e = absurd (none-ne-some n e)
place-more t (f ∷ fs) gs n e = by (λ m p. place-more t fs gs m p) (same (drop 5 f) t) e
  where
    deeper : ((m : ℕ) → place_with t fs ≡ some m → place_with t (fs ++ gs) ≡ some m) → (o : Option ℕ) → place_with t fs ≡ o → map suc o ≡ some n
        → map suc (place_with t (fs ++ gs)) ≡ some n
    deeper d (some m) p r = ap (map suc) (d m p) ∙ r
    deeper d none p r = absurd (none-ne-some n r)

    by : ((m : ℕ) → place_with t fs ≡ some m → place_with t (fs ++ gs) ≡ some m) → (b : Bool) → cond b (some 1) (map suc (place_with t fs)) ≡ some n
        → cond b (some 1) (map suc (place_with t (fs ++ gs))) ≡ some n
    by d true r = r
    by d false r = deeper d (place_with t fs) refl r

-- a number that was given stays
pub first_more : (t : Bytes) (fs gs : List Bytes) → 0 < first_with t fs → first_with t (fs ++ gs) ≡ first_with t fs
unfolding first_with or_zero
first_more t fs gs h = by (place_with t fs) refl h
  where
    by : (o : Option ℕ) → place_with t fs ≡ o → 0 < or_zero o → or_zero (place_with t (fs ++ gs)) ≡ or_zero (place_with t fs)
    by (some n) e h = ap or_zero (place-more t fs gs n e) ∙ sym (ap or_zero e)
    by none e h = absurd (omega arith)

-- a record with a tail that was not there is the first with it, and the last of all
place-new : (f : Bytes) (fs : List Bytes) → place_with (drop 5 f) fs ≡ none → place_with (drop 5 f) (fs ++ (f ∷ [])) ≡ some (suc (length fs))
unfolding place_with
place-new f [] e = rw (same_refl (drop 5 f))
place-new f (g ∷ fs) e = by (λ p. place-new f fs p) (same (drop 5 g) (drop 5 f)) e
  where
    deeper : (place_with (drop 5 f) fs ≡ none → place_with (drop 5 f) (fs ++ (f ∷ [])) ≡ some (suc (length fs))) → (o : Option ℕ) → place_with (drop 5 f) fs ≡ o
        → map suc o ≡ none → map suc (place_with (drop 5 f) (fs ++ (f ∷ []))) ≡ some (suc (suc (length fs)))
    deeper d none p r = ap (map suc) (d p)
    deeper d (some m) p r = absurd (none-ne-some (suc m) (sym r))

    by : (place_with (drop 5 f) fs ≡ none → place_with (drop 5 f) (fs ++ (f ∷ [])) ≡ some (suc (length fs))) → (b : Bool)
        → cond b (some 1) (map suc (place_with (drop 5 f) fs)) ≡ none
        → cond b (some 1) (map suc (place_with (drop 5 f) (fs ++ (f ∷ [])))) ≡ some (suc (suc (length fs)))
    by d true r = absurd (none-ne-some 1 (sym r))
    by d false r = deeper d (place_with (drop 5 f) fs) refl r

-- ---- a free slot that is taken

module _ (this : Slot → Type 0) (o s : Slot) (ys : List Slot) where
  along-set : is_free o ≡ true → (xs : List Slot) → Along this (xs ++ (o ∷ ys)) → Along this (xs ++ (s ∷ ys))
  along-set free [] a = absurd (true≢false (sym free ∙ a.0))
  along-set free (x ∷ xs) a = (a.0, by (λ r. along-set free xs r) a.1)
    where
      by : (Along this (xs ++ (o ∷ ys)) → Along this (xs ++ (s ∷ ys))) → this x ⊎ Along this (xs ++ (o ∷ ys)) → this x ⊎ Along this (xs ++ (s ∷ ys))
      by d (inl e) = inl e
      by d (inr r) = inr (d r)

  -- what stood along its slots still does, wherever these begin
  pub along-kept : is_free o ≡ true → (n : ℕ) (xs : List Slot) → Along this (drop n (xs ++ (o ∷ ys))) → Along this (drop n (xs ++ (s ∷ ys)))
  along-kept free zero xs a = along-set free xs a
  along-kept free (suc n) [] a = a
  along-kept free (suc n) (x ∷ xs) a = along-kept free n xs a

  -- and what is entered stands along its own
  pub along-here : (n : ℕ) (xs : List Slot) → n ≤ length xs → All (λ x. is_free x ≡ false) (drop n xs) → is_free s ≡ false → this s → Along this (drop n (xs ++ (s ∷ ys)))
  along-here zero [] l a f e = (f, inl e)
  along-here zero (x ∷ xs) l a f e = (a.0, inr (along-here zero xs (omega arith) a.1 f e))
  along-here (suc n) [] l a f e = absurd (omega arith)
  along-here (suc n) (x ∷ xs) l a f e = along-here n xs (omega arith) a f e

-- THE LAW of an entry
module _ (fs : List Bytes) (f : Bytes) (tail : Slot → Bytes) (xs : List Slot) (o s : Slot) (ys : List Slot) where
  still : (x : Slot) → Right fs tail x → Right (fs ++ (f ∷ [])) tail x
  still x r =
      record {
        hash = r.hash;
        number = r.number ∙ sym (first_more (tail x) fs (f ∷ []) r.stands);
        stands = subst (λ (n : ℕ). 0 < n) (sym (first_more (tail x) fs (f ∷ []) r.stands)) r.stands;
      }

  sized : length (xs ++ (o ∷ ys)) ≡ length (xs ++ (s ∷ ys))
  sized = length-append xs (o ∷ ys) ∙ sym (length-append xs (s ∷ ys))

  pub entered : Indexed fs tail (xs ++ (o ∷ ys)) → is_free o ≡ true → is_free s ≡ false → tail s ≡ drop 5 f → s.hash ≡ hash_of (drop 5 f) → s.number ≡ suc (length fs)
      → place_with (drop 5 f) fs ≡ none
      → start_of (length (xs ++ (o ∷ ys))) (hash_of (drop 5 f)) ≤ length xs
      → All (λ x. is_free x ≡ false) (drop (start_of (length (xs ++ (o ∷ ys))) (hash_of (drop 5 f))) xs)
      → Indexed (fs ++ (f ∷ [])) tail (xs ++ (s ∷ ys))
  unfolding first_with or_zero
  entered i free taken t h n new l a = record { sound = sound; complete = complete }
    where
      weak : All (λ x. is_free x ≡ false → Right (fs ++ (f ∷ [])) tail x) (xs ++ (o ∷ ys))
      weak = All-weaken (λ x. is_free x ≡ false → Right fs tail x) (λ x. is_free x ≡ false → Right (fs ++ (f ∷ [])) tail x) (λ x r e. still x (r e)) (xs ++ (o ∷ ys)) i.sound

      number_is : first_with (tail s) (fs ++ (f ∷ [])) ≡ suc (length fs)
      number_is = ap (λ (q : Bytes). first_with q (fs ++ (f ∷ []))) t ∙ ap or_zero (place-new f fs new)

      right : Right (fs ++ (f ∷ [])) tail s
      right = record { hash = h ∙ ap hash_of (sym t); number = n ∙ sym number_is; stands = subst (λ (k : ℕ). 0 < k) (sym number_is) (omega arith) }

      sound : All (λ x. is_free x ≡ false → Right (fs ++ (f ∷ [])) tail x) (xs ++ (s ∷ ys))
      sound =
          let p = All-parts (λ x. is_free x ≡ false → Right (fs ++ (f ∷ [])) tail x) xs (o ∷ ys) weak in
          All-append (λ x. is_free x ≡ false → Right (fs ++ (f ∷ [])) tail x) xs (s ∷ ys) p.0 ((λ e. right), p.1.1)

      old : All (λ g. Along (λ x. tail x ≡ drop 5 g) (drop (start_of (length (xs ++ (s ∷ ys))) (hash_of (drop 5 g))) (xs ++ (s ∷ ys)))) fs
      old =
          All-weaken (λ g. Along (λ x. tail x ≡ drop 5 g) (drop (start_of (length (xs ++ (o ∷ ys))) (hash_of (drop 5 g))) (xs ++ (o ∷ ys))))
          (λ g. Along (λ x. tail x ≡ drop 5 g) (drop (start_of (length (xs ++ (s ∷ ys))) (hash_of (drop 5 g))) (xs ++ (s ∷ ys))))
          (λ g r. subst (λ (m : ℕ). Along (λ x. tail x ≡ drop 5 g) (drop (start_of m (hash_of (drop 5 g))) (xs ++ (s ∷ ys)))) sized
          (along-kept (λ x. tail x ≡ drop 5 g) o s ys free (start_of (length (xs ++ (o ∷ ys))) (hash_of (drop 5 g))) xs r))
          fs i.complete

      own : Along (λ x. tail x ≡ drop 5 f) (drop (start_of (length (xs ++ (s ∷ ys))) (hash_of (drop 5 f))) (xs ++ (s ∷ ys)))
      own =
          subst (λ (m : ℕ). Along (λ x. tail x ≡ drop 5 f) (drop (start_of m (hash_of (drop 5 f))) (xs ++ (s ∷ ys)))) sized
          (along-here (λ x. tail x ≡ drop 5 f) o s ys (start_of (length (xs ++ (o ∷ ys))) (hash_of (drop 5 f))) xs l a taken t)

      complete : All (λ g. Along (λ x. tail x ≡ drop 5 g) (drop (start_of (length (xs ++ (s ∷ ys))) (hash_of (drop 5 g))) (xs ++ (s ∷ ys)))) (fs ++ (f ∷ []))
      complete = All-append (λ g. Along (λ x. tail x ≡ drop 5 g) (drop (start_of (length (xs ++ (s ∷ ys))) (hash_of (drop 5 g))) (xs ++ (s ∷ ys)))) fs (f ∷ []) old (own, tt)

  -- one whose tail is there already: nothing is entered
  pub repeated : (ss : List Slot) → Indexed fs tail ss → (n : ℕ) → place_with (drop 5 f) fs ≡ some n → Indexed (fs ++ (f ∷ [])) tail ss
  repeated ss i n e =
      record {
        sound = All-weaken (λ x. is_free x ≡ false → Right fs tail x) (λ x. is_free x ≡ false → Right (fs ++ (f ∷ [])) tail x) (λ x r e. still x (r e)) ss i.sound;
        complete =
            All-append (λ g. Along (λ x. tail x ≡ drop 5 g) (drop (start_of (length ss) (hash_of (drop 5 g))) ss)) fs (f ∷ []) i.complete
            (found_among (λ t. Along (λ x. tail x ≡ t) (drop (start_of (length ss) (hash_of t)) ss)) (drop 5 f) fs i.complete n e, tt);
      }

-- ---- no entry yet

all-free : (fs : List Bytes) (tail : Slot → Bytes) (ss : List Slot) → All (λ x. is_free x ≡ true) ss → All (λ x. is_free x ≡ false → Right fs tail x) ss
all-free fs tail [] a = tt
all-free fs tail (x ∷ ss) a = ((λ e. absurd (true≢false (sym a.0 ∙ e))), all-free fs tail ss a.1)

pub none_yet : (tail : Slot → Bytes) (ss : List Slot) → All (λ x. is_free x ≡ true) ss → Indexed [] tail ss
none_yet tail ss a = record { sound = all-free [] tail ss a; complete = tt }

-- ---- an index of the first records only: where it has nothing, the walk goes over the others

pub place-behind : (t : Bytes) (fs gs : List Bytes) → place_with t fs ≡ none → place_with t (fs ++ gs) ≡ map (λ n. length fs + n) (place_with t gs)
unfolding place_with
place-behind t [] gs e = id-map (place_with t gs)
  where
    id-map : (o : Option ℕ) → o ≡ map (λ n. 0 + n) o
    id-map none = refl
    id-map (some n) = ap some (let z : n ≡ 0 + n = omega arith in z)
place-behind t (f ∷ fs) gs e = by (λ p. place-behind t fs gs p) (same (drop 5 f) t) e
  where
    once : (o : Option ℕ) → map suc (map (λ n. length fs + n) o) ≡ map (λ n. suc (length fs) + n) o
    once none = refl
    once (some n) = ap some (let z : suc (length fs + n) ≡ suc (length fs) + n = omega arith in z)

    deeper : (place_with t fs ≡ none → place_with t (fs ++ gs) ≡ map (λ n. length fs + n) (place_with t gs)) → (o : Option ℕ) → place_with t fs ≡ o → map suc o ≡ none
        → map suc (place_with t (fs ++ gs)) ≡ map (λ n. suc (length fs) + n) (place_with t gs)
    deeper d none p r = ap (map suc) (d p) ∙ once (place_with t gs)
    deeper d (some m) p r = absurd (none-ne-some (suc m) (sym r))

    by : (place_with t fs ≡ none → place_with t (fs ++ gs) ≡ map (λ n. length fs + n) (place_with t gs)) → (b : Bool)
        → cond b (some 1) (map suc (place_with t fs)) ≡ none
        → cond b (some 1) (map suc (place_with t (fs ++ gs))) ≡ map (λ n. suc (length fs) + n) (place_with t gs)
    by d true r = absurd (none-ne-some 1 (sym r))
    by d false r = deeper d (place_with t fs) refl r
