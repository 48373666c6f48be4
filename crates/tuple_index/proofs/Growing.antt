-- A store that grows: a slot points at a whole record, so what it points at stays. A table that covers the front of a store covers it whatever comes behind.
-- Assumes nothing.
use Rattle.std.proofs.Common.{◌≡◌, ℕ, ◌+◌, ◌-◌, ◌*◌, ◌<◌, Bool, true, false, leb, ◌⊎◌, List, [], ◌∷◌, ◌++◌, length, drop, sym, refl, ap, ◌∙◌, subst, ap₂, inl, inr, append_assoc, arith, length-append, leb-false, leb-true}
use lib.ListN.{get_or-append}
use Rattle.lists.specs.Lists.{part, All}
use Rattle.lists.proofs.Folds.{All-weaken}
use Rattle.numbers.specs.Numbers.{two}
use Rattle.records.specs.Readers.{Bytes}
use Rattle.hashes.specs.Hashes.{hash_of}
use Rattle.session_spec.specs.Definitions.{frame}
use Rattle.output_stores.specs.Stores.{standing}
use Rattle.tuple_search.specs.Search.{first_with}
use Rattle.tuple_index.specs.declared.Slot.{Slot}
use Rattle.tuple_index.specs.Index.{is_free, start_of, Right, Along, Indexed}
use Rattle.tuple_index.specs.Covers.{tail_in, Inside, Covered, Covers}
use Rattle.tuple_index.proofs.Found.{All-drop}
use Rattle.lists.proofs.Writes.{part-front}

-- ---- bytes at the front

two-front : (xs ys : Bytes) (i : ℕ) → i + 1 < length xs → two (xs ++ ys) i ≡ two xs i
unfolding two
two-front xs ys i l = ap₂ (λ (a b : ℕ). a + 256 * b) (get_or-append xs ys 0 i (omega arith)) (get_or-append xs ys 0 (i + 1) l)

part_none : (xs : Bytes) (at w : ℕ) → w ≡ 0 → part xs at w ≡ []
part_none xs at w e = ap (λ (k : ℕ). part xs at k) e

module _ (xs ys : Bytes) (s : Slot) (i : Inside xs s) where
  stated : two (xs ++ ys) (s.place + 1) ≡ two xs (s.place + 1)
  stated = two-front xs ys (s.place + 1) (let j = i in omega arith)

  pub inside-stays : Inside (xs ++ ys) s
  inside-stays = let j = i in let e = stated in let l = length-append xs ys in omega arith

  pub tail-stays : (skip : ℕ) → tail_in (xs ++ ys) skip s ≡ tail_in xs skip s
  tail-stays skip =
      let t : ℕ = two xs (s.place + 1) in
      ap (λ (k : ℕ). part (xs ++ ys) (s.place + skip) (k + 3 - skip)) stated ∙ by (leb skip (t + 3)) refl
    where
      by : (b : Bool) → leb skip (two xs (s.place + 1) + 3) ≡ b
          → part (xs ++ ys) (s.place + skip) (two xs (s.place + 1) + 3 - skip) ≡ part xs (s.place + skip) (two xs (s.place + 1) + 3 - skip)
      by true e =
          let l = leb-true skip (two xs (s.place + 1) + 3) e in
          let j = i in
          part-front xs ys (s.place + skip) (two xs (s.place + 1) + 3 - skip) (omega arith)
      by false e =
          let l = leb-false skip (two xs (s.place + 1) + 3) e in
          let z : two xs (s.place + 1) + 3 - skip ≡ 0 = omega arith in
          part_none (xs ++ ys) (s.place + skip) (two xs (s.place + 1) + 3 - skip) z
          ∙ sym (part_none xs (s.place + skip) (two xs (s.place + 1) + 3 - skip) z)

-- ---- an index by other tails that are the same where slots are taken

module _ (fs : List Bytes) (tail tail' : Slot → Bytes) where
  Alike : Slot → Type 0
  Alike s = is_free s ≡ false → tail' s ≡ tail s

  right-alike : (s : Slot) → tail' s ≡ tail s → Right fs tail s → Right fs tail' s
  right-alike s e r =
      record {
        hash = r.hash ∙ ap hash_of (sym e);
        number = r.number ∙ ap (λ (t : Bytes). first_with t fs) (sym e);
        stands = subst (λ (t : Bytes). 0 < first_with t fs) (sym e) r.stands;
      }

  sound-alike : (ss : List Slot) → All (λ s. is_free s ≡ false → tail' s ≡ tail s) ss → All (λ s. is_free s ≡ false → Right fs tail s) ss → All (λ s. is_free s ≡ false → Right fs tail' s) ss
  sound-alike [] a b = tt
  sound-alike (s ∷ ss) a b = ((λ e. right-alike s (a.0 e) (b.0 e)), sound-alike ss a.1 b.1)

  along-alike : (q : Bytes) (ss : List Slot) → All (λ s. is_free s ≡ false → tail' s ≡ tail s) ss → Along (λ s. tail s ≡ q) ss → Along (λ s. tail' s ≡ q) ss
  along-alike q [] a l = l
  along-alike q (s ∷ ss) a l = (l.0, by (λ r. along-alike q ss a.1 r) l.1)
    where
      by : (Along (λ s. tail s ≡ q) ss → Along (λ s. tail' s ≡ q) ss) → (tail s ≡ q) ⊎ Along (λ s. tail s ≡ q) ss → (tail' s ≡ q) ⊎ Along (λ s. tail' s ≡ q) ss
      by d (inl e) = inl (a.0 l.0 ∙ e)
      by d (inr r) = inr (d r)

  index-alike : (ss : List Slot) → All (λ s. is_free s ≡ false → tail' s ≡ tail s) ss → Indexed fs tail ss → Indexed fs tail' ss
  index-alike ss a i =
      record {
        sound = sound-alike ss a i.sound;
        complete =
            All-weaken (λ f. Along (λ s. tail s ≡ drop 5 f) (drop (start_of (length ss) (hash_of (drop 5 f))) ss))
            (λ f. Along (λ s. tail' s ≡ drop 5 f) (drop (start_of (length ss) (hash_of (drop 5 f))) ss))
            (λ f l. along-alike (drop 5 f) (drop (start_of (length ss) (hash_of (drop 5 f))) ss)
            (All-drop (λ s. is_free s ≡ false → tail' s ≡ tail s) (start_of (length ss) (hash_of (drop 5 f))) ss a) l)
            fs i.complete;
      }

-- THE LAW of a store that grows
covered-then : (next count : ℕ) (ss : List Slot) (xs ys : Bytes) → Covered next count ss xs → Covered next count ss (xs ++ ys)
covered-then next count ss xs ys c =
    record {
      before = c.before;
      within = let w = c.within in let l = length-append xs ys in omega arith;
      stands = λ more.
          ap (standing frame) (append_assoc xs ys more) ∙ c.stands (ys ++ more)
          ∙ ap (λ (l : Bytes). c.before ++ standing frame (drop (next - 1) l)) (sym (append_assoc xs ys more));
      counted = c.counted;
      index =
          index-alike c.before (tail_in xs 4) (tail_in (xs ++ ys) 4) ss
          (All-weaken (λ s. is_free s ≡ false → Inside xs s) (λ s. is_free s ≡ false → tail_in (xs ++ ys) 4 s ≡ tail_in xs 4 s) (λ s i e. tail-stays xs ys s (i e) 4) ss c.inside)
          c.index;
      inside = All-weaken (λ s. is_free s ≡ false → Inside xs s) (λ s. is_free s ≡ false → Inside (xs ++ ys) s) (λ s i e. inside-stays xs ys s (i e)) ss c.inside;
    }

pub covers-then : (table : List ℕ) (xs ys : Bytes) → Covers table xs → Covers table (xs ++ ys)
covers-then table xs ys c l p = covered-then _ _ _ xs ys (c l p)
