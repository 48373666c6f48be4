-- The index of answers in a table of words: one that is emptied, one whose slots were lent and whose first word is written then, and what is found by it.
-- Assumes nothing.
use Prim.Native.Nat.{ℕ, zero, suc, ◌-◌, ◌*◌, ◌≤◌, ◌<◌, min}
use native.Mathlib.Omega.{arith}
use lib.Dec.{ltb}
use lib.ListN.{length, take, drop, get_or, set, length-append, length-drop}
use lib.Seq.{length-take-le}
use borrow.Author.Tests.{lt-ltb, le-ltb}
use mathlib.Core.Path.{◌≡◌, refl, ap, sym, ◌∙◌, subst}
use mathlib.Core.Bool.{Bool, true, false, ◌||◌, true≢false}
use mathlib.Core.List.{List, [], ◌∷◌, ◌++◌, append-nil}
use mathlib.Core.Option.{none, some}
use Rattle.std.proofs.lemmas.List.{take_min}
use Rattle.std.proofs.lemmas.List.Folds.{list_any-append}
use Rattle.lists.specs.Lists.{any, part, put, All}
use Rattle.lists.proofs.Writes.{sets-put}
use Rattle.records.specs.Readers.{Bytes}
use Rattle.hashes.specs.Hashes.{hash_of}
use Rattle.session_spec.specs.Definitions.{frame}
use Rattle.output_stores.specs.Stores.{standing}
use Rattle.tuple_search.specs.Search.{is_answer, answered_by}
use Rattle.tuple_index.specs.declared.Slot.{Slot}
use Rattle.tuple_index.specs.Index.{is_free, slots_of, start_of, passes_by, seek, slot_for, number_at, number_in}
use Rattle.tuple_index.specs.Covers.{tail_in, slots_in, slots_end, Empties}
use Rattle.tuple_index.specs.declared.Head.{Head}
use Rattle.tuple_index.proofs.Found.{All-drop}
use Rattle.tuple_index.proofs.Words.{slot-number, number-same, number-zero, taken-one}
use Rattle.tuple_index.proofs.Tables.{HeadOf, rejoined, slots-front, min-four}
use Rattle.answer_index.specs.Answers.{Names, Answer, Noted, NotedBy, NotedIn, Moves, Extends, Notes}
use Rattle.answer_index.proofs.Answered.{answered-is, named-is, none_named, right-pos}

-- ---- an empty one

none_right : (classes : List ℕ) (used : Bytes) (ss : List Slot) → All (λ s. is_free s ≡ true) ss → All (λ s. is_free s ≡ false → Answer classes [] used s) ss
none_right classes used [] a = tt
none_right classes used (s ∷ ss) a = ((λ e. absurd (true≢false (sym a.0 ∙ e))), none_right classes used ss a.1)

empty-noted : (classes t t' : List ℕ) (used : Bytes) → Empties t t' → NotedIn classes t' used
empty-noted classes t t' used e four p =
    subst (λ (n : ℕ). Noted classes n (slots_in t') used) (sym (e.first four))
    (record { before = []; within = omega arith; stands = λ more. refl; sound = none_right classes used (slots_in t') e.free; complete = tt })

pub empty-then-noted : (classes t t' t'' : List ℕ) (used : Bytes) → Empties t t' → Extends classes t' used t'' → Notes classes t used t''
empty-then-noted classes t t' t'' used a b = record { noted = b.noted (empty-noted classes t t' used a); sized = b.sized ∙ a.sized }

-- ---- slots that were lent, and a first word that is written then

module _ (classes ys : List ℕ) (used : Bytes) (e n c k : ℕ) where
  first-written : (t : List ℕ) → 4 ≤ length t → e ≡ slots_end t → Moves classes (get_or t 0 0) (take (e - 4) (drop 4 t)) used n ys
      → Extends classes t used (set (set (set (take 4 t ++ (ys ++ drop (e - 4) (drop 4 t))) 0 n) 1 c) 2 k)
  unfolding slots_end
  first-written [] l p a = absurd (omega arith)
  first-written (x ∷ []) l p a = absurd (omega arith)
  first-written (x ∷ y ∷ []) l p a = absurd (omega arith)
  first-written (x ∷ y ∷ z ∷ []) l p a = absurd (omega arith)
  first-written (x ∷ y ∷ z ∷ d ∷ ws) l p a =
      let m : e - 4 ≡ min (3 * d) (length ws) = ap (λ (j : ℕ). j - 4) p ∙ min-four d (length ws) in
      let s : length ys ≡ e - 4 = a.sized ∙ length-take-le (e - 4) ws (omega arith) in
      let f : take (3 * d) (ys ++ drop (e - 4) ws) ≡ ys = ap (λ (j : ℕ). take (3 * d) (ys ++ drop j ws)) (sym s) ∙ slots-front ys ws d (s ∙ m) in
      let g : take (e - 4) ws ≡ take (3 * d) ws = ap (λ (j : ℕ). take j ws) m ∙ take_min (3 * d) ws in
      record {
        noted = λ q four.
            subst (λ (r : List ℕ). NotedBy classes n (slots_of r) used) (sym f)
            (a.noted (subst (λ (r : List ℕ). NotedBy classes x (slots_of r) used) (sym g) (q l)));
        sized = let u = length-append ys (drop (e - 4) ws) in let v = length-drop (e - 4) ws in omega arith;
      }

  pub note-extends : (t : List ℕ) → 4 ≤ length t → e ≡ slots_end t → Moves classes (get_or t 0 0) (take (e - 4) (drop 4 t)) used n ys
      → (w : List ℕ) → w ≡ put (take 4 t ++ (ys ++ drop (e - 4) (drop 4 t))) 0 (n ∷ c ∷ k ∷ []) → Extends classes t used w
  note-extends t l p a w q =
      subst (Extends classes t used) (sets-put (take 4 t ++ (ys ++ drop (e - 4) (drop 4 t))) 0 (n ∷ c ∷ k ∷ []) (omega (arith, rejoined t ys e l p a.sized)) ∙ sym q)
      (first-written t l p a)

-- ---- what is found

module _ (classes table : List ℕ) (used texts : Bytes) (class named : ℕ) (nm : Names classes class named) (c : NotedIn classes table used) where
  pub not-classed : 254 < class → false ≡ answered_by named texts (standing frame used)
  not-classed l = none_named classes class named nm texts (omega arith) (standing frame used)

  module _ (small : class ≤ 254) (h : ℕ) (eh : h ≡ hash_of texts) (w : ℕ) (is : w ≡ suc class) (ws : List ℕ) (ew : ws ≡ part table 4 (3 * get_or table 3 0)) (hd : Head) (o : HeadOf table hd) where
    abbrev at : ℕ
    at = slot_for (passes_by (some w) (tail_in used 8) h texts) h (slots_of ws)

    cov : Noted classes (get_or table 0 0) (slots_of ws) used
    cov = subst (λ (l : List ℕ). Noted classes (get_or table 0 0) (slots_of l) used) (sym ew) (c o.long (pos (get_or table 0 0) o.said))
      where
        pos : (n : ℕ) → (n ≡ 0 → ⊥) → 0 < n
        pos zero z = absurd (z refl)
        pos (suc n) z = omega arith

    by_index : ltb 0 (number_at (drop at (slots_of ws))) ≡ answered_by named texts cov.before
    by_index =
        ap (ltb 0) (slot-number (passes_by (some (suc class)) (tail_in used 8) h texts) h at (slots_of ws)
        (ap (λ (n : ℕ). slot_for (passes_by (some n) (tail_in used 8) h texts) h (slots_of ws)) is)
        ∙ ap (λ (j : ℕ). seek (passes_by (some (suc class)) (tail_in used 8) j texts) (drop (start_of (length (slots_of ws)) j) (slots_of ws))) eh)
        ∙ answered-is classes cov.before used texts class (slots_of ws) cov.sound cov.complete (omega (arith, small))
        ∙ sym (named-is classes class named nm texts (omega (arith, small)) cov.before)

    all-stand : standing frame used ≡ cov.before ++ standing frame (drop (get_or table 0 0 - 1) used)
    all-stand =
        ap (standing frame) (sym (append-nil used)) ∙ cov.stands [] ∙ ap (λ (l : Bytes). cov.before ++ standing frame (drop (get_or table 0 0 - 1) l)) (append-nil used)

    in_two : answered_by named texts (standing frame used) ≡ (answered_by named texts cov.before || answered_by named texts (standing frame (drop (get_or table 0 0 - 1) used)))
    unfolding answered_by
    in_two = ap (any (is_answer named texts)) all-stand ∙ list_any-append (is_answer named texts) cov.before (standing frame (drop (get_or table 0 0 - 1) used))

    pub found_here : (n : ℕ) → some n ≡ number_in (drop at (slots_of ws)) → true ≡ answered_by named texts (standing frame used)
    found_here n e =
        let x = taken-one (Answer classes cov.before used) (drop at (slots_of ws)) (All-drop (λ s. is_free s ≡ false → Answer classes cov.before used s) at (slots_of ws) cov.sound) n e in
        let p = right-pos classes cov.before used x.0 x.1 in
        let f = number-same (drop at (slots_of ws)) n e in
        sym (in_two ∙ ap (λ (b : Bool). b || answered_by named texts (standing frame (drop (get_or table 0 0 - 1) used)))
        (sym by_index ∙ lt-ltb 0 (number_at (drop at (slots_of ws))) (omega (arith, f, p, x.2))))

    pub found_after : none ≡ number_in (drop at (slots_of ws)) → (r : Bool) → r ≡ answered_by named texts (standing frame (drop (hd.next - 1) used))
        → r ≡ answered_by named texts (standing frame used)
    found_after e r q =
        let f = number-zero (drop at (slots_of ws)) e in
        q ∙ ap (λ (d : ℕ). answered_by named texts (standing frame (drop (d - 1) used))) o.next
        ∙ sym (in_two ∙ ap (λ (b : Bool). b || answered_by named texts (standing frame (drop (get_or table 0 0 - 1) used)))
        (sym by_index ∙ le-ltb 0 (number_at (drop at (slots_of ws))) (omega (arith, f))))
