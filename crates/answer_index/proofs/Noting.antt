-- One record more in the index of answers: one of no class is passed over, one whose class and texts are there needs no slot, another takes the first free one from its own on.
-- Assumes nothing.
use Prim.Native.Nat.{ℕ, suc, ◌+◌, ◌-◌, ◌*◌, ◌/◌, ◌≤◌, ◌<◌}
use native.Mathlib.Omega.{arith}
use lib.Dec.{ltb}
use lib.ListN.{length, take, drop, get_or, set, length-append}
use lib.Seq.{split_at, set_split, length-take-le, get_or-drop}
use mathlib.Core.Option.{Option, some}
use borrow.Author.Tests.{eq-eqb, eqb-true, ne_eqb, lt-ltb, ltb-true}
use mathlib.Core.Path.{◌≡◌, refl, ap, ap₂, sym, ◌∙◌, subst}
use mathlib.Core.Bool.{Bool, true, false, cond, ◌||◌, true≢false, or-true}
use mathlib.Core.List.{List, [], ◌∷◌, ◌++◌}
use Rattle.std.proofs.lemmas.List.Folds.{list_any-append}
use Rattle.lists.specs.Lists.{any, put, All}
use Rattle.lists.proofs.Folds.{All-append, All-parts, All-weaken}
use Rattle.lists.proofs.Places.{All-of}
use Rattle.lists.proofs.Writes.{length-put, drop-take}
use Rattle.records.specs.Readers.{Bytes}
use Rattle.hashes.specs.Hashes.{hash_of}
use Rattle.numbers.specs.Numbers.{two}
use Rattle.tuple_index.specs.declared.Slot.{Slot}
use Rattle.tuple_index.specs.Index.{is_free, slots_of, start_of, passes_by, seek, stops, slot_for, number_at, free_in, if_free, entered_at, Along}
use Rattle.tuple_index.specs.Covers.{tail_from, tail_in}
use Rattle.tuple_index.proofs.Entering.{along-kept, along-here}
use Rattle.tuple_index.proofs.Words.{slots-many, slots-put, slot-number, free-there}
use Rattle.tuple_index.proofs.Covering.{Stands, tail-is, stops-taken, slot-place, blank, number-there, All-at, reach-within, reach-stands}
use Rattle.answer_index.specs.Answers.{class_of, is_of, Answer, Matches, Noted, Moves}
use Rattle.answer_index.proofs.Answered.{any-with, is-of-parts, is-of, answered-is}

-- ---- what is said of more records

any-more : (test : Bytes → Bool) (fs gs : List Bytes) → any test fs ≡ true → any test (fs ++ gs) ≡ true
any-more test fs gs e = list_any-append test fs gs ∙ ap (λ (b : Bool). b || any test gs) e

any_last : (test : Bytes → Bool) (fs : List Bytes) (f : Bytes) → test f ≡ true → any test (fs ++ (f ∷ [])) ≡ true
any_last test fs f e = list_any-append test fs (f ∷ []) ∙ ap (λ (b : Bool). any test fs || (b || false)) e ∙ or-true (any test fs)

still : (classes : List ℕ) (fs gs : List Bytes) (used : Bytes) (s : Slot) → Answer classes fs used s → Answer classes (fs ++ gs) used s
still classes fs gs used s a = record { hash = a.hash; stands = any-more (is_of classes s.number (tail_in used 8 s)) fs gs a.stands }

-- ---- one record

module _ (classes : List ℕ) (used : Bytes) (next after : ℕ) (ss : List Slot) (c : Noted classes next ss used) (st : Stands used next after) where
  abbrev alone : Bytes
  alone = take (two used (next + 1) + 4) (drop (next - 1) used)

  abbrev Own : List Slot → Bytes → Type 0
  Own l f = ltb (class_of classes f) 255 ≡ true → Along (Matches classes used f) (drop (start_of (length l) (hash_of (drop 9 f))) l)

  sound-still : (l : List Slot) → All (λ s. is_free s ≡ false → Answer classes c.before used s) l → All (λ s. is_free s ≡ false → Answer classes (c.before ++ (alone ∷ [])) used s) l
  sound-still l a =
      All-weaken (λ s. is_free s ≡ false → Answer classes c.before used s) (λ s. is_free s ≡ false → Answer classes (c.before ++ (alone ∷ [])) used s)
      (λ s r e. still classes c.before (alone ∷ []) used s (r e)) l a

  own : tail_from used 8 next ≡ drop 9 alone
  own = tail-is used next 8 st.first

  -- with the same slots
  no_slot : Own ss alone → Noted classes after ss used
  no_slot o =
      record {
        before = c.before ++ (alone ∷ []);
        within = reach-within used next after st c.before c.within c.stands;
        stands = reach-stands used next after st c.before c.within c.stands;
        sound = sound-still ss c.sound;
        complete = All-append (Own ss) c.before (alone ∷ []) c.complete (o, tt);
      }

  -- one of no class
  pub noted-none : 254 < class_of classes alone → Noted classes after ss used
  noted-none e = no_slot (λ t. absurd (let l = ltb-true (class_of classes alone) 255 t in omega arith))

  -- one whose class and texts are there
  pub noted-there : any (is_of classes (suc (class_of classes alone)) (tail_from used 8 next)) c.before ≡ true → Noted classes after ss used
  noted-there e = no_slot (λ t. any-with (is_of classes (suc (class_of classes alone)) (tail_from used 8 next)) (Own ss)
      (Along (Matches classes used alone) (drop (start_of (length ss) (hash_of (drop 9 alone))) ss)) c.before c.complete (λ f o p. one t f o p) e)
    where
      one : ltb (class_of classes alone) 255 ≡ true → (f : Bytes) → Own ss f → is_of classes (suc (class_of classes alone)) (tail_from used 8 next) f ≡ true
          → Along (Matches classes used alone) (drop (start_of (length ss) (hash_of (drop 9 alone))) ss)
      one t f o p =
          let q = is-of-parts classes (suc (class_of classes alone)) (tail_from used 8 next) f p in
          let k : class_of classes f ≡ class_of classes alone = (let z = q.0 in omega arith) in
          let x : drop 9 f ≡ drop 9 alone = q.1 ∙ own in
          subst (λ (n : ℕ). Along (λ s. (s.number ≡ suc n) × (tail_in used 8 s ≡ drop 9 alone)) (drop (start_of (length ss) (hash_of (drop 9 alone))) ss)) k
          (subst (λ (y : Bytes). Along (λ s. (s.number ≡ suc (class_of classes f)) × (tail_in used 8 s ≡ y)) (drop (start_of (length ss) (hash_of y)) ss)) x
          (o (ap (λ (n : ℕ). ltb n 255) k ∙ t)))

  -- one that takes a free slot
  module _ (at h : ℕ) (there : at < length ss) (free : (get_or ss at blank).place ≡ 0) (eh : h ≡ hash_of (tail_from used 8 next))
      (from : start_of (length ss) h ≤ at) (taken : All (λ x. is_free x ≡ false) (drop (start_of (length ss) h) (take at ss))) where
    abbrev slot : Slot
    slot = record { place = next; number = suc (class_of classes alone); hash = h }

    abbrev xs : List Slot
    xs = take at ss

    abbrev ys : List Slot
    ys = drop (suc at) ss

    abbrev old : Slot
    old = get_or ss at blank

    split : ss ≡ xs ++ (old ∷ ys)
    split = split_at ss at blank there

    sized : length ss ≡ length (xs ++ (slot ∷ ys))
    sized = ap length split ∙ length-append xs (old ∷ ys) ∙ sym (length-append xs (slot ∷ ys))

    is-free : is_free old ≡ true
    is-free = eq-eqb old.place 0 free

    not_free : is_free slot ≡ false
    not_free = ne_eqb next 0 (let f = st.first in λ z. omega arith)

    right : Answer classes (c.before ++ (alone ∷ [])) used slot
    right =
        record {
          hash = eh;
          stands = any_last (is_of classes (suc (class_of classes alone)) (tail_from used 8 next)) c.before alone (is-of classes (suc (class_of classes alone)) (tail_from used 8 next) alone refl (sym own));
        }

    sound' : All (λ s. is_free s ≡ false → Answer classes (c.before ++ (alone ∷ [])) used s) (xs ++ (slot ∷ ys))
    sound' =
        let p = All-parts (λ s. is_free s ≡ false → Answer classes (c.before ++ (alone ∷ [])) used s) xs (old ∷ ys)
        (subst (All (λ s. is_free s ≡ false → Answer classes (c.before ++ (alone ∷ [])) used s)) split (sound-still ss c.sound)) in
        All-append (λ s. is_free s ≡ false → Answer classes (c.before ++ (alone ∷ [])) used s) xs (slot ∷ ys) p.0 ((λ e. right), p.1.1)

    kept : (f : Bytes) → Own ss f → Own (xs ++ (slot ∷ ys)) f
    kept f o t =
        subst (λ (m : ℕ). Along (Matches classes used f) (drop (start_of m (hash_of (drop 9 f))) (xs ++ (slot ∷ ys)))) sized
        (along-kept (Matches classes used f) old slot ys is-free (start_of (length ss) (hash_of (drop 9 f))) xs
        (subst (λ (l : List Slot). Along (Matches classes used f) (drop (start_of (length ss) (hash_of (drop 9 f))) l)) split (o t)))

    here : Own (xs ++ (slot ∷ ys)) alone
    here t =
        let is-hash : h ≡ hash_of (drop 9 alone) = eh ∙ ap hash_of own in
        subst (λ (m : ℕ). Along (Matches classes used alone) (drop (start_of m (hash_of (drop 9 alone))) (xs ++ (slot ∷ ys)))) sized
        (along-here (Matches classes used alone) old slot ys (start_of (length ss) (hash_of (drop 9 alone))) xs
        (subst (λ (k : ℕ). start_of (length ss) k ≤ length xs) is-hash (let e = length-take-le at ss (let t = there in omega arith) in let f = from in omega (arith, e)))
        (subst (λ (k : ℕ). All (λ x. is_free x ≡ false) (drop (start_of (length ss) k) xs)) is-hash taken)
        not_free (refl, own))

    pub noted-new : Noted classes after (set ss at (record { place = next; number = suc (class_of classes alone); hash = h })) used
    noted-new =
        subst (λ (l : List Slot). Noted classes after l used) (sym (set_split ss at slot there))
        (record {
          before = c.before ++ (alone ∷ []);
          within = reach-within used next after st c.before c.within c.stands;
          stands = reach-stands used next after st c.before c.within c.stands;
          sound = sound';
          complete = All-append (Own (xs ++ (slot ∷ ys))) c.before (alone ∷ []) (All-weaken (Own ss) (Own (xs ++ (slot ∷ ys))) kept c.before c.complete) (here, tt);
        })

-- ---- over words

-- its class, by the bytes from 4 on
pub class-is : (classes : List ℕ) (used : Bytes) (next after : ℕ) → Stands used next after → (t : Bytes) → t ≡ tail_from used 3 next → (k : ℕ) → k ≡ get_or classes (get_or t 0 0) 255
    → k ≡ class_of classes (take (two used (next + 1) + 4) (drop (next - 1) used))
unfolding class_of
class-is classes used next after st t e k p =
    p
    ∙ ap (λ (x : Bytes). get_or classes (get_or x 0 0) 255) (e ∙ tail-is used next 3 st.first)
    ∙ ap (λ (n : ℕ). get_or classes n 255) (get_or-drop 4 (take (two used (next + 1) + 4) (drop (next - 1) used)) 0 0)

module _ (classes ws : List ℕ) (used : Bytes) (next after : ℕ) (st : Stands used next after) (k : ℕ)
    (ek : k ≡ class_of classes (take (two used (next + 1) + 4) (drop (next - 1) used))) where
  pub move-none : 254 < k → Moves classes next ws used after ws
  move-none z = record { noted = λ c p. noted-none classes used next after (slots_of ws) (c st.first) st (subst (λ (j : ℕ). 254 < j) ek z); sized = refl }

  module _ (small : k < 255) (h at : ℕ) (eh : h ≡ hash_of (tail_from used 8 next))
      (ea : at ≡ slot_for (passes_by (some (suc k)) (tail_in used 8) h (tail_from used 8 next)) h (slots_of ws)) (there : at < length ws / 3) where
    -- what is found along the slots
    found : (c : Noted classes next (slots_of ws) used) → ltb 0 (number_at (drop at (slots_of ws))) ≡ any (is_of classes (suc k) (tail_from used 8 next)) c.before
    found c =
        ap (ltb 0) (slot-number (passes_by (some (suc k)) (tail_in used 8) h (tail_from used 8 next)) h at (slots_of ws) ea
        ∙ ap (λ (j : ℕ). seek (passes_by (some (suc k)) (tail_in used 8) j (tail_from used 8 next)) (drop (start_of (length (slots_of ws)) j) (slots_of ws))) eh)
        ∙ answered-is classes c.before used (tail_from used 8 next) k (slots_of ws) c.sound c.complete small

    -- a slot that is taken has a number
    number-pos : (c : Noted classes next (slots_of ws) used) → (get_or ws (3 * at) 0 ≡ 0 → ⊥) → 0 < number_at (drop at (slots_of ws))
    number-pos c n =
        let s : Slot = get_or (slots_of ws) at blank in
        let l : at < length (slots_of ws) = omega (arith, slots-many ws, there) in
        let f : is_free (get_or (slots_of ws) at blank) ≡ false = ne_eqb (get_or (slots_of ws) at blank).place 0 (λ z. n (sym (slot-place ws at there) ∙ z)) in
        let r = All-at (λ s. is_free s ≡ false → Answer classes c.before used s) (slots_of ws) at l c.sound f in
        let e : number_at (drop at (slots_of ws)) ≡ (get_or (slots_of ws) at blank).number =
        number-there (slots_of ws) at l ∙ ap (λ (b : Bool). cond b 0 (get_or (slots_of ws) at blank).number) f in
        any-with (is_of classes s.number (tail_in used 8 s)) (λ g. g ≡ g) (0 < number_at (drop at (slots_of ws))) c.before (All-of (λ g. g ≡ g) (λ g. refl) c.before)
        (λ g q t. let k = (is-of-parts classes s.number (tail_in used 8 s) g t).0 in omega (arith, k, e)) r.stands

    pub move-there : (get_or ws (3 * at) 0 ≡ 0 → ⊥) → Moves classes next ws used after ws
    move-there z =
        record {
          noted = λ c p.
              let v = c st.first in
              noted-there classes used next after (slots_of ws) v st
              (subst (λ (j : ℕ). any (is_of classes (suc j) (tail_from used 8 next)) v.before ≡ true) ek (sym (found v) ∙ lt-ltb 0 (number_at (drop at (slots_of ws))) (number-pos v z)));
          sized = refl;
        }

    pub move_new : get_or ws (3 * at) 0 ≡ 0 → (ws' : List ℕ) → ws' ≡ put ws (3 * at) (next ∷ suc k ∷ h ∷ []) → Moves classes next ws used after ws'
    unfolding slot_for
    move_new z ws' e =
        record {
          noted = λ c p.
              let v = c st.first in
              let s : ℕ = start_of (length (slots_of ws)) h in
              let test : Slot → Bool = passes_by (some (suc k)) (tail_in used 8) h (tail_from used 8 next) in
              let n : ℕ = stops test (drop s (slots_of ws)) in
              let d : drop s (take at (slots_of ws)) ≡ take n (drop s (slots_of ws)) =
              drop-take s at (slots_of ws) ∙ ap (λ (m : ℕ). take m (drop s (slots_of ws))) (let y : at - s ≡ n = omega (arith, ea) in y) in
              subst (λ (l : List Slot). Noted classes after l used)
              (sym (ap slots_of e ∙ slots-put at ws next (suc k) h there ∙ ap (λ (j : ℕ). set (slots_of ws) at (record { place = next; number = suc j; hash = h })) ek))
              (noted-new classes used next after (slots_of ws) v st at h
              (let m = slots-many ws in let t = there in omega arith)
              (slot-place ws at there ∙ z)
              eh
              (omega (arith, ea))
              (subst (All (λ x. is_free x ≡ false)) (sym d) (stops-taken test (drop s (slots_of ws)))));
          sized = ap length e ∙ length-put ws (3 * at) (next ∷ suc k ∷ h ∷ []);
        }

-- what a slot that is entered where the search for the record's texts ends comes to
module _ (classes ws : List ℕ) (used : Bytes) (next after : ℕ) (st : Stands used next after) (k : ℕ)
    (ek : k ≡ class_of classes (take (two used (next + 1) + 4) (drop (next - 1) used))) (small : k < 255) (q : Bytes) (eq : q ≡ tail_from used 8 next) (h : ℕ) (eh : h ≡ hash_of q)
    (w : ℕ) (is : w ≡ suc k) where
  abbrev ending : ℕ
  ending = slot_for (passes_by (some w) (tail_in used 8) h q) h (slots_of ws)

  same-end : ending ≡ slot_for (passes_by (some (suc k)) (tail_in used 8) h (tail_from used 8 next)) h (slots_of ws)
  same-end = ap₂ (λ (n : ℕ) (t : Bytes). slot_for (passes_by (some n) (tail_in used 8) h t) h (slots_of ws)) is eq

  pub move-one : (b : Bool) → some b ≡ free_in (drop ending (slots_of ws)) → (ws' : List ℕ) → ws' ≡ entered_at ending (record { place = next; number = w; hash = h }) ws → Moves classes next ws used after ws'
  unfolding entered_at
  move-one true e ws' p =
      let f = free-there ws ending true e in
      move_new classes ws used next after st k ek small h ending (eh ∙ ap hash_of eq) same-end f.0 (eqb-true (get_or ws (3 * ending) 0) 0 f.1) ws'
      (p ∙ ap (λ (o : Option Bool). if_free o (put ws (3 * ending) (next ∷ w ∷ h ∷ [])) ws) (sym e) ∙ ap (λ (n : ℕ). put ws (3 * ending) (next ∷ n ∷ h ∷ [])) is)
  move-one false e ws' p =
      let f = free-there ws ending false e in
      subst (Moves classes next ws used after)
      (sym (p ∙ ap (λ (o : Option Bool). if_free o (put ws (3 * ending) (next ∷ w ∷ h ∷ [])) ws) (sym e)))
      (move-there classes ws used next after st k ek small h ending (eh ∙ ap hash_of eq) same-end f.0 (λ z. true≢false (sym (eq-eqb (get_or ws (3 * ending) 0) 0 z) ∙ f.1)))
