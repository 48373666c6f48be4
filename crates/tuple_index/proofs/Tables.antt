-- A table of words: its head and the slots in use, what a step of entering leaves, and what is found by it.
-- Assumes nothing.
use Rattle.std.proofs.Common.{◌≡◌, ℕ, zero, suc, ◌+◌, ◌-◌, ◌*◌, ◌/◌, ◌<◌, ◌≤◌, min, Bool, true, false, cond, eqb, ltb, leb, List, [], ◌∷◌, ◌++◌, length, get_or, take, drop, set, replicate, sym, refl, ap, ◌∙◌, subst, ap₂, true≢false, append-nil, arith, length-append, length-drop, drop_of_length-le, length-take-le, take_all, take_at, eq-eqb, ne_eqb, leb-false, leb-true, eqb-true, ltb-false, lt-ltb, le-ltb, ◌⊎◌, inl, inr, ◌||◌}
use lib.ListN.{length-replicate}
use mathlib.Core.Option.{Option, none, some, map, some-injective}
use Rattle.std.specs.declared.option.Option as code
use Rattle.std.specs.declared.option.Option.TheVariants.{Some, None}
use Rattle.std.specs.Option.{MatchOption, unwrap_or}
use denote.Ref.{Bor}
use lib.Seq.{take-nil}
use Rattle.std.proofs.lemmas.List.{take_min}
use Rattle.tuple_index.specs.declared.Head.{Head}
use Rattle.lists.specs.Lists.{part, put, All}
use Rattle.lists.proofs.Writes.{length-put, sets-put, drop-take}
use Rattle.records.specs.Readers.{Bytes}
use Rattle.hashes.specs.Hashes.{hash_of}
use Rattle.session_spec.specs.Definitions.{frame}
use Rattle.output_stores.specs.Stores.{standing}
use Rattle.tuple_search.specs.Search.{place_with, first_with}
use Rattle.tuple_index.specs.declared.Slot.{Slot}
use Rattle.tuple_index.specs.Index.{is_free, slots_of, start_of, passes_by, stops, slot_for, number_at, number_in, free_in, if_free, entered_at, found_behind, Right, Indexed}
use Rattle.tuple_index.specs.Covers.{tail_from, tail_in, Inside, slots_in, head_in, slots_end, Covered, CoversBy, Covers, Advances, Keeps, Makes, Empties}
use Rattle.tuple_index.proofs.Found.{All-drop}
use Rattle.tuple_index.proofs.Entering.{first_more, place-behind, none_yet}
use Rattle.tuple_index.proofs.Words.{slots-many, words-found, slots-put, zeros-free, number-free, number-same, number-zero, taken-one, free-there}
use Rattle.tuple_index.proofs.Covering.{Stands, stops-taken, slot-place, first-none, first_some, number-pos, covers-repeated, covers-entered}

-- ---- what is found

-- the head that is read is that of a table that says something
pub record HeadOf (t : List ℕ) (h : Head) : Type 0 where
  pub long : 4 ≤ length t
  pub said : get_or t 0 0 ≡ 0 → ⊥
  pub next : h.next ≡ get_or t 0 0
  pub count : h.count ≡ get_or t 1 0
  pub entries : h.entries ≡ get_or t 2 0

pub head-of : (t : List ℕ) (h : Head) → some h ≡ head_in t → HeadOf t h
unfolding head_in
head-of t h e = by (ltb (length t) 4) (eqb (get_or t 0 0) 0) refl refl e
  where
    by : (a b : Bool) → ltb (length t) 4 ≡ a → eqb (get_or t 0 0) 0 ≡ b
        → some h ≡ cond (a || b) none (some (record { next = get_or t 0 0; count = get_or t 1 0; entries = get_or t 2 0 })) → HeadOf t h
    by true b x y p = let z : ◌≡◌ {A = ℕ} 0 1 = cc in absurd (omega arith)
    by false true x y p = let z : ◌≡◌ {A = ℕ} 0 1 = cc in absurd (omega arith)
    by false false x y p =
        let q = some-injective _ _ p in
        record {
          long = ltb-false (length t) 4 x;
          said = λ z. true≢false (sym (eq-eqb (get_or t 0 0) 0 z) ∙ y);
          next = ap (λ (k : Head). k.next) q;
          count = ap (λ (k : Head). k.count) q;
          entries = ap (λ (k : Head). k.entries) q;
        }

-- where there is none, or one
pub no-head : (t : List ℕ) → (length t < 4) ⊎ (get_or t 0 0 ≡ 0) → none ≡ head_in t
unfolding head_in
no-head t (inl l) = sym (rw (lt-ltb (length t) 4 l))
no-head t (inr z) = by (ltb (length t) 4)
  where
    by : (a : Bool) → ◌≡◌ {A = Option Head} none (cond (a || eqb (get_or t 0 0) 0) none (some (record { next = get_or t 0 0; count = get_or t 1 0; entries = get_or t 2 0 })))
    by true = refl
    by false = sym (rw (eq-eqb (get_or t 0 0) 0 z))

pub a-head : (t : List ℕ) → 4 ≤ length t → (get_or t 0 0 ≡ 0 → ⊥) → ◌≡◌ {A = Option Head} (some (record { next = get_or t 0 0; count = get_or t 1 0; entries = get_or t 2 0 })) (head_in t)
unfolding head_in
a-head t l z = sym (rw (le-ltb (length t) 4 l, ne_eqb (get_or t 0 0) 0 z))

module _ (table : List ℕ) (used tail : Bytes) (h : ℕ) (eh : h ≡ hash_of tail) (ws : List ℕ) (ew : ws ≡ part table 4 (3 * get_or table 3 0)) (hd : Head) (o : HeadOf table hd)
    (c : Covers table used) where
  abbrev at : ℕ
  at = slot_for (passes_by none (tail_in used 4) h tail) h (slots_of ws)

  cov : Covered (get_or table 0 0) (get_or table 1 0) (slots_in table) used
  cov = c o.long (by (get_or table 0 0) o.said)
    where
      by : (n : ℕ) → (n ≡ 0 → ⊥) → 0 < n
      by zero z = absurd (z refl)
      by (suc n) z = omega arith

  index-words : Indexed cov.before (tail_in used 4) (slots_of ws)
  index-words = subst (λ (l : List ℕ). Indexed cov.before (tail_in used 4) (slots_of l)) (sym ew) cov.index

  by_index : number_at (drop at (slots_of ws)) ≡ first_with tail cov.before
  by_index = words-found (tail_in used 4) ws tail h _ eh refl cov.before index-words

  all-stand : standing frame used ≡ cov.before ++ standing frame (drop (get_or table 0 0 - 1) used)
  all-stand =
      ap (standing frame) (sym (append-nil used)) ∙ cov.stands [] ∙ ap (λ (l : Bytes). cov.before ++ standing frame (drop (get_or table 0 0 - 1) l)) (append-nil used)

  -- by the index
  pub found-there : (n : ℕ) → some n ≡ number_in (drop at (slots_of ws)) → some n ≡ place_with tail (standing frame used)
  found-there n e =
      let f : n ≡ first_with tail cov.before = number-same (drop at (slots_of ws)) n e ∙ by_index in
      let x = taken-one (Right cov.before (tail_in used 4)) (drop at (slots_of ws)) (All-drop (λ s. is_free s ≡ false → Right cov.before (tail_in used 4) s) at (slots_of ws) index-words.sound) n e in
      let p : 0 < n = omega (arith, x.1.stands, x.1.number, x.2) in
      let g : first_with tail (standing frame used) ≡ first_with tail cov.before =
      ap (first_with tail) all-stand ∙ first_more tail cov.before (standing frame (drop (get_or table 0 0 - 1) used)) (omega (arith, f)) in
      ap some (f ∙ sym g) ∙ sym (first_some tail (standing frame used) (omega (arith, f, g)))

  -- by the walk behind it
  pub found-behind : none ≡ number_in (drop at (slots_of ws)) → (r : Option ℕ) → r ≡ found_behind hd.count tail (standing frame (drop (hd.next - 1) used))
      → r ≡ place_with tail (standing frame used)
  unfolding found_behind
  found-behind e r q =
      let f : first_with tail cov.before ≡ 0 = sym by_index ∙ number-zero (drop at (slots_of ws)) e in
      q ∙ ap₂ (λ (k d : ℕ). map (λ m. k + m) (place_with tail (standing frame (drop (d - 1) used)))) (o.count ∙ cov.counted) o.next
      ∙ sym (ap (place_with tail) all-stand ∙ place-behind tail cov.before (standing frame (drop (get_or table 0 0 - 1) used)) (first-none tail cov.before f))

-- ---- one record entered

module _ (ws : List ℕ) (used : Bytes) (next count after : ℕ) (st : Stands used next after) (h at : ℕ) (eh : h ≡ hash_of (tail_from used 4 next))
    (ea : at ≡ slot_for (passes_by none (tail_in used 4) h (tail_from used 4 next)) h (slots_of ws)) (there : at < length ws / 3) where
  by-walk : (c : Covered next count (slots_of ws) used) → number_at (drop at (slots_of ws)) ≡ first_with (tail_from used 4 next) c.before
  by-walk c = words-found (tail_in used 4) ws (tail_from used 4 next) h at eh ea c.before c.index

  pub step-repeated : (get_or ws (3 * at) 0 ≡ 0 → ⊥) → Advances next count ws used after (count + 1) ws
  step-repeated n =
      record {
        covers = λ c p.
            let k = c st.first in
            covers-repeated used next count after (slots_of ws) k st
            (subst (λ (m : ℕ). 0 < m) (by-walk k) (number-pos k.before (tail_in used 4) ws at there n k.index));
        sized = refl;
      }

  pub step-entered : get_or ws (3 * at) 0 ≡ 0 → (ws' : List ℕ) → ws' ≡ put ws (3 * at) (next ∷ (count + 1) ∷ h ∷ []) → Advances next count ws used after (count + 1) ws'
  unfolding slot_for
  step-entered z ws' e =
      record {
        covers = λ c p.
            let k = c st.first in
            let s : ℕ = start_of (length (slots_of ws)) h in
            let test : Slot → Bool = passes_by none (tail_in used 4) h (tail_from used 4 next) in
            let n : ℕ = stops test (drop s (slots_of ws)) in
            let d : drop s (take at (slots_of ws)) ≡ take n (drop s (slots_of ws)) =
            drop-take s at (slots_of ws) ∙ ap (λ (m : ℕ). take m (drop s (slots_of ws))) (let y : at - s ≡ n = omega (arith, ea) in y) in
            subst (λ (l : List Slot). Covered after (count + 1) l used) (sym (ap slots_of e ∙ slots-put at ws next (count + 1) h there))
            (covers-entered used next count after (slots_of ws) k st at h
            (sym (by-walk k) ∙ sym (number-free ws at there z))
            (let m = slots-many ws in let t = there in omega arith)
            (slot-place ws at there ∙ z)
            eh
            (omega (arith, ea))
            (subst (All (λ x. is_free x ≡ false)) (sym d) (stops-taken test (drop s (slots_of ws)))));
        sized = ap length e ∙ length-put ws (3 * at) (next ∷ (count + 1) ∷ h ∷ []);
      }

-- what a slot that is entered where the search for the record's tail ends comes to
module _ (ws : List ℕ) (used : Bytes) (next count after : ℕ) (st : Stands used next after) (q : Bytes) (eq : q ≡ tail_from used 4 next) (h : ℕ) (eh : h ≡ hash_of q) where
  abbrev ending : ℕ
  ending = slot_for (passes_by none (tail_in used 4) h q) h (slots_of ws)

  abbrev entering : Slot
  entering = record { place = next; number = count + 1; hash = h }

  own : ending ≡ slot_for (passes_by none (tail_in used 4) h (tail_from used 4 next)) h (slots_of ws)
  own = ap (λ (t : Bytes). slot_for (passes_by none (tail_in used 4) h t) h (slots_of ws)) eq

  pub step-one : (b : Bool) → some b ≡ free_in (drop ending (slots_of ws)) → (ws' : List ℕ) → ws' ≡ entered_at ending entering ws → Advances next count ws used after (count + 1) ws'
  unfolding entered_at
  step-one true e ws' p =
      let f = free-there ws ending true e in
      step-entered ws used next count after st h ending (eh ∙ ap hash_of eq) own f.0 (eqb-true (get_or ws (3 * ending) 0) 0 f.1) ws'
      (p ∙ ap (λ (o : Option Bool). if_free o (put ws (3 * ending) (next ∷ (count + 1) ∷ h ∷ [])) ws) (sym e))
  step-one false e ws' p =
      let f = free-there ws ending false e in
      subst (Advances next count ws used after (count + 1))
      (sym (p ∙ ap (λ (o : Option Bool). if_free o (put ws (3 * ending) (next ∷ (count + 1) ∷ h ∷ [])) ws) (sym e)))
      (step-repeated ws used next count after st h ending (eh ∙ ap hash_of eq) own f.0 (λ z. true≢false (sym (eq-eqb (get_or ws (3 * ending) 0) 0 z) ∙ f.1)))

-- ---- head and slots

pub end-most : (t : List ℕ) (e : ℕ) → 4 ≤ length t → e ≡ slots_end t → (4 ≤ e) × (e ≤ length t)
unfolding slots_end
end-most t e l p = (omega arith, omega arith)

pub slots-front : (ys ws : List ℕ) (d : ℕ) → length ys ≡ min (3 * d) (length ws) → take (3 * d) (ys ++ drop (length ys) ws) ≡ ys
slots-front ys ws d e = by (leb (3 * d) (length ws)) refl
  where
    by : (b : Bool) → leb (3 * d) (length ws) ≡ b → take (3 * d) (ys ++ drop (length ys) ws) ≡ ys
    by true t = let l = leb-true (3 * d) (length ws) t in take_at ys (drop (length ys) ws) (3 * d) (omega arith)
    by false t =
        let l = leb-false (3 * d) (length ws) t in
        let n : drop (length ys) ws ≡ [] = drop_of_length-le ws {i = length ys} (omega arith) in
        ap (λ (r : List ℕ). take (3 * d) (ys ++ r)) n ∙ ap (take (3 * d)) (append-nil ys) ∙ take_all (3 * d) ys (omega arith)

pub min-four : (d n : ℕ) → min (4 + 3 * d) (suc (suc (suc (suc n)))) - 4 ≡ min (3 * d) n
min-four d n = omega arith

-- the slots in use, as the code cuts them out
pub cut-slots : (t : List ℕ) (e : ℕ) → 4 ≤ length t → e ≡ slots_end t → take (e - 4) (drop 4 t) ≡ part t 4 (3 * get_or t 3 0)
unfolding slots_end
cut-slots [] e l p = absurd (omega arith)
cut-slots (a ∷ []) e l p = absurd (omega arith)
cut-slots (a ∷ b ∷ []) e l p = absurd (omega arith)
cut-slots (a ∷ b ∷ c ∷ []) e l p = absurd (omega arith)
cut-slots (a ∷ b ∷ c ∷ d ∷ ws) e l p = ap (λ (k : ℕ). take (k - 4) ws) p ∙ ap (λ (k : ℕ). take k ws) (min-four d (length ws)) ∙ take_min (3 * d) ws

-- as long as the table
pub rejoined : (t ys : List ℕ) (e : ℕ) → 4 ≤ length t → e ≡ slots_end t → length ys ≡ length (take (e - 4) (drop 4 t))
    → length (take 4 t ++ (ys ++ drop (e - 4) (drop 4 t))) ≡ length t
rejoined t ys e l p s =
    let m = end-most t e l p in
    let a = length-append (take 4 t) (ys ++ drop (e - 4) (drop 4 t)) in
    let b = length-append ys (drop (e - 4) (drop 4 t)) in
    let d = length-drop 4 t in
    let f = length-take-le 4 t l in
    let g = length-take-le (e - 4) (drop 4 t) (omega (arith, m.0, m.1, d)) in
    let h = length-drop (e - 4) (drop 4 t) in
    omega (arith, a, b, d, f, g, h, s, m.0, m.1)

-- a table cut short has none
short-part : (t : List ℕ) (k : ℕ) → length t < 4 → [] ≡ part t 4 k
short-part t k l = sym (take-nil k) ∙ ap (take k) (sym (drop_of_length-le t {i = 4} (omega arith)))

pub part-used : (t : List ℕ) (e : ℕ) → e ≡ slots_end t → (r : code.Option (Bor (List ℕ)))
    → MatchOption r ((e < 4) ⊎ (length t < e)) (λ x. (4 ≤ e) × (e ≤ length t) × (x.now ≡ take (e - 4) (drop 4 t)) × (length x.now + 4 ≡ e))
    → (d : Bor (List ℕ)) → d.now ≡ [] → (unwrap_or r d).now ≡ part t 4 (3 * get_or t 3 0)
unfolding slots_end
part-used t e p (Some x) h d z = let l = h.0 in let m = h.1 in h.2 ∙ cut-slots t e (omega arith) p
part-used t e p None (inl h) d z = z ∙ short-part t (3 * get_or t 3 0) (omega arith)
part-used t e p None (inr h) d z = absurd (omega arith)

-- a head written over slots that were lent
module _ (ys : List ℕ) (used : Bytes) (e n c k : ℕ) where
  sets-keep : (t : List ℕ) → 4 ≤ length t → e ≡ slots_end t → Advances (get_or t 0 0) (get_or t 1 0) (take (e - 4) (drop 4 t)) used n c ys
      → Keeps t used (set (set (set (take 4 t ++ (ys ++ drop (e - 4) (drop 4 t))) 0 n) 1 c) 2 k)
  unfolding slots_end
  sets-keep [] l p a = absurd (omega arith)
  sets-keep (x ∷ []) l p a = absurd (omega arith)
  sets-keep (x ∷ y ∷ []) l p a = absurd (omega arith)
  sets-keep (x ∷ y ∷ z ∷ []) l p a = absurd (omega arith)
  sets-keep (x ∷ y ∷ z ∷ d ∷ ws) l p a =
      let m : e - 4 ≡ min (3 * d) (length ws) = ap (λ (j : ℕ). j - 4) p ∙ min-four d (length ws) in
      let s : length ys ≡ e - 4 = a.sized ∙ length-take-le (e - 4) ws (omega arith) in
      let f : take (3 * d) (ys ++ drop (e - 4) ws) ≡ ys = ap (λ (j : ℕ). take (3 * d) (ys ++ drop j ws)) (sym s) ∙ slots-front ys ws d (s ∙ m) in
      let g : take (e - 4) ws ≡ take (3 * d) ws = ap (λ (j : ℕ). take j ws) m ∙ take_min (3 * d) ws in
      record {
        covers = λ q four.
            subst (λ (r : List ℕ). CoversBy n c (slots_of r) used) (sym f)
            (a.covers (subst (λ (r : List ℕ). CoversBy x y (slots_of r) used) (sym g) (q l)));
        sized = let u = length-append ys (drop (e - 4) ws) in let v = length-drop (e - 4) ws in omega arith;
      }

  pub enter-keeps : (t : List ℕ) → 4 ≤ length t → e ≡ slots_end t → Advances (get_or t 0 0) (get_or t 1 0) (take (e - 4) (drop 4 t)) used n c ys
      → (w : List ℕ) → w ≡ put (take 4 t ++ (ys ++ drop (e - 4) (drop 4 t))) 0 (n ∷ c ∷ k ∷ []) → Keeps t used w
  enter-keeps t l p a w q =
      subst (Keeps t used) (sets-put (take 4 t ++ (ys ++ drop (e - 4) (drop 4 t))) 0 (n ∷ c ∷ k ∷ []) (omega (arith, rejoined t ys e l p a.sized)) ∙ sym q) (sets-keep t l p a)

-- ---- a table of free slots

none_inside : (used : Bytes) (ss : List Slot) → All (λ s. is_free s ≡ true) ss → All (λ s. is_free s ≡ false → Inside used s) ss
none_inside used [] a = tt
none_inside used (s ∷ ss) a = ((λ e. absurd (true≢false (sym a.0 ∙ e))), none_inside used ss a.1)

none-covered : (ss : List Slot) (used : Bytes) → All (λ s. is_free s ≡ true) ss → Covered 1 0 ss used
none-covered ss used a =
    record {
      before = [];
      within = omega arith;
      stands = λ more. refl;
      counted = refl;
      index = none_yet (tail_in used 4) ss a;
      inside = none_inside used ss a;
    }

pub empty-covers : (t t' : List ℕ) (used : Bytes) → Empties t t' → Covers t' used
empty-covers t t' used e four p =
    subst (λ (n : ℕ). Covered n (get_or t' 1 0) (slots_in t') used) (sym (e.first four))
    (subst (λ (n : ℕ). Covered 1 n (slots_in t') used) (sym (e.none four)) (none-covered (slots_in t') used e.free))

head-end : (slots : ℕ) (ws : List ℕ) → slots_end (1 ∷ 0 ∷ 0 ∷ slots ∷ ws) - 4 ≡ min (3 * slots) (length ws)
unfolding slots_end
head-end slots ws = min-four slots (length ws)

module _ (slots e : ℕ) where
  abbrev pub headed : List ℕ → List ℕ
  headed t = 1 ∷ 0 ∷ 0 ∷ slots ∷ drop 4 t

  pub made-empty : (t t' zs : List ℕ) → 4 ≤ length t → t' ≡ headed t → e ≡ slots_end t' → zs ≡ replicate (length (take (e - 4) (drop 4 t'))) 0
      → Empties t (take 4 t' ++ (zs ++ drop (e - 4) (drop 4 t')))
  made-empty t t' zs l h p q =
      subst (λ (x : List ℕ). Empties t (take 4 x ++ (zs ++ drop (e - 4) (drop 4 x)))) (sym h)
      (on-head t zs l (p ∙ ap slots_end h) (q ∙ ap (λ (x : List ℕ). replicate (length (take (e - 4) (drop 4 x))) 0) h))
    where
      on-head : (t zs : List ℕ) → 4 ≤ length t → e ≡ slots_end (headed t) → zs ≡ replicate (length (take (e - 4) (drop 4 (headed t)))) 0
          → Empties t (take 4 (headed t) ++ (zs ++ drop (e - 4) (drop 4 (headed t))))
      on-head [] zs l p q = absurd (omega arith)
      on-head (x ∷ []) zs l p q = absurd (omega arith)
      on-head (x ∷ y ∷ []) zs l p q = absurd (omega arith)
      on-head (x ∷ y ∷ z ∷ []) zs l p q = absurd (omega arith)
      on-head (x ∷ y ∷ z ∷ d ∷ ws) zs l p q =
          let m : e - 4 ≡ min (3 * slots) (length ws) = ap (λ (j : ℕ). j - 4) p ∙ head-end slots ws in
          let r : length zs ≡ e - 4 = ap length q ∙ length-replicate (length (take (e - 4) ws)) 0 ∙ length-take-le (e - 4) ws (omega arith) in
          let f : take (3 * slots) (zs ++ drop (e - 4) ws) ≡ zs = ap (λ (j : ℕ). take (3 * slots) (zs ++ drop j ws)) (sym r) ∙ slots-front zs ws slots (r ∙ m) in
          record {
            first = λ four. refl;
            none = λ four. refl;
            free = subst (λ (k : List ℕ). All (λ s. is_free s ≡ true) (slots_of k)) (sym (f ∙ q)) (zeros-free (length (take (e - 4) ws)));
            sized = let u = length-append zs (drop (e - 4) ws) in let v = length-drop (e - 4) ws in omega arith;
          }

-- ---- calls one behind the other

pub short-empties : (t : List ℕ) → length t < 4 → Empties t t
unfolding slots_of
short-empties [] l = record { first = λ four. absurd (omega arith); none = λ four. absurd (omega arith); free = tt; sized = refl }
short-empties (x ∷ []) l = record { first = λ four. absurd (omega arith); none = λ four. absurd (omega arith); free = tt; sized = refl }
short-empties (x ∷ y ∷ []) l = record { first = λ four. absurd (omega arith); none = λ four. absurd (omega arith); free = tt; sized = refl }
short-empties (x ∷ y ∷ z ∷ []) l = record { first = λ four. absurd (omega arith); none = λ four. absurd (omega arith); free = tt; sized = refl }
short-empties (x ∷ y ∷ z ∷ d ∷ ws) l = absurd (omega arith)

pub empty-then-entered : (t t' t'' : List ℕ) (used : Bytes) → Empties t t' → Keeps t' used t'' → Makes t used t''
empty-then-entered t t' t'' used a b = record { covers = b.covers (empty-covers t t' used a); sized = b.sized ∙ a.sized }

-- a table that is closed covers any store
pub closed-covers : (t : List ℕ) (used : Bytes) → Covers (set t 0 0) used
closed-covers [] used four p = absurd (omega arith)
closed-covers (x ∷ t) used four p = absurd (omega arith)
