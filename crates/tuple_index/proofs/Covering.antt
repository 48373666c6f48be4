-- How much of a store a table covers: one record more, with a slot of its own or without; a store that grows; and what is found by a table and the walk behind it.
-- Assumes nothing.
use Rattle.std.proofs.Common.{◌≡◌, ℕ, zero, suc, ◌+◌, ◌-◌, ◌*◌, ◌/◌, ◌<◌, ◌≤◌, Bool, true, false, cond, ◌||◌, ltb, List, [], ◌∷◌, ◌++◌, length, get_or, take, drop, set, sym, refl, ap, ◌∙◌, subst, ap₂, append_assoc, arith, length-drop, length-take-le, get_or-drop, drop-drop, eq-eqb, ne_eqb}
use lib.Seq.{drop-append-le, split_at, set_split}
use mathlib.Core.Option.{Option, none, some, map, some-injective, none-ne-some}
use Rattle.lists.proofs.Folds.{All-append, All-parts, length-snoc}
use Rattle.texts.specs.Texts.{same}
use Rattle.numbers.specs.Numbers.{two}
use Rattle.records.specs.Readers.{Bytes}
use Rattle.hashes.specs.Hashes.{hash_of}
use Rattle.session_spec.specs.Definitions.{frame}
use Rattle.session_laws.proofs.Stores.{frame-stable}
use Rattle.output_stores.specs.Stores.{standing}
use Rattle.output_stores.proofs.Walks.{standing_on}
use Rattle.tuple_search.specs.Search.{or_zero, place_with, first_with}
use Rattle.frames.proofs.Fronts.{frame-shortens, Front, front}
use Rattle.tuple_index.specs.declared.Slot.{Slot}
use Rattle.tuple_index.specs.Index.{is_free, slots_of, start_of, stops, number_at, Right, Indexed}
use Rattle.tuple_index.specs.Covers.{tail_from, tail_in, Inside, place_behind, next_place, Covered}
use Rattle.tuple_index.proofs.Entering.{entered, repeated}
use Rattle.tuple_index.proofs.Words.{slots-drop, slots-many}
use Rattle.lists.specs.Lists.{All}
use Rattle.lists.proofs.Writes.{drop-take}

-- ---- the record at a place

two-behind : (used : Bytes) (c : ℕ) → two (drop c used) 2 ≡ two used (suc c + 1)
unfolding two
two-behind used c =
    ap₂ (λ (a b : ℕ). a + 256 * b)
    (get_or-drop c used 2 0 ∙ ap (λ (k : ℕ). get_or used k 0) (let z : c + 2 ≡ suc c + 1 = omega arith in z))
    (get_or-drop c used (2 + 1) 0 ∙ ap (λ (k : ℕ). get_or used k 0) (let z : c + (2 + 1) ≡ suc c + 1 + 1 = omega arith in z))

-- n bytes are a record, and those behind it are left
pub record Whole (s : Bytes) (n : ℕ) : Type 0 where
  pub inside : n ≤ length s
  pub cut : frame s ≡ some (take n s, drop n s)

-- a whole record stands at `next`, and what is behind it at `after`, both counted from 1
pub record Stands (used : Bytes) (next after : ℕ) : Type 0 where
  pub first : 0 < next
  pub behind : after ≡ next + (two used (next + 1) + 4)
  pub whole : Whole (drop (next - 1) used) (two used (next + 1) + 4)

pub next-stands : (used : Bytes) (next after : ℕ) → some after ≡ next_place used next → Stands used next after
unfolding next_place
next-stands used zero after h = let z : ◌≡◌ {A = ℕ} 0 1 = cc in absurd (omega arith)
next-stands used (suc c) after h = by (frame (drop c used)) refl h
  where
    by : (o : Option (Bytes × Bytes)) → frame (drop c used) ≡ o → some after ≡ place_behind (suc c) o → Stands used (suc c) after
    by none p q = let z : ◌≡◌ {A = ℕ} 0 1 = cc in absurd (omega arith)
    by (some x) p q = then (ltb 4294967295 (suc c + length x.0)) q
      where
        here : Front (drop c used) x.0 x.1
        here = front (drop c used) x.0 x.1 p

        size : length x.0 ≡ two used (suc c + 1) + 4
        size = sym here.states ∙ ap (λ (k : ℕ). k + 4) (two-behind used c)

        cut : frame (drop c used) ≡ some (take (two used (suc c + 1) + 4) (drop c used), drop (two used (suc c + 1) + 4) (drop c used))
        cut =
            p
            ∙ ap (λ (y : Bytes). some (y, x.1)) (here.front ∙ ap (λ (k : ℕ). take k (drop c used)) size)
            ∙ ap (λ (y : Bytes). some (take (two used (suc c + 1) + 4) (drop c used), y)) (here.behind ∙ ap (λ (k : ℕ). drop k (drop c used)) size)

        then : (b : Bool) → some after ≡ cond b none (some (suc c + length x.0)) → Stands used (suc c) after
        then true q = let z : ◌≡◌ {A = ℕ} 0 1 = cc in absurd (omega arith)
        then false q =
            record {
              first = omega arith;
              behind = some-injective _ _ q ∙ ap (λ (k : ℕ). suc c + k) size;
              whole = subst (λ (j : ℕ). Whole (drop j used) (two used (suc c + 1) + 4)) (let z : c ≡ suc c - 1 = omega arith in z)
                  (record { inside = let i = here.inside in omega (arith, size); cut = cut });
            }

-- it ends within the store
pub stands-within : (used : Bytes) (next after : ℕ) → Stands used next after → (next < after) × (after ≤ length used + 1)
stands-within used next after st =
    let b = st.behind in
    let f = st.first in
    let i = st.whole.inside in
    let l = length-drop (next - 1) used in
    (omega arith, omega arith)

-- its bytes behind the first and `skip` more are those that a slot with its place points at
pub tail-is : (used : Bytes) (next skip : ℕ) → 0 < next → tail_from used skip next ≡ drop (suc skip) (take (two used (next + 1) + 4) (drop (next - 1) used))
tail-is used next skip h =
    let t : ℕ = two used (next + 1) in
    sym (drop-take (suc skip) (t + 4) (drop (next - 1) used)
    ∙ ap₂ (λ (m : ℕ) (l : Bytes). take m l) (let z : t + 4 - suc skip ≡ t + 3 - skip = omega arith in z)
    (drop-drop (suc skip) (next - 1) used ∙ ap (λ (k : ℕ). drop k used) (let z : next - 1 + suc skip ≡ next + skip = omega arith in z)))

-- ---- where a search stops

-- all that it passes are taken
pub stops-taken : (test : Slot → Bool) (ss : List Slot) → All (λ s. is_free s ≡ false) (take (stops test ss) ss)
unfolding stops
stops-taken test [] = tt
stops-taken test (s ∷ ss) = by (is_free s) (test s) refl (stops-taken test ss)
  where
    by : (f t : Bool) → is_free s ≡ f → All (λ s. is_free s ≡ false) (take (stops test ss) ss) → All (λ s. is_free s ≡ false) (take (cond (f || t) 0 (suc (stops test ss))) (s ∷ ss))
    by true t e a = tt
    by false true e a = tt
    by false false e a = (e, a)

abbrev pub blank : Slot
blank = record { place = 0; number = 0; hash = 0 }

front-slot : (ws : List ℕ) → 2 < length ws → (get_or (slots_of ws) 0 blank).place ≡ get_or ws 0 0
unfolding slots_of
front-slot [] l = absurd (omega arith)
front-slot (p ∷ []) l = absurd (omega arith)
front-slot (p ∷ n ∷ []) l = absurd (omega arith)
front-slot (p ∷ n ∷ h ∷ ws) l = refl

pub slot-place : (ws : List ℕ) (at : ℕ) → at < length ws / 3 → (get_or (slots_of ws) at blank).place ≡ get_or ws (3 * at) 0
slot-place ws at l =
    ap (λ (k : ℕ). (get_or (slots_of ws) k blank).place) (let z : at ≡ at + 0 = omega arith in z)
    ∙ ap (λ (s : Slot). s.place) (sym (get_or-drop at (slots_of ws) 0 blank))
    ∙ ap (λ (ss : List Slot). (get_or ss 0 blank).place) (sym (slots-drop at ws))
    ∙ front-slot (drop (3 * at) ws) (omega (arith, length-drop (3 * at) ws))
    ∙ get_or-drop (3 * at) ws 0 0
    ∙ ap (λ (k : ℕ). get_or ws k 0) (let z : 3 * at + 0 ≡ 3 * at = omega arith in z)

-- the slot that is read there
pub number-there : (ss : List Slot) (at : ℕ) → at < length ss → number_at (drop at ss) ≡ cond (is_free (get_or ss at blank)) 0 (get_or ss at blank).number
unfolding number_at
number-there [] at l = absurd (omega arith)
number-there (s ∷ ss) zero l = refl
number-there (s ∷ ss) (suc at) l = number-there ss at (omega arith)

pub All-at : (p : Slot → Type 0) (ss : List Slot) (at : ℕ) → at < length ss → All p ss → p (get_or ss at blank)
All-at p [] at l a = absurd (omega arith)
All-at p (s ∷ ss) zero l a = a.0
All-at p (s ∷ ss) (suc at) l a = All-at p ss at (omega arith) a.1

-- ---- numbers of the walk

place-pos : (t : Bytes) (fs : List Bytes) (n : ℕ) → place_with t fs ≡ some n → 0 < n
unfolding place_with
place-pos t [] n e = absurd (none-ne-some n e)
place-pos t (f ∷ fs) n e = by (same (drop 5 f) t) (place_with t fs) e
  where
    by : (b : Bool) (o : Option ℕ) → cond b (some 1) (map suc o) ≡ some n → 0 < n
    by true o r = let z : 1 ≡ n = cc in omega arith
    by false (some m) r = let z : suc m ≡ n = cc in omega arith
    by false none r = absurd (none-ne-some n r)

pub first-none : (t : Bytes) (fs : List Bytes) → first_with t fs ≡ 0 → place_with t fs ≡ none
unfolding first_with or_zero
first-none t fs h = by (place_with t fs) refl h
  where
    by : (o : Option ℕ) → place_with t fs ≡ o → or_zero o ≡ 0 → place_with t fs ≡ none
    by none e z = e
    by (some n) e z = absurd (let p = place-pos t fs n e in omega arith)

pub first_some : (t : Bytes) (fs : List Bytes) → 0 < first_with t fs → place_with t fs ≡ some (first_with t fs)
unfolding first_with or_zero
first_some t fs h = by (place_with t fs) refl h
  where
    by : (o : Option ℕ) → place_with t fs ≡ o → 0 < or_zero o → place_with t fs ≡ some (or_zero (place_with t fs))
    by none e z = absurd (omega arith)
    by (some n) e z = e ∙ ap some (sym (ap or_zero e))

-- a slot that is taken says a number
pub number-pos : (fs : List Bytes) (tail : Slot → Bytes) (ws : List ℕ) (at : ℕ) → at < length ws / 3 → (get_or ws (3 * at) 0 ≡ 0 → ⊥) → Indexed fs tail (slots_of ws)
    → 0 < number_at (drop at (slots_of ws))
number-pos fs tail ws at l n i =
    let ss : List Slot = slots_of ws in
    let there : at < length (slots_of ws) = omega (arith, slots-many ws) in
    let f : is_free (get_or (slots_of ws) at blank) ≡ false = ne_eqb (get_or (slots_of ws) at blank).place 0 (λ z. n (sym (slot-place ws at l) ∙ z)) in
    let r = All-at (λ s. is_free s ≡ false → Right fs tail s) (slots_of ws) at there i.sound f in
    let e : number_at (drop at (slots_of ws)) ≡ (get_or (slots_of ws) at blank).number =
    number-there (slots_of ws) at there ∙ ap (λ (b : Bool). cond b 0 (get_or (slots_of ws) at blank).number) f in
    let p = r.stands in
    let q = r.number in
    omega (arith, e, p, q)

-- ---- one record more

-- it stands behind those before the place, and what is behind it begins at the next place, whatever comes there
module _ (used : Bytes) (next after : ℕ) (st : Stands used next after) (before : List Bytes) (within : next - 1 ≤ length used)
    (stands : (more : Bytes) → standing frame (used ++ more) ≡ before ++ standing frame (drop (next - 1) (used ++ more))) where
  abbrev rest : Bytes
  rest = drop (next - 1) used

  abbrev pub the_record : Bytes
  the_record = take (two used (next + 1) + 4) (drop (next - 1) used)

  after-least : after - 1 ≡ next - 1 + (two used (next + 1) + 4)
  after-least = let b = st.behind in let f = st.first in omega arith

  pub reach-within : after - 1 ≤ length used
  reach-within = let i = st.whole.inside in let l = length-drop (next - 1) used in let a = after-least in let w = within in omega arith

  pub reach-stands : (more : Bytes) → standing frame (used ++ more) ≡ (before ++ (the_record ∷ [])) ++ standing frame (drop (after - 1) (used ++ more))
  reach-stands more =
      let size : ℕ = two used (next + 1) + 4 in
      let d : drop (next - 1) (used ++ more) ≡ rest ++ more = drop-append-le (next - 1) used more within in
      let e : drop size rest ++ more ≡ drop (after - 1) (used ++ more) =
      ap (λ (l : Bytes). l ++ more) (drop-drop size (next - 1) used ∙ ap (λ (k : ℕ). drop k used) (sym after-least))
      ∙ sym (drop-append-le (after - 1) used more reach-within) in
      stands more
      ∙ ap (λ (l : List Bytes). before ++ l)
      (ap (standing frame) d
      ∙ standing_on frame frame-shortens (rest ++ more) the_record (drop size rest ++ more) (frame-stable rest more the_record (drop size rest) st.whole.cut)
      ∙ ap (λ (l : Bytes). the_record ∷ standing frame l) e)
      ∙ sym (append_assoc before (the_record ∷ []) (standing frame (drop (after - 1) (used ++ more))))

module _ (used : Bytes) (next count after : ℕ) (ss : List Slot) (c : Covered next count ss used) (st : Stands used next after) where
  abbrev alone : Bytes
  alone = take (two used (next + 1) + 4) (drop (next - 1) used)

  within' : after - 1 ≤ length used
  within' = reach-within used next after st c.before c.within c.stands

  stands' : (more : Bytes) → standing frame (used ++ more) ≡ (c.before ++ (alone ∷ [])) ++ standing frame (drop (after - 1) (used ++ more))
  stands' more = reach-stands used next after st c.before c.within c.stands more

  counted' : count + 1 ≡ length (c.before ++ (alone ∷ []))
  counted' = let a = length-snoc c.before alone in let b = c.counted in omega arith

  own : tail_from used 4 next ≡ drop 5 alone
  own = tail-is used next 4 st.first

  -- one whose tail is there already
  pub covers-repeated : 0 < first_with (tail_from used 4 next) c.before → Covered after (count + 1) ss used
  covers-repeated p =
      record {
        before = c.before ++ (alone ∷ []);
        within = within';
        stands = stands';
        counted = counted';
        index = repeated c.before alone (tail_in used 4) [] blank blank [] ss c.index (first_with (tail_from used 4 next) c.before)
            (ap (λ (q : Bytes). place_with q c.before) (sym own) ∙ first_some (tail_from used 4 next) c.before p);
        inside = c.inside;
      }

  -- one that is entered in a free slot
  module _ (at h : ℕ) (new : first_with (tail_from used 4 next) c.before ≡ 0) (there : at < length ss) (free : (get_or ss at blank).place ≡ 0) (eh : h ≡ hash_of (tail_from used 4 next))
      (from : start_of (length ss) h ≤ at) (taken : All (λ x. is_free x ≡ false) (drop (start_of (length ss) h) (take at ss))) where
    abbrev slot : Slot
    slot = record { place = next; number = count + 1; hash = h }

    abbrev xs : List Slot
    xs = take at ss

    abbrev ys : List Slot
    ys = drop (suc at) ss

    abbrev old : Slot
    old = get_or ss at blank

    split : ss ≡ xs ++ (old ∷ ys)
    split = split_at ss at blank there

    is-hash : h ≡ hash_of (drop 5 alone)
    is-hash = eh ∙ ap hash_of own

    not_free : is_free slot ≡ false
    not_free = ne_eqb next 0 (let f = st.first in λ z. omega arith)

    index' : Indexed (c.before ++ (alone ∷ [])) (tail_in used 4) (xs ++ (slot ∷ ys))
    index' =
        entered c.before alone (tail_in used 4) xs old slot ys
        (subst (Indexed c.before (tail_in used 4)) split c.index)
        (eq-eqb old.place 0 free)
        not_free
        own
        is-hash
        (let k = c.counted in omega arith)
        (ap (λ (q : Bytes). place_with q c.before) (sym own) ∙ first-none (tail_from used 4 next) c.before new)
        (subst (λ (k : ℕ). start_of k (hash_of (drop 5 alone)) ≤ length xs) (ap length split)
        (subst (λ (k : ℕ). start_of (length ss) k ≤ length xs) is-hash (let e = length-take-le at ss (let t = there in omega arith) in omega (arith, e))))
        (subst (λ (k : ℕ). All (λ x. is_free x ≡ false) (drop (start_of k (hash_of (drop 5 alone))) xs)) (ap length split)
        (subst (λ (k : ℕ). All (λ x. is_free x ≡ false) (drop (start_of (length ss) k) xs)) is-hash taken))

    inside' : All (λ s. is_free s ≡ false → Inside used s) (xs ++ (slot ∷ ys))
    inside' =
        let p = All-parts (λ s. is_free s ≡ false → Inside used s) xs (old ∷ ys) (subst (All (λ s. is_free s ≡ false → Inside used s)) split c.inside) in
        let i = st.whole.inside in
        let f = st.first in
        let w = c.within in
        let l = length-drop (next - 1) used in
        All-append (λ s. is_free s ≡ false → Inside used s) xs (slot ∷ ys) p.0 ((λ e. omega arith), p.1.1)

    pub covers-entered : Covered after (count + 1) (set ss at (record { place = next; number = count + 1; hash = h })) used
    covers-entered =
        subst (λ (l : List Slot). Covered after (count + 1) l used) (sym (set_split ss at slot there))
        (record { before = c.before ++ (alone ∷ []); within = within'; stands = stands'; counted = counted'; index = index'; inside = inside' })
