-- Slots that stand as words, three each: the search over them, and a slot read and written.
-- Assumes nothing.
use Rattle.std.proofs.Common.{◌≡◌, ℕ, zero, suc, ◌+◌, ◌-◌, ◌*◌, ◌/◌, ◌<◌, ◌≤◌, Bool, true, false, cond, ◌||◌, eqb, ltb, List, [], ◌∷◌, ◌++◌, length, get_or, take, drop, set, replicate, sym, refl, ap, ◌∙◌, ap₂, arith, length-append, length-drop, drop_of_length-le, get_or-drop, drop-drop, eq-eqb, ne_eqb, lt-ltb, le-ltb, ltb-true, ltb-false}
use mathlib.Core.Option.{Option, none, some, some-injective, none-ne-some}
use Rattle.std.specs.declared.option.Option as code
use Rattle.std.specs.declared.option.Option.TheVariants.{Some, None}
use Rattle.std.specs.Option.{is_some}
use Rattle.std.specs.List.{position, position_or_len}
use Rattle.std.specs.Iterator.{AlwaysYields}
use Rattle.std.proofs.lemmas.Iterator.{YieldsList}
use Rattle.std.specs.Slice.Iter.{chunks_exact_rest, chunks_exact_size, chunks_exact_steps}
use Rattle.std.specs.declared.slice.ChunksExact.{ChunksExact}
use denote.Ref.{Bor}
use Rattle.std.proofs.lemmas.List.{take_rest}
use Rattle.lists.specs.Answers.{given}
use Rattle.lists.specs.Lists.{over, put, All}
use Rattle.lists.proofs.Writes.{put-fits}
use Rattle.records.specs.Readers.{Bytes}
use Rattle.hashes.specs.Hashes.{hash_of}
use Rattle.tuple_search.specs.Search.{first_with}
use Rattle.tuple_index.specs.declared.Slot.{Slot}
use Rattle.tuple_index.specs.Index.{is_free, slots_of, start_of, passes_by, seek, stops, number_at, number_in, free_in, in_row, slot_for, if_free, entered_at, Indexed}
use Rattle.tuple_index.proofs.Found.{found-is}

-- ---- places in a row

pub slots-many : (ws : List ℕ) → length (slots_of ws) ≡ length ws / 3
unfolding slots_of
slots-many [] = refl
slots-many (p ∷ []) = refl
slots-many (p ∷ m ∷ []) = refl
slots-many (p ∷ m ∷ h ∷ ws) = let e = slots-many ws in omega arith

pub row-at : (many k at : ℕ) → at ≡ k → at < many → some at ≡ in_row many k
unfolding in_row
row-at many k at e l = sym (rw (lt-ltb k many (omega arith)) (ap some (sym e)))

pub row-none : (many k : ℕ) → many ≤ k → none ≡ in_row many k
unfolding in_row
row-none many k l = sym (rw (le-ltb k many l))

pub row-some : (many k at : ℕ) → some at ≡ in_row many k → (at ≡ k) × (at < many)
unfolding in_row
row-some many k at h = by (ltb k many) refl h
  where
    by : (b : Bool) → ltb k many ≡ b → some at ≡ cond b (some k) none → (at ≡ k) × (at < many)
    by true e p = let q = some-injective _ _ p in let l = ltb-true k many e in (q, omega arith)
    by false e p = absurd (none-ne-some at (sym p))

pub row-past : (many k : ℕ) → none ≡ in_row many k → many ≤ k
unfolding in_row
row-past many k h = by (ltb k many) refl h
  where
    by : (b : Bool) → ltb k many ≡ b → none ≡ cond b (some k) none → many ≤ k
    by true e p = absurd (none-ne-some k p)
    by false e p = ltb-false k many e

-- ---- where the search stops

-- three words, as they are cut off, are a slot
abbrev pub cut_slot : Bor (List ℕ) → Slot
cut_slot b = record { place = get_or b.now 0 0; number = get_or b.now 1 0; hash = get_or b.now 2 0 }

three-cut : (p n h : ℕ) (ws x r : List ℕ) → length x ≡ 3 → p ∷ n ∷ h ∷ ws ≡ x ++ r
    → (◌≡◌ {A = Slot} (record { place = get_or x 0 0; number = get_or x 1 0; hash = get_or x 2 0 }) (record { place = p; number = n; hash = h })) × (r ≡ ws)
three-cut p n h ws [] r l e = absurd (omega arith)
three-cut p n h ws (a ∷ []) r l e = absurd (omega arith)
three-cut p n h ws (a ∷ b ∷ []) r l e = absurd (omega arith)
three-cut p n h ws (a ∷ b ∷ c ∷ []) r l e =
    (sym (ap (λ (l : List ℕ). record { place = get_or l 0 0; number = get_or l 1 0; hash = get_or l 2 0 }) e), sym (ap (drop 3) e))
three-cut p n h ws (a ∷ b ∷ c ∷ d ∷ x) r l e = absurd (omega arith)

-- the pieces of three words are the slots
pieces : (s : ChunksExact ℕ) (ws : List ℕ) → chunks_exact_size s ≡ 3 → chunks_exact_rest s ≡ ws → AlwaysYields chunks_exact_steps cut_slot s (slots_of ws)
unfolding slots_of
pieces s [] z e = λ x j t. let a = ap length (sym e ∙ t.1.0) in let b = length-append x.now (chunks_exact_rest j) in let c = t.1.1 in omega arith
pieces s (p ∷ []) z e = λ x j t. let a = ap length (sym e ∙ t.1.0) in let b = length-append x.now (chunks_exact_rest j) in let c = t.1.1 in omega arith
pieces s (p ∷ n ∷ []) z e = λ x j t. let a = ap length (sym e ∙ t.1.0) in let b = length-append x.now (chunks_exact_rest j) in let c = t.1.1 in omega arith
pieces s (p ∷ n ∷ h ∷ ws) z e = (
  (λ j t. let a = ap length e in let b = t.1.0 in omega arith),
  (λ x j t. let c = three-cut p n h ws x.now (chunks_exact_rest j) (t.1.1 ∙ z) (sym e ∙ t.1.0) in (c.0, pieces j ws (t.0 ∙ z) c.1)),
)

pub slot-walk : (s : ChunksExact ℕ) (ws : List ℕ) → chunks_exact_size s ≡ 3 → chunks_exact_rest s ≡ ws → YieldsList chunks_exact_steps cut_slot s (slots_of ws)
slot-walk s ws z e = record { runs = pieces s ws z e }

module _ (test : Slot → Bool) where
  abbrev halts : Slot → Bool
  halts s = is_free s || test s

  stops-at : (ss : List Slot) → stops test ss ≡ position_or_len halts ss
  unfolding stops
  stops-at [] = refl
  stops-at (s ∷ ss) = by (is_free s || test s) refl (stops-at ss)
    where
      by : (b : Bool) → (is_free s || test s) ≡ b → stops test ss ≡ position_or_len halts ss → cond b 0 (suc (stops test ss)) ≡ position_or_len halts (s ∷ ss)
      by true t e = sym (rw t)
      by false t e = sym (rw t (omega arith))

  -- the position that is found is the place where it stops, in the row
  pub stop-place : (ss : List Slot) (r : code.Option ℕ) → r ≡ position halts ss → given r ≡ in_row (length ss) (stops test ss)
  unfolding in_row
  stop-place ss r e = ap given e ∙ by (ltb (position_or_len halts ss) (length ss)) refl
    where
      by : (b : Bool) → ltb (position_or_len halts ss) (length ss) ≡ b → given (cond b (Some (position_or_len halts ss)) None) ≡ cond (ltb (stops test ss) (length ss)) (some (stops test ss)) none
      by true l = sym (ap (λ (k : ℕ). cond (ltb k (length ss)) (some k) none) (stops-at ss) ∙ rw l)
      by false l = sym (ap (λ (k : ℕ). cond (ltb k (length ss)) (some k) none) (stops-at ss) ∙ rw l)

  -- the number that is found is that of the slot where it stops
  pub stop-number : (ss : List Slot) → number_at (drop (stops test ss) ss) ≡ seek test ss
  unfolding stops seek number_at
  stop-number [] = refl
  stop-number (s ∷ ss) = by (is_free s) (test s) refl (stop-number ss)
    where
      by : (f t : Bool) → is_free s ≡ f → number_at (drop (stops test ss) ss) ≡ seek test ss
          → number_at (drop (cond (f || t) 0 (suc (stops test ss))) (s ∷ ss)) ≡ cond f 0 (cond t s.number (seek test ss))
      by true t e ih = rw e
      by false true e ih = rw e
      by false false e ih = ih

-- ---- the slots from one on

times-three : (n : ℕ) → 3 * suc n ≡ suc (suc (suc (3 * n)))
times-three n = omega arith

pub slots-drop : (n : ℕ) (ws : List ℕ) → slots_of (drop (3 * n) ws) ≡ drop n (slots_of ws)
unfolding slots_of
slots-drop zero ws = refl
slots-drop (suc n) [] = ap (λ (k : ℕ). slots_of (drop k [])) (times-three n)
slots-drop (suc n) (p ∷ []) = ap (λ (k : ℕ). slots_of (drop k (p ∷ []))) (times-three n)
slots-drop (suc n) (p ∷ m ∷ []) = ap (λ (k : ℕ). slots_of (drop k (p ∷ m ∷ []))) (times-three n)
slots-drop (suc n) (p ∷ m ∷ h ∷ ws) = ap (λ (k : ℕ). slots_of (drop k (p ∷ m ∷ h ∷ ws))) (times-three n) ∙ slots-drop n ws

-- THE SEARCH over words: by the first slot that the code has, and the words behind it
module _ (test : Slot → Bool) (ws : List ℕ) (h m s : ℕ) (em : m ≡ length ws / 3) (es : s ≡ start_of m h) where
  abbrev rest : List ℕ
  rest = take (length ws - 3 * s) (drop (3 * s) ws)

  start : s ≡ start_of (length (slots_of ws)) h
  start = es ∙ ap (λ (n : ℕ). start_of n h) (em ∙ sym (slots-many ws))

  behind : slots_of rest ≡ drop s (slots_of ws)
  behind = ap slots_of (take_rest ws (3 * s)) ∙ slots-drop s ws

  many : length (slots_of rest) ≡ length (slots_of ws) - s
  many = ap length behind ∙ length-drop s (slots_of ws)

  ends : slot_for test h (slots_of ws) ≡ s + stops test (slots_of rest)
  unfolding slot_for
  ends = rw (← start, behind)

  pub seek-none : none ≡ in_row (length (slots_of rest)) (stops test (slots_of rest)) → none ≡ in_row (length (slots_of ws)) (slot_for test h (slots_of ws))
  seek-none e = let l = row-past _ _ e in let n = many in row-none _ _ (omega (arith, ends))

  pub seek-some : (k : ℕ) → some k ≡ in_row (length (slots_of rest)) (stops test (slots_of rest)) → some (s + k) ≡ in_row (length (slots_of ws)) (slot_for test h (slots_of ws))
  seek-some k e = let q = row-some _ _ k e in let n = many in let z = ends in row-at _ _ (s + k) (omega (arith, q.0, z)) (omega (arith, q.1, n))

  pub seek-fits : (k : ℕ) → some k ≡ in_row (length (slots_of rest)) (stops test (slots_of rest)) → s + k ≤ length ws
  seek-fits k e = let q = row-some _ _ k e in let n = many in let m = slots-many ws in omega (arith, q.1, n, m)

-- what stands in the slot where the search ends is what is found along the slots
pub slot-number : (test : Slot → Bool) (h at : ℕ) (ss : List Slot) → at ≡ slot_for test h ss → number_at (drop at ss) ≡ seek test (drop (start_of (length ss) h) ss)
unfolding slot_for
slot-number test h at ss e =
    let s : ℕ = start_of (length ss) h in
    ap (λ (k : ℕ). number_at (drop k ss)) e ∙ ap number_at (sym (drop-drop (stops test (drop s ss)) s ss)) ∙ stop-number test (drop s ss)

-- and what the walk over all records finds
pub words-found : (tail : Slot → Bytes) (ws : List ℕ) (q : Bytes) (h at : ℕ) → h ≡ hash_of q → at ≡ slot_for (passes_by none tail h q) h (slots_of ws)
    → (fs : List Bytes) → Indexed fs tail (slots_of ws) → number_at (drop at (slots_of ws)) ≡ first_with q fs
words-found tail ws q h at eh ea fs i =
    slot-number (passes_by none tail h q) h at (slots_of ws) ea
    ∙ ap (λ (k : ℕ). seek (passes_by none tail k q) (drop (start_of (length (slots_of ws)) k) (slots_of ws))) eh
    ∙ found-is fs tail (slots_of ws) i q

-- ---- one slot

-- a slot's number is there, and is what `number_at` gives
pub number-same : (ss : List Slot) (n : ℕ) → some n ≡ number_in ss → n ≡ number_at ss
unfolding number_in number_at
number-same [] n e = absurd (none-ne-some n (sym e))
number-same (s ∷ ss) n e = by (is_free s) e
  where
    by : (b : Bool) → some n ≡ cond b none (some s.number) → n ≡ cond b 0 s.number
    by true p = absurd (none-ne-some n (sym p))
    by false p = some-injective _ _ p

pub number-zero : (ss : List Slot) → none ≡ number_in ss → number_at ss ≡ 0
unfolding number_in number_at
number-zero [] e = refl
number-zero (s ∷ ss) e = by (is_free s) e
  where
    by : (b : Bool) → none ≡ cond b none (some s.number) → cond b 0 s.number ≡ 0
    by true p = refl
    by false p = absurd (none-ne-some s.number p)

-- what is true of slots that are taken is true of one that says this number
pub taken-one : (p : Slot → Type 0) (ss : List Slot) → All (λ s. is_free s ≡ false → p s) ss → (n : ℕ) → some n ≡ number_in ss → (s : Slot) × (p s) × (s.number ≡ n)
unfolding number_in
taken-one p [] a n e = absurd (none-ne-some n (sym e))
taken-one p (s ∷ ss) a n e = by (is_free s) refl e
  where
    by : (b : Bool) → is_free s ≡ b → some n ≡ cond b none (some s.number) → (s : Slot) × (p s) × (s.number ≡ n)
    by true f q = absurd (none-ne-some n (sym q))
    by false f q = (s, a.0 f, sym (some-injective _ _ q))

-- past the last
pub past-row : (ss : List Slot) (k : ℕ) → length ss ≤ k → (none ≡ number_in (drop k ss)) × (none ≡ free_in (drop k ss))
unfolding number_in free_in
past-row ss k l = let e = drop_of_length-le ss {i = k} l in (sym (ap number_in e), sym (ap free_in e))

front-none : (ws : List ℕ) → 2 < length ws → get_or ws 0 0 ≡ 0 → none ≡ number_in (slots_of ws)
unfolding number_in slots_of
front-none [] l e = refl
front-none (p ∷ []) l e = refl
front-none (p ∷ n ∷ []) l e = refl
front-none (p ∷ n ∷ h ∷ ws) l e = rw (eq-eqb p 0 e)

front-some : (ws : List ℕ) → 2 < length ws → (get_or ws 0 0 ≡ 0 → ⊥) → some (get_or ws 1 0) ≡ number_in (slots_of ws)
unfolding number_in slots_of
front-some [] l e = absurd (omega arith)
front-some (p ∷ []) l e = absurd (omega arith)
front-some (p ∷ n ∷ []) l e = absurd (omega arith)
front-some (p ∷ n ∷ h ∷ ws) l e = rw (ne_eqb p 0 e)

front-is : (ws : List ℕ) → 2 < length ws → some (eqb (get_or ws 0 0) 0) ≡ free_in (slots_of ws)
unfolding free_in slots_of
front-is [] l = absurd (omega arith)
front-is (p ∷ []) l = absurd (omega arith)
front-is (p ∷ n ∷ []) l = absurd (omega arith)
front-is (p ∷ n ∷ h ∷ ws) l = refl

front-there : (ws : List ℕ) (b : Bool) → some b ≡ free_in (slots_of ws) → 2 < length ws
unfolding free_in slots_of
front-there [] b e = absurd (no-free b e)
  where
    no-free : (b : Bool) → some b ≡ none → ⊥
    no-free b e = let z : ◌≡◌ {A = ℕ} 0 1 = cc in omega arith
front-there (p ∷ []) b e = let z : ◌≡◌ {A = ℕ} 0 1 = cc in absurd (omega arith)
front-there (p ∷ n ∷ []) b e = let z : ◌≡◌ {A = ℕ} 0 1 = cc in absurd (omega arith)
front-there (p ∷ n ∷ h ∷ ws) b e = omega arith

three-there : (at : ℕ) (ws : List ℕ) → at < length ws / 3 → 2 < length (drop (3 * at) ws)
three-there at ws h = omega (arith, length-drop (3 * at) ws)

front-free : (ws : List ℕ) → 2 < length ws → get_or ws 0 0 ≡ 0 → 0 ≡ number_at (slots_of ws)
unfolding number_at slots_of
front-free [] l e = refl
front-free (p ∷ []) l e = refl
front-free (p ∷ n ∷ []) l e = refl
front-free (p ∷ n ∷ h ∷ ws) l e = rw (eq-eqb p 0 e)

module _ (ws : List ℕ) (at : ℕ) where
  first-there : get_or (drop (3 * at) ws) 0 0 ≡ get_or ws (3 * at) 0
  first-there = get_or-drop (3 * at) ws 0 0 ∙ ap (λ (k : ℕ). get_or ws k 0) (let z : 3 * at + 0 ≡ 3 * at = omega arith in z)

  pub number-free : at < length ws / 3 → get_or ws (3 * at) 0 ≡ 0 → 0 ≡ number_at (drop at (slots_of ws))
  number-free l e = front-free (drop (3 * at) ws) (three-there at ws l) (first-there ∙ e) ∙ ap number_at (slots-drop at ws)

  pub found-none : at < length ws / 3 → get_or ws (3 * at) 0 ≡ 0 → none ≡ number_in (drop at (slots_of ws))
  found-none l e = front-none (drop (3 * at) ws) (three-there at ws l) (first-there ∙ e) ∙ ap number_in (slots-drop at ws)

  pub found-some : at < length ws / 3 → (get_or ws (3 * at) 0 ≡ 0 → ⊥) → some (get_or ws (3 * at + 1) 0) ≡ number_in (drop at (slots_of ws))
  found-some l e =
      ap some (sym (get_or-drop (3 * at) ws 1 0)) ∙ front-some (drop (3 * at) ws) (three-there at ws l) (λ z. e (sym first-there ∙ z)) ∙ ap number_in (slots-drop at ws)

  -- whether it is free
  pub free-is : at < length ws / 3 → some (eqb (get_or ws (3 * at) 0) 0) ≡ free_in (drop at (slots_of ws))
  free-is l = ap (λ (k : ℕ). some (eqb k 0)) (sym first-there) ∙ front-is (drop (3 * at) ws) (three-there at ws l) ∙ ap free_in (slots-drop at ws)

  pub free-there : (b : Bool) → some b ≡ free_in (drop at (slots_of ws)) → (at < length ws / 3) × (eqb (get_or ws (3 * at) 0) 0 ≡ b)
  free-there b e =
      let l = front-there (drop (3 * at) ws) b (e ∙ ap free_in (sym (slots-drop at ws))) in
      let t : at < length ws / 3 = omega (arith, l, length-drop (3 * at) ws) in
      (t, some-injective _ _ (free-is t ∙ sym e))

  -- where none is there, none is entered
  pub entered-full : none ≡ free_in (drop at (slots_of ws)) → (s : Slot) → entered_at at s ws ≡ ws
  unfolding entered_at
  entered-full e s = ap (λ (o : Option Bool). if_free o (put ws (3 * at) (s.place ∷ s.number ∷ s.hash ∷ [])) ws) (sym e)

-- one that is there is free where it has no number
free-one : (ss : List Slot) → 0 < length ss → none ≡ number_in ss → some true ≡ free_in ss
unfolding number_in free_in
free-one [] l e = absurd (omega arith)
free-one (s ∷ ss) l e = by (is_free s) e
  where
    by : (b : Bool) → none ≡ cond b none (some s.number) → some true ≡ some b
    by true p = refl
    by false p = absurd (none-ne-some s.number p)

taken-none : (ss : List Slot) (n : ℕ) → some n ≡ number_in ss → some false ≡ free_in ss
unfolding number_in free_in
taken-none [] n e = absurd (none-ne-some n (sym e))
taken-none (s ∷ ss) n e = by (is_free s) e
  where
    by : (b : Bool) → some n ≡ cond b none (some s.number) → some false ≡ some b
    by true p = absurd (none-ne-some n (sym p))
    by false p = refl

-- as the code asks it
pub free-by : (ss : List Slot) (k : ℕ) → k < length ss → (r : code.Option ℕ) → given r ≡ number_in (drop k ss) → is_some r ≡ false → some true ≡ free_in (drop k ss)
free-by ss k l None e i = free-one (drop k ss) (let d = length-drop k ss in omega arith) e
free-by ss k l (Some n) e i = absurd (let z : ◌≡◌ {A = ℕ} 0 1 = cc in omega arith)

pub taken-by : (ss : List Slot) (k : ℕ) → (r : code.Option ℕ) → given r ≡ number_in (drop k ss) → is_some r ≡ true → some false ≡ free_in (drop k ss)
taken-by ss k None e i = absurd (let z : ◌≡◌ {A = ℕ} 0 1 = cc in omega arith)
taken-by ss k (Some n) e i = taken-none (drop k ss) n e

-- a slot that is entered where the search ends
module _ (ws : List ℕ) (s : Slot) (k : ℕ) where
  pub enters-none : length (slots_of ws) ≤ k → (none ≡ free_in (drop k (slots_of ws))) × (ws ≡ entered_at k s ws)
  unfolding entered_at
  enters-none l =
      let e = (past-row (slots_of ws) k l).1 in
      (e, ap (λ (o : Option Bool). if_free o (put ws (3 * k) (s.place ∷ s.number ∷ s.hash ∷ [])) ws) e)

  pub enters : (at : ℕ) → at ≡ k → at < length (slots_of ws) → (b : Bool) → eqb (get_or ws (3 * at) 0) 0 ≡ b
      → (some b ≡ free_in (drop k (slots_of ws))) × (cond b (put ws (3 * at) (s.place ∷ s.number ∷ s.hash ∷ [])) ws ≡ entered_at k s ws)
  unfolding entered_at
  enters at e l b q =
      let f : some b ≡ free_in (drop k (slots_of ws)) =
      ap some (sym q) ∙ free-is ws at (omega (arith, l, slots-many ws)) ∙ ap (λ (j : ℕ). free_in (drop j (slots_of ws))) e in (
        f,
        ap (λ (j : ℕ). cond b (put ws (3 * j) (s.place ∷ s.number ∷ s.hash ∷ [])) ws) e
            ∙ ap (λ (o : Option Bool). if_free o (put ws (3 * k) (s.place ∷ s.number ∷ s.hash ∷ [])) ws) f,
      )

further : (n : ℕ) → 3 * suc n + 3 ≡ suc (suc (suc (3 * n + 3)))
further n = omega arith

-- a slot written
pub slots-put : (at : ℕ) (ws : List ℕ) (p n h : ℕ) → at < length ws / 3
    → slots_of (put ws (3 * at) (p ∷ n ∷ h ∷ [])) ≡ set (slots_of ws) at (record { place = p; number = n; hash = h })
unfolding slots_of
slots-put at ws p n h l = ap slots_of (put-fits ws (3 * at) (p ∷ n ∷ h ∷ []) (omega arith)) ∙ by at ws l
  where
    by : (at : ℕ) (ws : List ℕ) → at < length ws / 3 → slots_of (over ws (3 * at) (p ∷ n ∷ h ∷ [])) ≡ set (slots_of ws) at (record { place = p; number = n; hash = h })
    by zero [] l = absurd (omega arith)
    by zero (a ∷ []) l = absurd (omega arith)
    by zero (a ∷ b ∷ []) l = absurd (omega arith)
    by zero (a ∷ b ∷ c ∷ ws) l = refl
    by (suc at) [] l = absurd (omega arith)
    by (suc at) (a ∷ []) l = absurd (omega arith)
    by (suc at) (a ∷ b ∷ []) l = absurd (omega arith)
    by (suc at) (a ∷ b ∷ c ∷ ws) l =
        ap₂ (λ (k e : ℕ). slots_of (take k (a ∷ b ∷ c ∷ ws) ++ ((p ∷ n ∷ h ∷ []) ++ drop e (a ∷ b ∷ c ∷ ws)))) (times-three at) (further at)
        ∙ ap (λ (r : List Slot). record { place = a; number = b; hash = c } ∷ r) (by at ws (omega arith))

-- slots of zeros are free
pub zeros-free : (n : ℕ) → All (λ s. is_free s ≡ true) (slots_of (replicate n 0))
unfolding slots_of
zeros-free zero = tt
zeros-free (suc zero) = tt
zeros-free (suc (suc zero)) = tt
zeros-free (suc (suc (suc n))) = (eq-eqb 0 0 refl, zeros-free n)
