-- The code's answers, test by test: by the kind byte, by what was found, and by the outcome of the cells, whose keys are those of the TU that is made.
-- Assumes nothing.
use Prim.Native.Nat.{ℕ, zero, suc, ◌+◌, ◌-◌, ◌*◌, ◌≤◌, ◌<◌, min}
use native.Mathlib.Omega.{arith}
use lib.ListN.{length, take, drop, get_or}
use lib.Seq.{drop-drop}
use types.Run.{OneOf, miss}
use denote.Enum.Declared.{tag_of}
use mathlib.Core.Logic.{◌⊎◌, inl, inr}
use mathlib.Core.Path.{◌≡◌, refl, ap, sym, ◌∙◌}
use mathlib.Core.Bool.{Bool, true, false, cond}
use mathlib.Core.List.{List, [], ◌∷◌}
use mathlib.Core.Option.{Option, none, some, map}
use Rattle.lists.specs.Lists.{any, part}
use Rattle.texts.specs.Texts.{Text, same}
use Rattle.tree.specs.Events.{Kind}
use Rattle.tree.specs.Cells.{Cell, Unset, Set, SetNillable, NotSimple, Multiple}
use Rattle.tree.specs.Judge as tree
use Rattle.tree.specs.Judge.{is_multiple, is_not_simple, first_unset, first_nillable, keys_of, several_nodes, no_simple_value, missing, on_nillable, complete, set_or, missing_or, outcome}
use Rattle.records.specs.Readers.{Bytes}
use Rattle.session_spec.specs.Definitions.{frame, kind_of}
use Rattle.cells.specs.Cells.{cell_for, cell_at}
use Rattle.output_stores.specs.Stores.{standing}
use Rattle.tuple_search.specs.declared.Made.{Made}
use Rattle.tuple_search.specs.Search.{first_keys, keys_in, tail_bytes, MadeOf, or_zero, place_with, first_with}
use Rattle.tuple_search.proofs.Added.{made-tail}
use Rattle.tuple_search.proofs.Keys.{tuple_in, keys-are}
use Rattle.outcomes.specs.declared.Outcome.{Outcome}
use Rattle.outcomes.specs.declared.Outcome.TheVariants.{Several, NotSimple, Missing, Nillable, Complete}
use Rattle.outcomes.specs.Outcomes.{cells_from, cells_in, numbered, said}
use Rattle.outcomes.proofs.Walking.{cells-length}
use Rattle.settlements.specs.declared.Told as code
use Rattle.settlements.specs.declared.ConstraintKind.{ConstraintKind}
use Rattle.settlements.specs.declared.ConstraintKind.TheVariants.{Unique, Key, Keyref}
use Rattle.settlements.specs.declared.Settled.{Settled}
use Rattle.settlements.specs.declared.Settled.TheVariants.{Nothing, Kept, Reported}
use Rattle.settlements.specs.contracts.Settled as declared
use Rattle.settlements.specs.Finished.{told_of, kind_in, Settlement, nothing, told, kept, settlement_of, found_or, complete_by, missing_by, nillable_by, settled_by}

-- ---- by the case of an answer

-- the other cases, by their numbers: so a `match` tells which are left
abbrev pub NotKept : Settled → Type 0
NotKept r = OneOf (0 ∷ 2 ∷ []) (tag_of declared.the_type r)

abbrev pub NotReported : Settled → Type 0
NotReported r = OneOf (0 ∷ 1 ∷ []) (tag_of declared.the_type r)

pub not-kept : (r : Settled) → NotKept r → (settlement_of r).keeps ≡ false
not-kept Nothing h = refl
not-kept Kept h = absurd (miss (0 ∷ 2 ∷ []) 1 tt h)
not-kept (Reported t) h = refl

pub not-reported : (r : Settled) → NotReported r → (settlement_of r).report ≡ none
not-reported Nothing h = refl
not-reported Kept h = refl
not-reported (Reported t) h = absurd (miss (0 ∷ 1 ∷ []) 2 tt h)

pub is-kept : (r : Settled) → r ≡ Kept → (settlement_of r).keeps ≡ true
is-kept r e = ap (λ (q : Settled). (settlement_of q).keeps) e

pub is-reported : (r : Settled) (t : code.Told) → r ≡ Reported t → (settlement_of r).report ≡ some (told_of t)
is-reported r t e = ap (λ (q : Settled). (settlement_of q).report) e

-- ---- by what was found

-- a place is from 1 on
place-one : (tail : Bytes) (fs : List Bytes) (n : ℕ) → place_with tail fs ≡ some n → 1 ≤ n
unfolding place_with
place-one tail [] n e = let z : ◌≡◌ {A = ℕ} 0 1 = cc in absurd (omega arith)
place-one tail (f ∷ fs) n e = by (same (drop 5 f) tail) (place_with tail fs) e
  where
    by : (b : Bool) (o : Option ℕ) → cond b (some 1) (map suc o) ≡ some n → 1 ≤ n
    by true o e = let z : 1 ≡ n = cc in omega arith
    by false none e = let z : ◌≡◌ {A = ℕ} 0 1 = cc in absurd (omega arith)
    by false (some m) e = let z : suc m ≡ n = cc in omega arith

pub found_none : (tail : Bytes) (fs : List Bytes) → none ≡ place_with tail fs → kept ≡ found_or (first_with tail fs)
unfolding found_or first_with or_zero
found_none tail fs e = ap (λ (o : Option ℕ). found_or (or_zero o)) e

-- a number that is found, and 4,294,967,295 at most
told-number : (n m : ℕ) → 1 ≤ n → m ≡ min n 4294967295 → told 4 0 m ≡ found_or n
unfolding found_or
told-number zero m h e = absurd (omega arith)
told-number (suc n) m h e = ap (told 4 0) e

pub found-some : (tail : Bytes) (fs : List Bytes) (n m : ℕ) → some n ≡ place_with tail fs → m ≡ min n 4294967295 → told 4 0 m ≡ found_or (first_with tail fs)
unfolding first_with or_zero
found-some tail fs n m e h = told-number n m (place-one tail fs n (sym e)) h ∙ ap (λ (o : Option ℕ). found_or (or_zero o)) e

-- ---- by the kind

-- the byte names it
pub byte-unique : (b : ℕ) → b ≡ 0 → kind_in Unique ≡ kind_of b
unfolding kind_of
byte-unique b e = sym (ap kind_of e)

pub byte-key : (b : ℕ) → b ≡ 1 → kind_in Key ≡ kind_of b
unfolding kind_of
byte-key b e = sym (ap kind_of e)

pub byte-keyref : (b : ℕ) → 2 ≤ b → kind_in Keyref ≡ kind_of b
unfolding kind_of
byte-keyref zero h = absurd (omega arith)
byte-keyref (suc zero) h = absurd (omega arith)
byte-keyref (suc (suc b)) h = refl

-- every kind but key goes by what a complete tuple comes to
pub nillable-other : (k : ConstraintKind) (r : Bool) (i n : ℕ) (s : Settlement) → (k ≡ Unique) ⊎ (k ≡ Keyref) → s ≡ complete_by (kind_in k) r n
    → s ≡ nillable_by (kind_in k) r i n
unfolding nillable_by
nillable-other k r i n s (inl h) e = rw h (e ∙ ap (λ (q : ConstraintKind). complete_by (kind_in q) r n) h)
nillable-other k r i n s (inr h) e = rw h (e ∙ ap (λ (q : ConstraintKind). complete_by (kind_in q) r n) h)

pub missing-other : (k : ConstraintKind) (i : ℕ) → (k ≡ Unique) ⊎ (k ≡ Keyref) → nothing ≡ missing_by (kind_in k) i
unfolding missing_by
missing-other k i (inl h) = rw h refl
missing-other k i (inr h) = rw h refl

pub complete-looked : (k : ConstraintKind) (r : Bool) (n : ℕ) (s : Settlement) → (k ≡ Unique) ⊎ (k ≡ Key) → s ≡ found_or n → s ≡ complete_by (kind_in k) r n
unfolding complete_by
complete-looked k r n s (inl h) e = rw h e
complete-looked k r n s (inr h) e = rw h e

-- ---- the tail of the TU that is made

-- ---- by the outcome

behind : (n : ℕ) (o : Option ℕ) (i : ℕ) → ((j : ℕ) → o ≡ some j → j < n) → map suc o ≡ some i → i < suc n
behind n none i h e = let z : ◌≡◌ {A = ℕ} 0 1 = cc in absurd (omega arith)
behind n (some j) i h e = let z : suc j ≡ i = cc in let l = h j refl in omega arith

-- the lowest Unset field is one of them
low-unset : (cs : List Cell) (i : ℕ) → first_unset cs ≡ some i → i < length cs
unfolding first_unset
low-unset [] i e = let z : ◌≡◌ {A = ℕ} 0 1 = cc in absurd (omega arith)
low-unset (Unset ∷ cs) i e = let z : 0 ≡ i = cc in omega arith
low-unset (Set k ∷ cs) i e = behind (length cs) (first_unset cs) i (low-unset cs) e
low-unset (SetNillable k ∷ cs) i e = behind (length cs) (first_unset cs) i (low-unset cs) e
low-unset (NotSimple ∷ cs) i e = behind (length cs) (first_unset cs) i (low-unset cs) e
low-unset (Multiple ∷ cs) i e = behind (length cs) (first_unset cs) i (low-unset cs) e

-- and so is the lowest that is marked
low-marked : (cs : List Cell) (i : ℕ) → first_nillable cs ≡ some i → i < length cs
unfolding first_nillable
low-marked [] i e = let z : ◌≡◌ {A = ℕ} 0 1 = cc in absurd (omega arith)
low-marked (Unset ∷ cs) i e = behind (length cs) (first_nillable cs) i (low-marked cs) e
low-marked (Set k ∷ cs) i e = behind (length cs) (first_nillable cs) i (low-marked cs) e
low-marked (SetNillable k ∷ cs) i e = let z : 0 ≡ i = cc in omega arith
low-marked (NotSimple ∷ cs) i e = behind (length cs) (first_nillable cs) i (low-marked cs) e
low-marked (Multiple ∷ cs) i e = behind (length cs) (first_nillable cs) i (low-marked cs) e

-- an outcome by its four tests, the last two of which name a field
abbrev by_tests : Bool → Bool → Option ℕ → Option ℕ → List Text → tree.Outcome
by_tests m n u v ks = cond m several_nodes (cond n no_simple_value (missing_or u (set_or v ks)))

low-missing : (cs : List Cell) (i : ℕ) → missing i ≡ outcome cs → i < length cs
unfolding outcome missing_or set_or
low-missing cs i h = by (any is_multiple cs) (any is_not_simple cs) (first_unset cs) (first_nillable cs) refl h
  where
    by : (m n : Bool) (u v : Option ℕ) → first_unset cs ≡ u → missing i ≡ by_tests m n u v (keys_of cs) → i < length cs
    by true n u v r h = let z : ◌≡◌ {A = ℕ} 0 1 = cc in absurd (omega arith)
    by false true u v r h = let z : ◌≡◌ {A = ℕ} 0 1 = cc in absurd (omega arith)
    by false false none none r h = let z : ◌≡◌ {A = ℕ} 0 1 = cc in absurd (omega arith)
    by false false none (some j) r h = let z : ◌≡◌ {A = ℕ} 0 1 = cc in absurd (omega arith)
    by false false (some j) v r h = let z : i ≡ j = cc in low-unset cs i (r ∙ ap some (sym z))

low-nillable : (cs : List Cell) (i : ℕ) (ks : List Text) → on_nillable i ks ≡ outcome cs → i < length cs
unfolding outcome missing_or set_or
low-nillable cs i ks h = by (any is_multiple cs) (any is_not_simple cs) (first_unset cs) (first_nillable cs) refl h
  where
    by : (m n : Bool) (u v : Option ℕ) → first_nillable cs ≡ v → on_nillable i ks ≡ by_tests m n u v (keys_of cs) → i < length cs
    by true n u v r h = let z : ◌≡◌ {A = ℕ} 0 1 = cc in absurd (omega arith)
    by false true u v r h = let z : ◌≡◌ {A = ℕ} 0 1 = cc in absurd (omega arith)
    by false false (some j) v r h = let z : ◌≡◌ {A = ℕ} 0 1 = cc in absurd (omega arith)
    by false false none none r h = let z : ◌≡◌ {A = ℕ} 0 1 = cc in absurd (omega arith)
    by false false none (some j) r h = let z : i ≡ j = cc in low-marked cs i (r ∙ ap some (sym z))

-- cell i of bytes
cells_at : (n : ℕ) (xs : Bytes) (i : ℕ) → i < n → cell_at xs (128 * i) ≡ get_or (cells_from n xs) i Unset
unfolding cell_at cells_from
cells_at zero xs i h = absurd (omega arith)
cells_at (suc n) xs zero h = refl
cells_at (suc n) xs (suc i) h =
    let e : 128 + 128 * i ≡ 128 * suc i = omega arith in
    sym (ap (λ (x : Bytes). cell_for (take 128 x)) (drop-drop (128 * i) 128 xs ∙ ap (λ (k : ℕ). drop k xs) e)) ∙ cells_at n (drop 128 xs) i (omega arith)

module _ (fields : ℕ) (xs : Bytes) where
  abbrev cs : List Cell
  cs = cells_in fields xs

  cells-few : length cs ≡ min 4 fields
  unfolding cells_in
  cells-few = cells-length (min 4 fields) xs

  keys-again : keys_in (min 4 fields) xs ≡ keys_in fields xs
  unfolding keys_in
  keys-again = let e : min 4 (min 4 fields) ≡ min 4 fields = omega arith in ap (λ (k : ℕ). first_keys k xs) e

  -- where every field is Set, the keys of the TU are those of the cells
  pub keys-in : tuple_in (outcome cs) ≡ some (keys_of cs) → keys_in fields xs ≡ keys_of cs
  unfolding cells_in
  keys-in h =
      sym keys-again
      ∙ ap (λ (k : ℕ). keys_in k xs) (sym cells-few)
      ∙ keys-are xs cs (keys_of cs) (let n = cells-few in omega arith) (λ i l. cells_at (min 4 fields) xs i (let n = cells-few in omega arith)) h

  module _ (o : Outcome) (says : said o (keys_of cs) ≡ numbered (outcome cs)) where
    means : (said o (keys_of cs)).1 ≡ outcome cs
    means = ap (λ (q : Option ℕ × tree.Outcome). q.1) says

    pub missing-small : (i : ℕ) → o ≡ Missing i → i < 4
    missing-small i e = let l = low-missing cs i (ap (λ (q : Outcome). (said q (keys_of cs)).1) (sym e) ∙ means) in let n = cells-few in omega arith

    pub nillable-small : (i : ℕ) → o ≡ Nillable i → i < 4
    nillable-small i e = let l = low-nillable cs i (keys_of cs) (ap (λ (q : Outcome). (said q (keys_of cs)).1) (sym e) ∙ means) in let n = cells-few in omega arith

    module _ (k : Kind) (r : Bool) (scope : ℕ) (used : Bytes) where
      pub settled-several : o ≡ Several → told 1 0 0 ≡ settled_by k r scope used (outcome cs)
      unfolding settled_by
      settled-several e = ap (λ (q : Outcome). settled_by k r scope used (said q (keys_of cs)).1) (sym e) ∙ ap (settled_by k r scope used) means

      pub settled-not-simple : o ≡ NotSimple → told 2 0 0 ≡ settled_by k r scope used (outcome cs)
      unfolding settled_by
      settled-not-simple e = ap (λ (q : Outcome). settled_by k r scope used (said q (keys_of cs)).1) (sym e) ∙ ap (settled_by k r scope used) means

      pub settled-missing : (i : ℕ) → o ≡ Missing i → (s : Settlement) → s ≡ missing_by k i → s ≡ settled_by k r scope used (outcome cs)
      unfolding settled_by
      settled-missing i e s h = h ∙ ap (λ (q : Outcome). settled_by k r scope used (said q (keys_of cs)).1) (sym e) ∙ ap (settled_by k r scope used) means

      pub settled-nillable : (i : ℕ) → o ≡ Nillable i → (s : Settlement) → s ≡ nillable_by k r i (first_with (tail_bytes scope (keys_in fields xs)) (standing frame used))
          → s ≡ settled_by k r scope used (outcome cs)
      unfolding settled_by tuple_in
      settled-nillable i e s h =
          let w : on_nillable i (keys_of cs) ≡ outcome cs = ap (λ (q : Outcome). (said q (keys_of cs)).1) (sym e) ∙ means in
          h
          ∙ ap (λ (ks : List Text). nillable_by k r i (first_with (tail_bytes scope ks) (standing frame used))) (keys-in (sym (ap tuple_in w)))
          ∙ ap (settled_by k r scope used) w

      pub settled-complete : o ≡ Complete → (s : Settlement) → s ≡ complete_by k r (first_with (tail_bytes scope (keys_in fields xs)) (standing frame used))
          → s ≡ settled_by k r scope used (outcome cs)
      unfolding settled_by tuple_in
      settled-complete e s h =
          let w : complete (keys_of cs) ≡ outcome cs = ap (λ (q : Outcome). (said q (keys_of cs)).1) (sym e) ∙ means in
          h
          ∙ ap (λ (ks : List Text). complete_by k r (first_with (tail_bytes scope ks) (standing frame used))) (keys-in (sym (ap tuple_in w)))
          ∙ ap (settled_by k r scope used) w
