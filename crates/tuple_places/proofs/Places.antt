-- A table of places stays one: each entry that is made is the place of a record, since the walk over the store has the records before it as a list. What is found
-- at such a place is among all records.
-- Assumes nothing.
use Prim.Native.Nat.{ℕ, zero, suc, ◌+◌, ◌-◌, ◌/◌, ◌%◌, ◌≤◌, ◌<◌}
use native.Mathlib.Omega.{arith}
use lib.Dec.{eqb, leb}
use lib.ListN.{length, take, drop, get_or, set, replicate, length-set, length-replicate, length-take, length-drop}
use lib.Seq.{drop-drop, length-take-le, get_or-take, get_or-drop, get_or-set_same, get_or-set_other}
use Rattle.std.specs.Bool.{MatchBool}
use Rattle.std.specs.List.{AllWithin, HoldsAt}
use borrow.Author.Tests.{eqb-true, eqb-false, leb-true, leb-false}
use mathlib.Core.Path.{◌≡◌, refl, ap, sym, ◌∙◌, subst}
use mathlib.Core.Bool.{Bool, true, false}
use mathlib.Core.List.{List, [], ◌∷◌, ◌++◌, append_assoc}
use mathlib.Core.Logic.{◌⊎◌, inl, inr}
use mathlib.Core.Option.{Option, none, some}
use Rattle.lists.specs.Lists.{any}
use Rattle.hashes.specs.Hashes.{hash_of}
use Rattle.records.specs.Readers.{Bytes}
use Rattle.session_spec.specs.Definitions.{frame}
use Rattle.output_stores.specs.Stores.{standing}
use Rattle.std.specs.declared.option.Option as code
use Rattle.std.specs.declared.option.Option.TheVariants.{Some, None}
use Rattle.std.specs.Option.{MatchOption, SomeIff, unwrap_or}
use denote.Ref.{Bor}
use Rattle.std.proofs.lemmas.List.Folds.{list_any-append}
use Rattle.std.proofs.lemmas.Bool.{or_right}
use Rattle.frames.specs.Frames.{parts}
use Rattle.tuple_search.specs.Search.{is_answer, answered_by}
use Rattle.frames.proofs.Walks as walks
use Rattle.tuple_places.specs.Places.{RecordAt, Noted, Notes, Entered, start_of, front_answers, answers_at, Sure, Decides}

-- ---- the first entry of texts

-- the remainder, and 0 where there is nothing to divide by
pub start-is : (size : ℕ) (texts : Bytes) (h : ℕ) (r : code.Option ℕ) → h ≡ hash_of texts → SomeIff r (0 < size) (h / 65536 % size) → unwrap_or r 0 ≡ start_of size texts
unfolding start_of
start-is zero texts h None e s = refl
start-is zero texts h (Some x) e s = absurd (omega (arith, s.0))
start-is (suc n) texts h None e s = absurd (s (omega arith))
start-is (suc n) texts h (Some x) e s = s.1 ∙ ap (λ (k : ℕ). k / 65536 % suc n) e

-- ---- an entry more

module _ (places : List ℕ) (entry : ℕ) where
  pub entered : (at : ℕ) → at < length places → Entered places entry (set places at entry)
  entered at h = record { each = λ i. by i (eqb i at) refl; sized = length-set places at entry }
    where
      by : (i : ℕ) (b : Bool) → eqb i at ≡ b → (get_or (set places at entry) i 0 ≡ get_or places i 0) ⊎ (get_or (set places at entry) i 0 ≡ entry)
      by i true e = inr (rw (eqb-true i at e) (get_or-set_same places at entry 0 h))
      by i false e = inl (get_or-set_other places at i entry 0 (eqb-false i at e))

pub still_noted : (before after : List ℕ) (used : Bytes) (p : ℕ) → Entered before (p + 1) after → RecordAt used p → Noted before used → Noted after used
still_noted before after used p e r n = record { each = λ i h. by i h (e.each i) }
  where
    by : (i : ℕ) → 0 < get_or after i 0 → (get_or after i 0 ≡ get_or before i 0) ⊎ (get_or after i 0 ≡ p + 1) → RecordAt used (get_or after i 0 - 1)
    by i h (inl q) = subst (λ (k : ℕ). RecordAt used (k - 1)) (sym q) (n.each i (omega arith))
    by i h (inr q) = subst (RecordAt used) (let z : p ≡ get_or after i 0 - 1 = omega arith in z) r

-- ---- a table with no entry

pub nothing-noted : (used : Bytes) → Noted [] used
nothing-noted used = record { each = λ i h. absurd (omega arith) }

-- the front of one
zero-at : (n size i : ℕ) → ◌≡◌ {A = ℕ} (get_or (take size (replicate n 0)) i 0) 0
zero-at n zero i = refl
zero-at zero (suc size) i = refl
zero-at (suc n) (suc size) zero = refl
zero-at (suc n) (suc size) (suc i) = zero-at n size i

pub zeros-noted : (n size : ℕ) (used : Bytes) → Noted (take size (replicate n 0)) used
zeros-noted n size used = record { each = λ i h. absurd (let z = zero-at n size i in omega arith) }

-- ---- the walk: a record begins at the place, and those that are left stand from there on

pub record Walking (before : List ℕ) (used : Bytes) (after : List ℕ) (left : List Bytes) (place : ℕ) : Type 0 where
  pub walk : walks.Walking used left place
  pub begins : RecordAt used place
  pub notes : Notes before used after

module _ (before : List ℕ) (used : Bytes) where
  pub walk_first : (left : List Bytes) → left ≡ standing frame used → Walking before used before left 0
  walk_first left e = record { walk = walks.walk-first used left e; begins = record { before = []; stands = refl }; notes = record { noted = λ n. n; sized = refl } }

  module _ (after : List ℕ) (left : List Bytes) (place : ℕ) (w : Walking before used after left place) (f : Bytes) (more : List Bytes) (e : left ≡ f ∷ more) where
    pub walk-fits : place + length f ≤ length used
    walk-fits = walks.walk-fits used left place w.walk f more e

    next : walks.Walking used more (place + length f)
    next = walks.walk-next used left place w.walk f more e

    next-begins : RecordAt used (place + length f)
    next-begins =
        record {
          before = w.begins.before ++ (f ∷ []);
          stands =
              w.begins.stands
              ∙ ap (λ (l : List Bytes). w.begins.before ++ l) (sym w.walk.stands ∙ e ∙ ap (λ (l : List Bytes). f ∷ l) next.stands)
              ∙ sym (append_assoc w.begins.before (f ∷ []) (standing frame (drop (place + length f) used)));
        }

    module _ (then : List ℕ) (n : Entered after (place + 1) then) where
      pub walk-on : Walking before used then more (place + length f)
      walk-on =
          record {
            walk = next;
            begins = next-begins;
            notes = record { noted = λ q. still_noted after then used place n w.begins (w.notes.noted q); sized = n.sized ∙ w.notes.sized };
          }

-- ---- what an entry says

one_less : (p : ℕ) → suc p - 1 ≡ p
one_less p = omega arith

module _ (used : Bytes) (named : ℕ) (texts : Bytes) where
  pub no-entry : (entry : ℕ) → entry ≡ 0 → false ≡ answers_at used entry named texts
  unfolding answers_at
  no-entry zero h = refl
  no-entry (suc p) h = absurd (omega arith)

  -- what is read at its place
  there : (entry : ℕ) (s : Bytes) → (entry ≡ 0 → ⊥) → s ≡ drop (entry - 1) used → front_answers named texts (frame s) ≡ answers_at used entry named texts
  unfolding answers_at
  there zero s h e = absurd (h refl)
  there (suc p) s h e = ap (λ (l : Bytes). front_answers named texts (frame l)) (e ∙ ap (λ (k : ℕ). drop k used) (one_less p))

  -- what the code splits off there
  pub split_there : (entry : ℕ) (s : Bytes) → (entry ≡ 0 → ⊥) → s ≡ drop (entry - 1) used → (r : code.Option (Bor Bytes × Bor Bytes)) → parts r ≡ frame s
      → front_answers named texts (parts r) ≡ answers_at used entry named texts
  split_there entry s h e r p = ap (front_answers named texts) p ∙ there entry s h e

  -- what the code asks of the front that is split off
  pub asked : (r : code.Option (Bor Bytes × Bor Bytes)) (b : Bool) {P : Bor Bytes × Bor Bytes → Type 0} → MatchOption r (b ≡ false) P
      → ((q : Bor Bytes × Bor Bytes) → P q → b ≡ is_answer named texts q.0.now) → b ≡ front_answers named texts (parts r)
  unfolding front_answers
  asked None b h f = h
  asked (Some q) b h f = f q h

  -- ---- an answer at a place where a record begins is among all records

  front-found : (s : Bytes) (o : Option (Bytes × Bytes)) → frame s ≡ o → front_answers named texts o ≡ true → answered_by named texts (standing frame s) ≡ true
  unfolding front_answers answered_by
  front-found s none e h = let z : ◌≡◌ {A = ℕ} 0 1 = cc in absurd (omega arith)
  front-found s (some q) e h = rw (walks.frames-next s q.0 q.1 e, h)

  pub place_found : (p : ℕ) → RecordAt used p → answers_at used (suc p) named texts ≡ true → answered_by named texts (standing frame used) ≡ true
  unfolding answers_at answered_by
  place_found p r h =
      ap (any (is_answer named texts)) r.stands
      ∙ list_any-append (is_answer named texts) r.before (standing frame (drop p used))
      ∙ or_right (any (is_answer named texts) r.before) (any (is_answer named texts) (standing frame (drop p used))) (front-found (drop p used) (frame (drop p used)) refl h)

  module _ (places : List ℕ) where
    pub entry_found : (at : ℕ) → (r : Bool) → r ≡ answers_at used (get_or places at 0) named texts → r ≡ true → Sure used places named texts true
    unfolding answers_at
    entry_found at r q t = record { right = λ u n. by (get_or places at 0) (sym q ∙ t) (n.each at) }
      where
        by : (e : ℕ) → answers_at used e named texts ≡ true → (0 < e → RecordAt used (e - 1)) → answered_by named texts (standing frame used) ≡ true
        by zero a k = let z : ◌≡◌ {A = ℕ} 0 1 = cc in absurd (omega arith)
        by (suc p) a k = place_found p (subst (RecordAt used) (one_less p) (k (omega arith))) a

    pub none_found : Sure used places named texts false
    none_found = record { right = λ u n. let z : ◌≡◌ {A = ℕ} 0 1 = cc in absurd (omega arith) }

    -- one of so many entries, and behind others
    pub entries_found : (skipped many : ℕ) → (r : Bool)
        → MatchBool r ((k : ℕ) × (k < length (take many (drop skipped places))) × HoldsAt (λ e. true ≡ answers_at used e named texts) (take many (drop skipped places)) k)
        (AllWithin (λ e. false ≡ answers_at used e named texts) (take many (drop skipped places)) 0 (length (take many (drop skipped places))))
        → Sure used places named texts r
    entries_found skipped many false h = none_found
    entries_found skipped many true h =
        let e : get_or (take many (drop skipped places)) h.0 0 ≡ get_or places (skipped + h.0) 0 =
        get_or-take many (drop skipped places) h.0 0 (omega (arith, h.1, length-take many (drop skipped places))) ∙ get_or-drop skipped places h.0 0 in
        entry_found (skipped + h.0) true (h.2 0 ∙ ap (λ (k : ℕ). answers_at used k named texts) e) refl

    pub decides-found : (r : Bool) → Sure used places named texts r → r ≡ true → Decides used places named texts r
    decides-found r s t = record { right = λ n. t ∙ sym (s.right t n) }

    pub decides-walk : (r : Bool) → r ≡ answered_by named texts (standing frame used) → Decides used places named texts r
    decides-walk r e = record { right = λ n. e }
