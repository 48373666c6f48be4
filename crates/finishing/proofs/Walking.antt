-- The records of the tuple store one after the other: how many pass a test, and the reports that are written behind those of the store. What is still to come is
-- read off the records that are left.
-- Assumes nothing.
use Rattle.std.specs.Prelude.{is_some, Some, None, MatchOption}
use Rattle.std.specs.Option.{unwrap_or}
use Prim.Native.Nat.{ℕ, ◌+◌, ◌*◌, ◌%◌, ◌≤◌}
use native.Mathlib.Nat.{add-zero}
use native.Mathlib.Omega.{arith}
use borrow.Author.Tests.{le-leb}
use lib.Dec.{leb}
use lib.ListN.{length, drop, get_or, length-append, length-drop}
use lib.Seq.{take_all}
use mathlib.Core.Path.{◌≡◌, refl, ap, sym, ◌∙◌, subst}
use mathlib.Core.Bool.{Bool, true, false, cond, ◌&&◌, not}
use mathlib.Core.List.{List, [], ◌∷◌, ◌++◌, flat_map, append-nil}
use Rattle.lists.specs.Lists.{part, only_if, passing, over, put}
use Rattle.lists.proofs.Lists.{flat_map-append}
use Rattle.lists.proofs.Places.{over_nothing}
use Rattle.lists.proofs.Writes.{length-put, put-fits, over-then}
use Rattle.numbers.specs.Numbers.{four}
use Rattle.tree.specs.Judge.{Report}
use Rattle.records.specs.Readers.{Bytes}
use Rattle.session_spec.specs.Definitions.{frame}
use Rattle.session_spec.specs.Layout.{put_rp}
use Rattle.output_stores.specs.Stores.{standing, used_after, Appended}
use Rattle.tuple_search.specs.Search.{answered_by}
use Rattle.event_answers.specs.declared.Refs.{Refs}
use Rattle.event_answers.specs.Fives.{Ref, no_ref, ref_for, of_keyref, is_lacking, five_of, five_for, fives_from, fives_in, Written, Judged}
use Rattle.session_laws.proofs.Stores.{reports-size}

-- ---- those that pass a test

-- what lacks an answer is of a keyref
lacking-few : (refs : Refs) (used : Bytes) (fs : List Bytes) → length (passing (is_lacking refs used) fs) ≤ length (passing (of_keyref refs) fs)
unfolding passing is_lacking of_keyref only_if
lacking-few refs used [] = omega arith
lacking-few refs used (f ∷ fs) = by (is_some (ref_for refs f)) (answered_by (unwrap_or (ref_for refs f) 0) (drop 9 f) (standing frame used)) (lacking-few refs used fs)
  where
    by : (k a : Bool) → length (passing (is_lacking refs used) fs) ≤ length (passing (of_keyref refs) fs)
        → length (only_if (k && not a) (f ∷ []) ++ passing (is_lacking refs used) fs) ≤ length (only_if k (f ∷ []) ++ passing (of_keyref refs) fs)
    by true true h = omega arith
    by true false h = omega arith
    by false a h = h

pub few-keyrefs : (refs : Refs) (used : Bytes) (n most : ℕ) → n ≡ length (passing (of_keyref refs) (standing frame used)) → n ≤ most
    → true ≡ leb (length (passing (is_lacking refs used) (standing frame used))) most
few-keyrefs refs used n most e h =
    let l = lacking-few refs used (standing frame used) in
    sym (le-leb (length (passing (is_lacking refs used) (standing frame used))) most (omega arith))

-- as many are reported
five-count : (refs : Refs) (used : Bytes) (e i : ℕ) (f : Bytes) → length (five_for refs used e i f) ≡ length (only_if (is_lacking refs used f) (f ∷ []))
unfolding five_for only_if
five-count refs used e i f = by (is_lacking refs used f)
  where
    by : (b : Bool) → length (only_if b (five_of e i f ∷ [])) ≡ length (only_if b (f ∷ []))
    by true = refl
    by false = refl

from-count : (refs : Refs) (used : Bytes) (e i : ℕ) (fs : List Bytes) → length (fives_from refs used e i fs) ≡ length (passing (is_lacking refs used) fs)
unfolding fives_from passing
from-count refs used e i [] = refl
from-count refs used e i (f ∷ fs) =
    length-append (five_for refs used e (i + 1) f) (fives_from refs used e (i + 1) fs)
    ∙ rw (five-count refs used e (i + 1) f, from-count refs used e (i + 1) fs)
    (sym (length-append (only_if (is_lacking refs used f) (f ∷ [])) (passing (is_lacking refs used) fs)))

pub fives-count : (refs : Refs) (used : Bytes) (e : ℕ) → length (fives_in refs used e) ≡ length (passing (is_lacking refs used) (standing frame used))
unfolding fives_in
fives-count refs used e = from-count refs used e 0 (standing frame used)

-- ---- whether one record lacks an answer

module _ (refs : Refs) (used f : Bytes) (c : ℕ) (e : c ≡ get_or f 4 0) (r : Ref) (g : r ≡ get_or refs.list c no_ref) where
  ref-found : ref_for refs f ≡ r
  ref-found = ap (λ (k : ℕ). get_or refs.list k no_ref) (sym e) ∙ sym g

  -- what the code asks of the constraints that answer it, if there are any
  pub asked : (b : Bool) {P : ℕ → Type 0} → MatchOption r (b ≡ false) P → ((a : ℕ) → P a → b ≡ not (answered_by a (part f 9 (length f)) (standing frame used))) → b ≡ is_lacking refs used f
  unfolding is_lacking
  asked b h k = by r h k ∙ sym (ap (λ (x : Ref). is_some x && not (answered_by (unwrap_or x 0) (drop 9 f) (standing frame used))) ref-found)
    where
      by : (x : Ref) {P : ℕ → Type 0} → MatchOption x (b ≡ false) P → ((a : ℕ) → P a → b ≡ not (answered_by a (part f 9 (length f)) (standing frame used)))
          → b ≡ (is_some x && not (answered_by (unwrap_or x 0) (drop 9 f) (standing frame used)))
      by None h k = h
      by (Some a) h k =
          let d : part f 9 (length f) ≡ drop 9 f = take_all (length f) (drop 9 f) (let l = length-drop 9 f in omega arith) in
          k a h ∙ ap (λ (l : Bytes). not (answered_by a l (standing frame used))) d

-- ---- the report of one record

module _ (refs : Refs) (used : Bytes) (e i : ℕ) (f : Bytes) (b : Bool) (l : b ≡ is_lacking refs used f) (before : Bytes) (at : ℕ) where
  no_room : (c : Bool) → leb (at + 0) (length before) ≡ c → (cond c (at + 0) at ≡ at) × (cond c (over before at []) before ≡ before)
  no_room true k = (add-zero at, over_nothing before at)
  no_room false k = (refl, refl)

  pub none-lacking : b ≡ false → Appended before at (flat_map put_rp (five_for refs used e i f)) at before
  unfolding used_after put five_for only_if flat_map
  none-lacking k =
      let q = no_room (leb (at + 0) (length before)) refl in
      rw (← l, k) (record { answers = sym q.0; leaves = sym q.1 })

  -- the report that the code makes of constraint and scope
  pub one-lacking : b ≡ true → (c s : ℕ) → c ≡ get_or f 4 0 → s ≡ four f 5 → (next : ℕ) (after : Bytes)
      → Appended before at (put_rp (record { kind = 5; constraint = c; field = 0; scope = s; event = e; tuple = i % 4294967296 })) next after
      → Appended before at (flat_map put_rp (five_for refs used e i f)) next after
  unfolding five_for five_of only_if flat_map
  one-lacking k c s p q next after a =
      rw (← l, k, ← p, ← q)
      (subst (λ (bs : Bytes). Appended before at bs next after)
      (sym (append-nil (put_rp (record { kind = 5; constraint = c; field = 0; scope = s; event = e; tuple = i % 4294967296 })))) a)

-- ---- all of them

-- `after` holds the reports of the records that are passed; with those of the others it holds all
pub record Writing (refs : Refs) (used : Bytes) (e : ℕ) (before : Bytes) (at : ℕ) (after : Bytes) (left : List Bytes) (number end : ℕ) : Type 0 where
  pub keeps : length after ≡ length before
  pub sum : at + 18 * length (fives_in refs used e) ≤ length before
      → end + 18 * length (fives_from refs used e number left) ≡ at + 18 * length (fives_in refs used e)
  pub gives : at + 18 * length (fives_in refs used e) ≤ length before
      → over after end (flat_map put_rp (fives_from refs used e number left)) ≡ over before at (flat_map put_rp (fives_in refs used e))

module _ (refs : Refs) (used : Bytes) (e : ℕ) (before : Bytes) (at : ℕ) where
  pub write-first : (left : List Bytes) → left ≡ standing frame used → (number : ℕ) → number ≡ 0 → Writing refs used e before at before left number at
  unfolding fives_in
  write-first left z number y = rw (z, y) (record { keeps = refl; sum = λ h. refl; gives = λ h. refl })

  module _ (after : Bytes) (left : List Bytes) (number end : ℕ) (w : Writing refs used e before at after left number end) where
    pub write-end : left ≡ [] → Written before at (fives_in refs used e) end after
    unfolding fives_from flat_map
    write-end z =
        record {
          answers = λ h. sym (add-zero end) ∙ ap (λ (fs : List Bytes). end + 18 * length (fives_from refs used e number fs)) (sym z) ∙ w.sum h;
          leaves = λ h. sym (over_nothing after end) ∙ ap (λ (fs : List Bytes). over after end (flat_map put_rp (fives_from refs used e number fs))) (sym z) ∙ w.gives h;
        }

    module _ (f : Bytes) (more : List Bytes) (on : left ≡ f ∷ more) (n : ℕ) (i : n ≡ number) (m : ℕ) (j : m ≡ number + 1) where
      module _ (next : ℕ) (then : Bytes) (q : Appended after end (flat_map put_rp (five_for refs used e (n + 1) f)) next then) where
        a : Appended after end (flat_map put_rp (five_for refs used e (number + 1) f)) next then
        a = subst (λ (k : ℕ). Appended after end (flat_map put_rp (five_for refs used e (k + 1) f)) next then) i q

        here : List Report
        here = five_for refs used e (number + 1) f

        later : List Report
        later = fives_from refs used e (number + 1) more

        both : fives_from refs used e number left ≡ here ++ later
        unfolding fives_from here later
        both = ap (fives_from refs used e number) on

        size : length (fives_from refs used e number left) ≡ length here + length later
        size = ap length both ∙ length-append here later

        module _ (h : at + 18 * length (fives_in refs used e) ≤ length before) where
          enough : end + length (flat_map put_rp here) ≤ length after
          enough =
              let r = reports-size here in
              let s = w.sum h in
              let z = size in
              let k = w.keeps in
              omega arith

          next-is : next ≡ end + length (flat_map put_rp here)
          unfolding used_after here
          next-is = a.answers ∙ rw (le-leb (end + length (flat_map put_rp here)) (length after) enough)

          then_is : then ≡ over after end (flat_map put_rp here)
          unfolding here
          then_is = a.leaves ∙ put-fits after end (flat_map put_rp here) enough

          more-sum : next + 18 * length later ≡ at + 18 * length (fives_in refs used e)
          more-sum =
              let r = reports-size here in
              let s = w.sum h in
              let z = size in
              let m = next-is in
              omega arith

          more-gives : over then next (flat_map put_rp later) ≡ over before at (flat_map put_rp (fives_in refs used e))
          more-gives =
              let g = enough in
              ap (λ (l : Bytes). over l next (flat_map put_rp later)) then_is
              ∙ over-then after end next (flat_map put_rp here) (flat_map put_rp later) (sym next-is) (omega arith)
              ∙ ap (over after end) (sym (flat_map-append put_rp here later) ∙ ap (flat_map put_rp) (sym both))
              ∙ w.gives h

        pub write_keeps : length then ≡ length before
        write_keeps = ap length a.leaves ∙ length-put after end (flat_map put_rp (five_for refs used e (number + 1) f)) ∙ w.keeps

        pub write-on : Writing refs used e before at then more m next
        unfolding later
        write-on =
            rw j (record { keeps = write_keeps; sum = more-sum; gives = more-gives })

-- ---- counted before they are written

module _ (refs : Refs) (used : Bytes) (e most : ℕ) (before : Bytes) (at : ℕ) (b : Bool)
    (f : b ≡ leb (length (passing (is_lacking refs used) (standing frame used))) most) where
  pub judged-full : b ≡ false → Judged refs used e most before at None before
  judged-full z = record { fit = sym z ∙ f; writes = λ next y. let q : ◌≡◌ {A = ℕ} 0 1 = cc in absurd (omega arith); keeps = λ y. refl }

  pub judged-all : b ≡ true → (next : ℕ) (after : Bytes) → Written before at (fives_in refs used e) next after
      → Judged refs used e most before at (Some next) after
  judged-all z next after w =
      record { fit = sym z ∙ f; writes = λ n y. let same : next ≡ n = cc in subst (λ (k : ℕ). Written before at (fives_in refs used e) k after) same w; keeps = λ y. let q : ◌≡◌ {A = ℕ} 0 1 = cc in absurd (omega arith) }
