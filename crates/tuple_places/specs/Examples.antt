-- A store of two TUs written out: where its records begin, tables of places and tables that are none, what an entry finds, and what a reply may be. What each is to
-- give is written by hand.
-- Assumes nothing.
use Rattle.std.specs.Prelude.{ℕ, zero, suc, ◌+◌, length, drop, get_or, ◌≡◌, refl, true, false, [], ◌∷◌, ◌++◌, map, ◌⊎◌}
use Rattle.std.proofs.Common.{arith, length-append, ap, ◌∙◌, inl, inr, ⊎_elim}
use Rattle.texts.specs.Texts.{same}
use Rattle.numbers.specs.Numbers.{two, four}
use Rattle.hashes.specs.Hashes.{hash_to, hash_of}
use Rattle.records.specs.Readers.{Bytes, on_read, ◌>>=◌, pass, read_byte, cons_on, read_bytes, on_whole, up_to}
use Rattle.session_spec.specs.Definitions.{frame}
use Rattle.output_stores.specs.Stores.{standing, in_mask}
use Rattle.tuple_search.specs.Search.{is_answer, answered_by}
use Rattle.tuple_places.specs.Places.{RecordAt, Noted, Notes, Entered, start_of, front_answers, answers_at, Sure, Decides}

-- constraint 0 with the key `a`, and constraint 5 with the key `b`
abbrev pub first : Bytes
first = 84 ∷ 85 ∷ 9 ∷ 0 ∷ 0 ∷ 1 ∷ 0 ∷ 0 ∷ 0 ∷ 1 ∷ 1 ∷ 0 ∷ 97 ∷ []

abbrev second : Bytes
second = 84 ∷ 85 ∷ 9 ∷ 0 ∷ 5 ∷ 1 ∷ 0 ∷ 0 ∷ 0 ∷ 1 ∷ 1 ∷ 0 ∷ 98 ∷ []

abbrev pub store : Bytes
store = first ++ second

abbrev b : Bytes
b = 1 ∷ 1 ∷ 0 ∷ 98 ∷ []

-- ---- where a record begins

pub at-the-start : RecordAt store 0
at-the-start = record { before = []; stands = refl }

pub behind-the-first : RecordAt store 13
unfolding standing up_to on_whole frame read_byte read_bytes cons_on ◌>>=◌ on_read pass
behind-the-first = record { before = first ∷ []; stands = refl }

-- not inside one: from its second byte on two would stand
pub not-inside : RecordAt first 1 → ⊥
unfolding standing up_to on_whole frame read_byte read_bytes cons_on ◌>>=◌ on_read pass
not-inside r =
    let e : 1 ≡ length r.before + 2 = ap length r.stands ∙ length-append r.before (standing frame (drop 1 first)) in
    omega arith

-- ---- tables: an entry is one more than the place

none-noted : (used : Bytes) → Noted [] used
none-noted used = record { each = λ i h. absurd (omega arith) }

-- entry 14 says that a record begins at 13
says-13 : Noted (0 ∷ 14 ∷ []) store → RecordAt store 13
says-13 n = n.each 1 (omega arith)

-- from a table without an entry to one that has one
from-none : Notes (0 ∷ []) first (1 ∷ []) → Noted (0 ∷ []) first → Noted (1 ∷ []) first
from-none n t = n.noted t

not-shorter : Notes (0 ∷ 0 ∷ []) first (0 ∷ []) → ⊥
not-shorter n = let e : ◌≡◌ {A = ℕ} 1 2 = n.sized in omega arith

-- ---- an entry made

made-first : Entered (0 ∷ 3 ∷ []) 14 (14 ∷ 3 ∷ [])
made-first = record { each = by; sized = refl }
  where
    by : (i : ℕ) → (◌≡◌ {A = ℕ} (get_or (14 ∷ 3 ∷ []) i 0) (get_or (0 ∷ 3 ∷ []) i 0)) ⊎ (◌≡◌ {A = ℕ} (get_or (14 ∷ 3 ∷ []) i 0) 14)
    by zero = inr refl
    by (suc i) = inl refl

no_other : Entered (0 ∷ 3 ∷ []) 14 (14 ∷ 4 ∷ []) → ⊥
no_other e = ⊎_elim (λ (p : ◌≡◌ {A = ℕ} 4 3). omega arith) (λ (p : ◌≡◌ {A = ℕ} 4 14). omega arith) (e.each 1)

-- ---- the first entry: by the high bits of the number of `12`, which is 3785068951, and of `13`, which is 2854344855

starts : map (λ (n : ℕ). start_of n (49 ∷ 50 ∷ [])) (0 ∷ 1 ∷ 10 ∷ 8192 ∷ 65536 ∷ []) ≡ 0 ∷ 0 ∷ 5 ∷ 411 ∷ 57755 ∷ []
unfolding start_of hash_of hash_to two four
starts = refl

start-13 : start_of 8192 (49 ∷ 51 ∷ []) ≡ 2593
unfolding start_of hash_of hash_to two four
start-13 = refl

-- ---- what an entry finds: the second TU at its place, in its set, with its texts

found : map (λ (e : ℕ). answers_at store e 32 b) (0 ∷ 1 ∷ 13 ∷ 14 ∷ 15 ∷ 26 ∷ 27 ∷ 99 ∷ []) ≡ false ∷ false ∷ false ∷ true ∷ false ∷ false ∷ false ∷ false ∷ []
unfolding answers_at front_answers is_answer in_mask same frame read_byte read_bytes cons_on ◌>>=◌ on_read pass
found = refl

other-set : answers_at store 14 1 b ≡ false
unfolding answers_at front_answers is_answer in_mask same frame read_byte read_bytes cons_on ◌>>=◌ on_read pass
other-set = refl

-- ---- what a reply may be, whatever the table lacks

must-be-true : Decides store [] 32 b false → ⊥
unfolding answered_by is_answer in_mask same standing up_to on_whole frame read_byte read_bytes cons_on ◌>>=◌ on_read pass
must-be-true d = let e : false ≡ true = d.right (none-noted store) in let z : ◌≡◌ {A = ℕ} 0 1 = cc in omega arith

must-be-false : Decides store [] 1 b true → ⊥
unfolding answered_by is_answer in_mask same standing up_to on_whole frame read_byte read_bytes cons_on ◌>>=◌ on_read pass
must-be-false d = let e : true ≡ false = d.right (none-noted store) in let z : ◌≡◌ {A = ℕ} 0 1 = cc in omega arith

not-sure : Sure store [] 1 b true → ⊥
unfolding answered_by is_answer in_mask same standing up_to on_whole frame read_byte read_bytes cons_on ◌>>=◌ on_read pass
not-sure s = let e : false ≡ true = s.right refl (none-noted store) in let z : ◌≡◌ {A = ℕ} 0 1 = cc in omega arith
