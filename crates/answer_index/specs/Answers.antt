-- An index of the tuples that answer keyrefs, in the slots of a table as those of the tuple index: by the texts alone, since a keyref does not know the scope, and by the class of
-- the constraint. Constraints that answer the same keyrefs are of one class; 255 is that of those which answer none. A slot's number is one more than its class.
-- Assumes nothing.
use Rattle.std.specs.Prelude.{ℕ, suc, ◌+◌, ◌-◌, ◌≤◌, ◌<◌, eqb, ltb, length, drop, get_or, ◌≡◌, Bool, true, false, cond, ◌&&◌, List, ◌++◌}
use Rattle.std.proofs.Math.Option.{Option, none, some}
use Rattle.std.specs.declared.option.Option as code
use Rattle.std.specs.declared.option.Option.TheVariants.{Some, None}
use Rattle.lists.specs.Lists.{any, All}
use Rattle.texts.specs.Texts.{same}
use Rattle.records.specs.Readers.{Bytes}
use Rattle.hashes.specs.Hashes.{hash_of}
use Rattle.session_spec.specs.Definitions.{frame}
use Rattle.output_stores.specs.Stores.{standing, in_mask}
use Rattle.tuple_search.specs.Search.{answered_by}
use Rattle.tuple_index.specs.declared.Slot.{Slot}
use Rattle.tuple_index.specs.Index.{slots_of, is_free, start_of, Along}
use Rattle.tuple_index.specs.Covers.{tail_in, slots_in}

-- ---- classes

-- none where it is 255
abbrev pub class_given : (class : ℕ) → Option ℕ
class_given c = cond (ltb c 255) (some c) none

-- that of a constraint, where it has one
abbrev pub class_for : (classes : List ℕ) → (constraint : ℕ) → Option ℕ
class_for classes c = class_given (get_or classes c 255)

-- that of a record, by its constraint
unfoldable pub class_of : (classes : List ℕ) → Bytes → ℕ
class_of classes f = get_or classes (get_or f 4 0) 255

-- a record whose class is one less than the number, with these texts
unfoldable pub is_of : (classes : List ℕ) → (number : ℕ) → (texts : Bytes) → Bytes → Bool
is_of classes n texts f = eqb (suc (class_of classes f)) n && same (drop 9 f) texts

-- the constraints in a set are those of the class; in that of 255 there is none
abbrev pub Names : (classes : List ℕ) → (class named : ℕ) → Type 0
Names classes class named = (c : ℕ) → in_mask named c ≡ (ltb class 255 && eqb (get_or classes c 255) class)

-- ---- the index

-- a slot that is not free says what a record has
pub record Answer (classes : List ℕ) (fs : List Bytes) (used : Bytes) (s : Slot) : Type 0 where
  pub hash : s.hash ≡ hash_of (tail_in used 8 s)
  pub stands : any (is_of classes s.number (tail_in used 8 s)) fs ≡ true

-- it has the number and the texts of a record
abbrev pub Matches : (classes : List ℕ) → (used f : Bytes) → Slot → Type 0
Matches classes used f s = (s.number ≡ suc (class_of classes f)) × (tail_in used 8 s ≡ drop 9 f)

-- the slots index those of the records before a place that answer something
pub record Noted (classes : List ℕ) (next : ℕ) (ss : List Slot) (used : Bytes) : Type 0 where
  pub before : List Bytes
  pub within : next - 1 ≤ length used
  pub stands : (more : Bytes) → standing frame (used ++ more) ≡ before ++ standing frame (drop (next - 1) (used ++ more))
  pub sound : All (λ s. is_free s ≡ false → Answer classes before used s) ss
  pub complete : All (λ f. ltb (class_of classes f) 255 ≡ true → Along (Matches classes used f) (drop (start_of (length ss) (hash_of (drop 9 f))) ss)) before

-- ---- in a table, whose first word is one more than the bytes that are covered, or 0

abbrev pub NotedBy : (classes : List ℕ) → (next : ℕ) → List Slot → (used : Bytes) → Type 0
NotedBy classes next ss used = 0 < next → Noted classes next ss used

abbrev pub NotedIn : (classes table : List ℕ) → (used : Bytes) → Type 0
NotedIn classes table used = 4 ≤ length table → NotedBy classes (get_or table 0 0) (slots_in table) used

-- ---- what a call replies

-- with such a table, and the set of the class: whether a record of the store is an answer
abbrev pub Tells : (used : Bytes) → (table : List ℕ) → (class named : ℕ) → (texts : Bytes) → Bool → Type 0
Tells used table class named texts r =
    (classes : List ℕ) → Names classes class named → NotedIn classes table used
    → r ≡ answered_by named texts (standing frame used)

-- ---- what a call leaves

pub record Moves (classes : List ℕ) (next : ℕ) (before : List ℕ) (used : Bytes) (next' : ℕ) (after : List ℕ) : Type 0 where
  pub noted : NotedBy classes next (slots_of before) used → NotedBy classes next' (slots_of after) used
  pub sized : length after ≡ length before

-- of one step: all is as it was, or one record more is noted or passed over, which ends within the store
abbrev pub Steps : (classes : List ℕ) → (next : ℕ) → (before : List ℕ) → (used : Bytes) → code.Option ℕ → (after : List ℕ) → Type 0
Steps classes next before used None after = after ≡ before
Steps classes next before used (Some n) after = (Moves classes next before used n after) × (next < n) × (n ≤ length used + 1)

pub record Extends (classes before : List ℕ) (used : Bytes) (after : List ℕ) : Type 0 where
  pub noted : NotedIn classes before used → NotedIn classes after used
  pub sized : length after ≡ length before

pub record Notes (classes before : List ℕ) (used : Bytes) (after : List ℕ) : Type 0 where
  pub noted : NotedIn classes after used
  pub sized : length after ≡ length before
