-- A table of places in a tuple store, and what is true of it: wherever it has an entry, a record begins there. Nothing is asked of what it lacks.
-- Assumes nothing.
use Rattle.std.specs.Prelude.{ℕ, zero, suc, ◌+◌, ◌-◌, ◌/◌, ◌%◌, ◌<◌, length, drop, get_or, ◌≡◌, Bool, true, false, List, ◌++◌, ◌⊎◌}
use Rattle.std.proofs.Math.Option.{Option, none, some}
use Rattle.hashes.specs.Hashes.{hash_of}
use Rattle.records.specs.Readers.{Bytes}
use Rattle.session_spec.specs.Definitions.{frame}
use Rattle.output_stores.specs.Stores.{standing}
use Rattle.tuple_search.specs.Search.{is_answer, answered_by}

-- ---- where a record begins

-- what stands in the bytes is some records, and behind them what stands from the place on
pub record RecordAt (used : Bytes) (p : ℕ) : Type 0 where
  pub before : List Bytes
  pub stands : standing frame used ≡ before ++ standing frame (drop p used)

-- ---- the table

-- each entry is 0, or one more than such a place
pub record Noted (places : List ℕ) (used : Bytes) : Type 0 where
  pub each : (i : ℕ) → 0 < get_or places i 0 → RecordAt used (get_or places i 0 - 1)

-- a call that notes places leaves a table of them, as long as it was
pub record Notes (before : List ℕ) (used : Bytes) (after : List ℕ) : Type 0 where
  pub noted : Noted before used → Noted after used
  pub sized : length after ≡ length before

-- a call that makes an entry leaves each as it was, or makes it there
pub record Entered (before : List ℕ) (entry : ℕ) (after : List ℕ) : Type 0 where
  pub each : (i : ℕ) → (get_or after i 0 ≡ get_or before i 0) ⊎ (get_or after i 0 ≡ entry)
  pub sized : length after ≡ length before

-- the first of the entries that belong to texts, of a table of so many
unfoldable pub start_of : (size : ℕ) → (texts : Bytes) → ℕ
start_of zero texts = 0
start_of (suc n) texts = hash_of texts / 65536 % suc n

-- ---- the search

-- what was read at the front is an answer
unfoldable pub front_answers : (named : ℕ) → (texts : Bytes) → Option (Bytes × Bytes) → Bool
front_answers named texts none = false
front_answers named texts (some q) = is_answer named texts q.0

-- an entry has a place, and the record there is one
unfoldable pub answers_at : (used : Bytes) → (entry named : ℕ) → (texts : Bytes) → Bool
answers_at used zero named texts = false
answers_at used (suc p) named texts = front_answers named texts (frame (drop p used))

-- what is found by a table of places is found
pub record Sure (used : Bytes) (places : List ℕ) (named : ℕ) (texts : Bytes) (r : Bool) : Type 0 where
  pub right : r ≡ true → Noted places used → answered_by named texts (standing frame used) ≡ true

-- with such a table the reply is whether a record of the store is an answer
pub record Decides (used : Bytes) (places : List ℕ) (named : ℕ) (texts : Bytes) (r : Bool) : Type 0 where
  pub right : Noted places used → r ≡ answered_by named texts (standing frame used)
