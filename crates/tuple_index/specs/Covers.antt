-- The table that an index of a tuple store stands in: four words, then slots. Word 0 is one more than how many bytes of the store it covers, or 0: nothing is believed of it
-- then. Word 1 says how many records these are, word 2 how many slots were taken, word 3 how many slots are in use.
-- Assumes nothing.
use Rattle.std.specs.Prelude.{◌≡◌, ℕ, zero, suc, ◌+◌, ◌-◌, ◌*◌, ◌/◌, ◌<◌, ◌≤◌, min, Bool, true, false, cond, ◌&&◌, ◌||◌, ◌==◌, List, ◌++◌, length, drop, nat_le, nat_lt, slice_index}
use Rattle.std.proofs.Math.Option.{Option, none, some}
use Rattle.std.specs.declared.option.Option as code
use Rattle.std.specs.declared.option.Option.TheVariants.{Some, None}
use Rattle.lists.specs.Answers.{given}
use Rattle.lists.specs.Lists.{part, All}
use Rattle.numbers.specs.Numbers.{two}
use Rattle.records.specs.Readers.{Bytes}
use Rattle.session_spec.specs.Definitions.{frame}
use Rattle.output_stores.specs.Stores.{standing}
use Rattle.tuple_index.specs.declared.Head.{Head}
use Rattle.tuple_index.specs.declared.Slot.{Slot}
use Rattle.tuple_index.specs.declared.Sought.{Sought}
use Rattle.tuple_index.specs.Index.{slots_of, is_free, passes_by, slot_for, Indexed}

-- ---- where a slot points

-- the bytes of a record behind its first and `skip` more, as far as they are there; it begins one before the place, and states its length
abbrev pub tail_from : (used : Bytes) → (skip place : ℕ) → Bytes
tail_from used skip place = part used (place + skip) (two used (place + 1) + 3 - skip)

abbrev pub tail_in : (used : Bytes) → (skip : ℕ) → Slot → Bytes
tail_in used skip s = tail_from used skip s.place

-- the test of a slot by which a text is looked for
abbrev pub passing : (used : Bytes) → Sought → Slot → Bool
passing used q = passes_by (given q.want) (tail_in used q.skip) q.hash q.key.now

-- where the search for it ends, in slots that stand as words
abbrev pub end_of : (used : Bytes) → Sought → (ws : List ℕ) → ℕ
end_of used q ws = slot_for (passing used q) q.hash (slots_of ws)

-- the record is there as far as it says
abbrev pub Inside : (used : Bytes) → Slot → Type 0
Inside used s = s.place + 3 + two used (s.place + 1) ≤ length used

-- the place of the record behind the one at a place, both counted from 1; none where no whole one stands there, or where four bytes do not hold it
abbrev pub place_behind : (place : ℕ) → Option (Bytes × Bytes) → Option ℕ
place_behind place none = none
place_behind place (some q) = cond (nat_lt 4294967295 (place + length q.0)) none (some (place + length q.0))

unfoldable pub next_place : (used : Bytes) → (place : ℕ) → Option ℕ
next_place used zero = none
next_place used (suc at) = place_behind (suc at) (frame (drop at used))

-- ---- how much is covered

-- the slots index the records before a place, whatever stands or is to stand behind it
pub record Covered (next count : ℕ) (ss : List Slot) (used : Bytes) : Type 0 where
  pub before : List Bytes
  pub within : next - 1 ≤ length used
  pub stands : (more : Bytes) → standing frame (used ++ more) ≡ before ++ standing frame (drop (next - 1) (used ++ more))
  pub counted : count ≡ length before
  pub index : Indexed before (tail_in used 4) ss
  pub inside : All (λ s. is_free s ≡ false → Inside used s) ss

-- a first word of 0 says nothing
abbrev pub CoversBy : (next count : ℕ) → List Slot → (used : Bytes) → Type 0
CoversBy next count ss used = 0 < next → Covered next count ss used

-- the slots in use, as far as they are there
abbrev pub slots_in : (table : List ℕ) → List Slot
slots_in table = slots_of (part table 4 (3 * slice_index table 3))

-- the place behind them
unfoldable pub slots_end : (table : List ℕ) → ℕ
slots_end table = min (4 + 3 * slice_index table 3) (length table)

-- its head, of four words at least that say something
unfoldable pub head_in : (table : List ℕ) → Option Head
head_in table =
    cond (nat_lt (length table) 4 || slice_index table 0 == 0) none
    (some (record { next = slice_index table 0; count = slice_index table 1; entries = slice_index table 2 }))

-- nor does a table of under four words
abbrev pub Covers : (table : List ℕ) → (used : Bytes) → Type 0
Covers table used = 4 ≤ length table → CoversBy (slice_index table 0) (slice_index table 1) (slots_in table) used

-- ---- how many slots

-- four for each record and some, or all that the words of a table have room for
unfoldable pub slots_for : (records words : ℕ) → ℕ
slots_for records words = min (4 * min records 1000000000 + 256) ((words - 4) / 3)

-- a table that covers something, of whose slots more than half are taken, and that has room for more
unfoldable pub is_crowded : (table : List ℕ) → Bool
is_crowded table = nat_lt 0 (slice_index table 0) && (nat_lt (slice_index table 3) (2 * slice_index table 2) && nat_le (3 * slice_index table 3 + 7) (length table))

-- ---- what a call leaves

-- slots that cover as much of the store as the words say, and their number
pub record Advances (next count : ℕ) (before : List ℕ) (used : Bytes) (next' count' : ℕ) (after : List ℕ) : Type 0 where
  pub covers : CoversBy next count (slots_of before) used → CoversBy next' count' (slots_of after) used
  pub sized : length after ≡ length before

-- of one step: all is as it was, or the slots cover one record more, which ends within the store
abbrev pub Enters : (next count : ℕ) → (before : List ℕ) → (used : Bytes) → code.Option Head → (after : List ℕ) → Type 0
Enters next count before used None after = after ≡ before
Enters next count before used (Some h) after = (Advances next count before used h.next h.count after) × (next < h.next) × (h.next ≤ length used + 1)

-- a table that covered the store still does, and is as long as it was
pub record Keeps (before : List ℕ) (used : Bytes) (after : List ℕ) : Type 0 where
  pub covers : Covers before used → Covers after used
  pub sized : length after ≡ length before

-- whatever the table was, all its slots are free, and it covers nothing
pub record Empties (before after : List ℕ) : Type 0 where
  pub first : 4 ≤ length after → slice_index after 0 ≡ 1
  pub none : 4 ≤ length after → slice_index after 1 ≡ 0
  pub free : All (λ s. is_free s ≡ true) (slots_in after)
  pub sized : length after ≡ length before

-- whatever the table was, it covers as much of the store as it says
pub record Makes (before : List ℕ) (used : Bytes) (after : List ℕ) : Type 0 where
  pub covers : Covers after used
  pub sized : length after ≡ length before
