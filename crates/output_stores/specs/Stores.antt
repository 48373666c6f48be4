-- What the tuple store and the report store have in common: records one behind the other, one more behind those that are used, and a set of
-- constraint numbers.
-- Assumes nothing.
use Rattle.std.specs.Prelude.{ℕ, ◌+◌, ◌/◌, ◌%◌, ◌^◌, eqb, leb, length, ◌≡◌, Bool, false, cond, List}
use Rattle.std.proofs.Math.Option.{Option, none, some}
use denote.Ref.{Bor}
use Rattle.lists.specs.Lists.{put}
use Rattle.records.specs.Readers.{Bytes, Reader, reads, up_to}

-- ---- what stands in a store

-- the records at the front of the bytes, as far as they are whole
unfoldable pub standing : {A : Type 0} → Reader A → Bytes → List A
standing p xs = up_to (length xs) p xs

unfoldable pub on_list : {A : Type 0} → Option (List A) → (List A → Bool) → Bool
on_list none test = false
on_list (some l) test = test l

-- the bytes are records and nothing else, and these pass the test
unfoldable pub reads_as : {A : Type 0} → Reader A → (List A → Bool) → Bytes → Bool
reads_as p test xs = on_list (reads p xs) test

-- what stands at the front and the bytes behind it, as the two slices that code answers say them
abbrev pub halves : Bor Bytes × Bor Bytes → Bytes × Bytes
halves q = (q.0.now, q.1.now)

-- ---- bytes more behind the used ones

-- how many are used then; as many as before where there is no room
unfoldable pub used_after : (store : Bytes) → (used : ℕ) → Bytes → ℕ
used_after store used bs = cond (leb (used + length bs) (length store)) (used + length bs) used

-- A call that appends `bs` answers the new used length and leaves `after`: the bytes behind the used ones, and all else as it was. Where there is no
-- room nothing changes.
pub record Appended (before : Bytes) (used : ℕ) (bs : Bytes) (next : ℕ) (after : Bytes) : Type 0 where
  pub answers : next ≡ used_after before used bs
  pub leaves : after ≡ put before used bs

-- ---- a set of constraint numbers, of which there are at most 32: a bit for each

unfoldable pub in_mask : (mask constraint : ℕ) → Bool
in_mask mask c = eqb (mask / 2 ^ c % 2) 1
