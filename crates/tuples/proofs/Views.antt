-- What a view looks at: the used part where it is inside the store and reads, else nothing. And of nothing every view is empty.
-- Assumes nothing.
use Prim.Native.Nat.{ℕ, zero, suc, ◌≤◌, ◌<◌}
use lib.ListN.{length, take}
use borrow.Author.Tests.{le-leb, lt-leb}
use mathlib.Core.Path.{◌≡◌, refl}
use mathlib.Core.Bool.{true, false}
use mathlib.Core.List.{[]}
use mathlib.Core.Option.{none}
use Rattle.records.specs.Readers.{Bytes, ◌>>=◌, on_read, read_byte, on_behind, record_at, bytes_from}
use Rattle.session_spec.specs.Layout.{read_tu, part_of, field_part, empty_part}
use Rattle.tuples.specs.Tuples.{all_read, readable}

module _ (used : ℕ) (store : Bytes) where
  pub past-store : length store < used → [] ≡ readable used store
  unfolding readable
  past-store h = rw (lt-leb used (length store) h)

  module _ (h : used ≤ length store) where
    pub not-read : all_read (take used store) ≡ false → [] ≡ readable used store
    unfolding readable
    not-read e = rw (le-leb used (length store) h, e)

    pub is-read : all_read (take used store) ≡ true → take used store ≡ readable used store
    unfolding readable
    is-read e = rw (le-leb used (length store) h, e)

-- ---- nothing to look at

no-tu : read_tu [] ≡ none
unfolding read_tu ◌>>=◌ on_read read_byte
no-tu = refl

-- then the part is empty, at 0, whatever is asked for
pub nothing_seen : (n i : ℕ) → field_part [] n i ≡ empty_part
unfolding field_part part_of bytes_from record_at on_behind
nothing_seen zero i = refl
nothing_seen (suc zero) i = rw no-tu
nothing_seen (suc (suc n)) i = rw no-tu
