-- What holds of the parsed-path area, whose first 1,024 bytes are free after a record that was taken.
-- Assumes nothing.
use Rattle.std.specs.Prelude.{length, drop, ◌≡◌}
use Rattle.records.specs.Readers.{Bytes}
use Rattle.worlds.specs.Replies.{Reply, Taken}

-- It keeps its length, and all behind its first 1,024 bytes. A call that refuses leaves it as it was; what the 1,024 hold after one that takes the record
-- is free.
pub record PathArea (reply : Reply) (before after : Bytes) : Type 0 where
  pub size : length after ≡ length before
  pub behind : drop 1024 after ≡ drop 1024 before
  pub kept : (reply ≡ Taken → ⊥) → after ≡ before
