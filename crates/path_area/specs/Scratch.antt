-- What a call leaves of the parsed-path area, and what a path that is read leaves in it.
-- Assumes nothing.
use Rattle.std.specs.Prelude.{length, drop, ◌≡◌, Bool, true, false, List}
use Rattle.std.proofs.Math.Option.{some}
use Rattle.texts.specs.Texts.{Text}
use Rattle.paths.specs.Reading.{WrittenAlt, read_path}
use Rattle.records.specs.Readers.{Bytes}
use Rattle.session_spec.specs.Definitions.{is_some}
use Rattle.path_entries.specs.Entries.{path_in}
use Rattle.path_reader.specs.Parsing.{roomy}

-- The area keeps its length and all behind its first 1,024 bytes; what these hold is free.
pub record Scratched (before after : Bytes) : Type 0 where
  pub size : length after ≡ length before
  pub behind : drop 1024 after ≡ drop 1024 before

-- THE PROMISE of reading a path into the area. There is room for a path of at most 255 bytes in 1,024; without room none is read.
pub record ReadsInto (field : Bool) (path : Text) (before : Bytes) (r : Bool) (after : Bytes) : Type 0 where
  pub answers : roomy path before ≡ true → r ≡ is_some (read_path field path)
  pub entries : roomy path before ≡ true → (alts : List WrittenAlt) → read_path field path ≡ some alts → path_in after ≡ alts
  pub unread : roomy path before ≡ false → r ≡ false
  pub scratched : Scratched before after
