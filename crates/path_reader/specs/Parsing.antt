-- What parsing a path into the parsed-path area answers and leaves there; and what dropping its white space does.
-- Assumes nothing.
use Rattle.std.specs.Prelude.{ℕ, length, drop, ◌≡◌, Bool, true, false, List}
use Rattle.std.specs.declared.result.Result.{Result}
use Rattle.std.specs.declared.result.Result.TheVariants.{Ok, Err}
use Rattle.std.proofs.Math.Option.{Option, none, some}
use Rattle.lists.specs.Lists.{over}
use Rattle.texts.specs.Texts.{Text}
use Rattle.paths.specs.Reading.{WrittenAlt, read_path}
use Rattle.records.specs.Readers.{Bytes}
use Rattle.path_entries.specs.Entries.{put_path}
unfoldable pub use Rattle.path_entries.specs.Rooms.{roomy}
unfoldable pub use Rattle.path_entries.specs.Rooms.{bare_text}
use Rattle.path_reader.specs.declared.Unparsed.{Unparsed}
use Rattle.path_reader.specs.declared.Unparsed.TheVariants.{Unread, NoRoom}

-- A path that is read leaves its entries at the front of the area, and all behind them as it was. One that is not read keeps the area's length
-- and all behind the first 1,024 bytes; what these hold is free.
abbrev pub Leaves : Option (List WrittenAlt) → (before : Bytes) → Result ℕ Unparsed → (after : Bytes) → Type 0
Leaves none before r after = (r ≡ Err Unread) × (length after ≡ length before) × (drop 1024 after ≡ drop 1024 before)
Leaves (some alts) before r after = (r ≡ Ok (length (put_path alts))) × (after ≡ over before 0 (put_path alts))

-- without room nothing is done
abbrev pub Within : Bool → Option (List WrittenAlt) → (before : Bytes) → Result ℕ Unparsed → (after : Bytes) → Type 0
Within false o before r after = (r ≡ Err NoRoom) × (after ≡ before)
Within true o before r after = Leaves o before r after

-- THE PROMISE: the reader's path of this text, in the area
abbrev pub Parses : (field : Bool) → Text → (before : Bytes) → Result ℕ Unparsed → (after : Bytes) → Type 0
Parses field path before r after = Within (roomy path before) (read_path field path) before r after

-- The text without white space stands at the front, and all behind it as it was; `r` is how many bytes it has.
pub record Strips (path : Text) (before : Bytes) (r : ℕ) (after : Bytes) : Type 0 where
  pub answers : r ≡ length (bare_text path (length before))
  pub leaves : after ≡ over before 0 (bare_text path (length before))
