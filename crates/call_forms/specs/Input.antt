-- THE INPUT IN PIECES: what is read behind the bytes that are held, the records that a piece hands in, and what stays for the next piece.
-- Assumes nothing.
use Rattle.std.specs.Prelude.{ℕ, ◌+◌, ◌-◌, ◌≤◌, length, take, drop, ◌≡◌, Bool, true, false, List, [], ◌∷◌, ◌++◌}
use Rattle.lists.specs.Lists.{part}
use Rattle.records.specs.Readers.{Bytes}
use Rattle.session_spec.specs.Session.{taken}
use Rattle.open_scopes.specs.declared.Scope.{Scope}
use Rattle.open_scopes.specs.declared.Numbers.{Numbers}
use Rattle.worlds.specs.Replies.{reply_of}
use Rattle.worlds.specs.Worlds.{world_of}
use Rattle.calls.specs.declared.RunDone.{RunDone}
use Rattle.calls.specs.Buffers.{frames_of, run_frames}

-- the bytes that are held stay, and those that are read stand behind them
pub record Grown (before : Bytes) (held end : ℕ) (after : Bytes) : Type 0 where
  pub more : held ≤ end
  pub within : end ≤ length after
  pub size : length after ≡ length before
  pub stays : take held after ≡ take held before

-- The records that a piece hands in: the frames that are whole; and of the last piece what there is, as it is.
unfoldable pub records_of_piece : (is_last : Bool) → Bytes → List Bytes
records_of_piece false xs = frames_of xs
records_of_piece true [] = []
records_of_piece true (x ∷ xs) = (x ∷ xs) ∷ []

-- so many bytes in all
unfoldable pub total : List Bytes → ℕ
total [] = 0
total (x ∷ xs) = length x + total xs

-- what stands behind the frames that are whole
unfoldable pub rest_of : Bytes → Bytes
rest_of xs = drop (total (frames_of xs)) xs

-- THE RECORDS OF AN INPUT: the frames that are whole, and behind them what is left.
unfoldable pub records_of : Bytes → List Bytes
records_of xs = frames_of xs ++ records_of_piece true (rest_of xs)

-- The same where the input comes in pieces: what one leaves is held, and stands before the next.
unfoldable pub records_in : (held : Bytes) → (pieces : List Bytes) → List Bytes
records_in held [] = records_of_piece true held
records_in held (p ∷ ps) = records_of_piece false (held ++ p) ++ records_in (rest_of (held ++ p)) ps

-- Running them, over what is lent. Where all frames of a piece are taken, what stands behind their bytes is what is left.
pub record Takes (n : Numbers) (list : List Scope) (piece : Bytes) (is_last : Bool) (defs tuples reports paths names cells : Bytes) (r : RunDone) (defs' tuples' reports' paths' names' cells' : Bytes) : Type 0 where
  pub replies : reply_of r.last.reply ≡ (run_frames (world_of n list (length paths) defs tuples reports names cells) (records_of_piece is_last piece)).reply
  pub leaves : world_of r.last.numbers r.last.list (length paths) defs' tuples' reports' names' cells' ≡ (run_frames (world_of n list (length paths) defs tuples reports names cells) (records_of_piece is_last piece)).world
  pub bytes : is_last ≡ false → reply_of r.last.reply ≡ taken → r.bytes ≡ total (frames_of piece)

-- the bytes from a place to the end of the piece are at the front now
pub record Kept (before : Bytes) (from end held : ℕ) (after : Bytes) : Type 0 where
  pub sized : held ≡ end - from
  pub size : length after ≡ length before
  pub front : take held after ≡ part before from held
