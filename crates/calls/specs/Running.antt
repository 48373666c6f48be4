-- WHAT A RUN OVER A BUFFER PROMISES, by `run_frames`: the reply, the bytes taken, and all that is lent as it leaves it.
-- Assumes nothing.
use Rattle.std.specs.Prelude.{length, drop, ◌≡◌, Bool, true, false, List}
use Rattle.std.proofs.Math.Option.{some}
use Rattle.records.specs.Readers.{Bytes}
use Rattle.session_spec.specs.Session as session
use Rattle.session_spec.specs.Session.{Session, taken, refused, decode}
use Rattle.open_scopes.specs.declared.Scope.{Scope}
use Rattle.open_scopes.specs.declared.Numbers.{Numbers}
use Rattle.worlds.specs.Replies.{reply_of}
use Rattle.worlds.specs.Worlds.{world_of}
use Rattle.calls.specs.declared.RunDone.{RunDone}
use Rattle.calls.specs.Buffers.{frames_of, run_frames}

-- whether this reply is the one to a record that was taken
abbrev pub is_taken : session.Reply → Bool
is_taken taken = true
is_taken (refused c) = false

-- THE RUN, over what is lent to it. The path area keeps its length and all behind its first 1,024 bytes, and where no record was taken it is as it was.
pub record Runs (n : Numbers) (list : List Scope) (buffer defs tuples reports paths names cells : Bytes) (r : RunDone) (defs' tuples' reports' paths' names' cells' : Bytes) : Type 0 where
  pub replies : reply_of r.last.reply ≡ (run_frames (world_of n list (length paths) defs tuples reports names cells) (frames_of buffer)).reply
  pub leaves : world_of r.last.numbers r.last.list (length paths) defs' tuples' reports' names' cells' ≡ (run_frames (world_of n list (length paths) defs tuples reports names cells) (frames_of buffer)).world
  pub bytes : r.bytes ≡ (run_frames (world_of n list (length paths) defs tuples reports names cells) (frames_of buffer)).bytes
  pub size : length paths' ≡ length paths
  pub behind : drop 1024 paths' ≡ drop 1024 paths
  pub untaken : r.bytes ≡ 0 → paths' ≡ paths

-- the same of a session that decodes
pub record RunsFrames (n : Numbers) (list : List Scope) (buffer defs tuples reports paths names cells : Bytes) (r : RunDone) (defs' tuples' reports' paths' names' cells' : Bytes) : Type 0 where
  pub runs : (s : Session) → decode (world_of n list (length paths) defs tuples reports names cells) ≡ some s
      → Runs n list buffer defs tuples reports paths names cells r defs' tuples' reports' paths' names' cells'
