-- WHAT THE RECORD CALL AND THE RUN OVER A BUFFER PROMISE at their doors, by `step` and `run_frames`: five numbers, and stores and areas as bytes, the open scopes among them.
-- Assumes nothing.
use Rattle.std.specs.Prelude.{ℕ, eqb, leb, length, drop, ◌≡◌, cond}
use mathlib.Core.List.{List, [], ◌++◌, flat_map}
use Rattle.lists.specs.Lists.{put}
use Rattle.numbers.specs.Numbers.{four_bytes}
use Rattle.records.specs.Readers.{Bytes}
use Rattle.session_spec.specs.Layout.{ScopeRecord}
use Rattle.session_spec.specs.Session.{World, reply_number, step}
use Rattle.open_scopes.specs.declared.Scope.{Scope}
use Rattle.scope_bytes.specs.ScopeBytes.{scopes_in, scope_bytes}
use Rattle.worlds.specs.Replies.{Reply, reply_of}
use Rattle.worlds.specs.Worlds.{world_of}
use Rattle.calls.specs.Buffers.{frames_of, run_frames}

-- ---- the scope list

-- the sixteen records at the front of the area, 12 bytes each. An area under 192 bytes is no list of sixteen: it counts as an empty one.
unfoldable pub scopes_held : (area : Bytes) → List Scope
scopes_held area = cond (leb 192 (length area)) (scopes_in area) []

-- a record: constraint, number and depth, four bytes each, the low byte first
unfoldable pub record_bytes : ScopeRecord → Bytes
record_bytes s = four_bytes s.constraint ++ (four_bytes s.number ++ four_bytes s.depth)

-- ---- what is handed out of what a call left

pub record HandsOutRecord (reply : Reply) (list : List Scope) (scopes : Bytes) (number : ℕ) (scopes' : Bytes) : Type 0 where
  pub replies : number ≡ reply_number (reply_of reply)
  pub stores : scopes' ≡ cond (eqb number 0) (put scopes 0 (flat_map scope_bytes list)) scopes

pub record HandsOutRun (reply : Reply) (list : List Scope) (bytes : ℕ) (scopes : Bytes) (number : ℕ) (scopes' : Bytes) : Type 0 where
  pub replies : number ≡ reply_number (reply_of reply)
  pub stores : scopes' ≡ cond (eqb bytes 0) scopes (put scopes 0 (flat_map scope_bytes list))

-- ---- all that is lent

abbrev pub lent_world : (events running dused tused rused : ℕ) → (defs tuples reports paths scopes names cells : Bytes) → World
lent_world events running dused tused rused defs tuples reports paths scopes names cells =
    world_of (record { events = events; running = running; definitions = dused; tuples = tused; reports = rused }) (scopes_held scopes) (length paths) defs tuples reports names cells

-- ---- THE RECORD CALL: the number of the reply, the world after it, and of the two areas that a world does not have as bytes, the bytes

pub record Recorded (before : World) (rec paths scopes : Bytes) (reply : ℕ) (after : World) (paths' scopes' : Bytes) : Type 0 where
  pub replies : reply ≡ reply_number (step before rec).0
  pub leaves : after ≡ (step before rec).1
  -- the scope list is written where the record was taken; bytes behind it stay
  pub scope_list : scopes' ≡ cond (eqb reply 0) (put scopes 0 (flat_map record_bytes after.scopes)) scopes
  -- the path area keeps its length and all behind 1,024 bytes, and a refused call hands it back as it was; what a taken record leaves in these is free
  pub path_size : length paths' ≡ length paths
  pub path_behind : drop 1024 paths' ≡ drop 1024 paths
  pub path_kept : (reply ≡ 0 → ⊥) → paths' ≡ paths

-- ---- THE RUN OVER A BUFFER: the same, and how many bytes were taken. Where none was, the scope list and the path area are as they were.

pub record RanOver (before : World) (buffer paths scopes : Bytes) (reply : ℕ) (after : World) (taken : ℕ) (paths' scopes' : Bytes) : Type 0 where
  pub replies : reply ≡ reply_number (run_frames before (frames_of buffer)).reply
  pub leaves : after ≡ (run_frames before (frames_of buffer)).world
  pub bytes : taken ≡ (run_frames before (frames_of buffer)).bytes
  pub scope_list : scopes' ≡ cond (eqb taken 0) scopes (put scopes 0 (flat_map record_bytes after.scopes))
  pub path_size : length paths' ≡ length paths
  pub path_behind : drop 1024 paths' ≡ drop 1024 paths
  pub path_kept : taken ≡ 0 → paths' ≡ paths
