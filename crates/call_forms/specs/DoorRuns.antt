-- A RUN THROUGH THE DOORS: five zeros, then call after call, of one record or over a buffer; each gets numbers, stores and areas as the last one left them.
-- Assumes nothing.
use Rattle.std.specs.Prelude.{ℕ, List, [], ◌∷◌, ◌++◌}
use Rattle.records.specs.Readers.{Bytes}
use Rattle.session_spec.specs.Session.{World}
use Rattle.calls.specs.Calls.{Fresh}
use Rattle.calls.specs.Buffers.{frames_of, handed_in}
use Rattle.call_forms.specs.Doors.{Recorded, RanOver}

-- from the world `begun`, the calls with these records lead to a world
pub data DoorRun (begun : World) : List Bytes → World → Type 0 where
  start : Fresh begun → DoorRun begun [] begun
  call : {xs : List Bytes} {v w : World} {x paths scopes paths' scopes' : Bytes} {reply : ℕ}
      → DoorRun begun xs v → Recorded v x paths scopes reply w paths' scopes' → DoorRun begun (xs ++ (x ∷ [])) w
  over : {xs : List Bytes} {v w : World} {buffer paths scopes paths' scopes' : Bytes} {reply taken : ℕ}
      → DoorRun begun xs v → RanOver v buffer paths scopes reply w taken paths' scopes' → DoorRun begun (xs ++ handed_in v (frames_of buffer)) w
