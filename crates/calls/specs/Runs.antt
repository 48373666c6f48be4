-- A RUN: from a session just set up, call after call; each gets the world as the last one left it. The calls are those of the promise.
-- Assumes nothing.
use Rattle.std.specs.Prelude.{List, [], ◌∷◌, ◌++◌}
use Rattle.records.specs.Readers.{Bytes}
use Rattle.session_spec.specs.Session.{World}
use Rattle.worlds.specs.Replies.{Reply}
use Rattle.calls.specs.Calls.{Call, Fresh}

-- from the world `begun`, the calls with the records `xs` lead to a world
pub data Run (begun : World) : List Bytes → World → Type 0 where
  start : Fresh begun → Run begun [] begun
  call : {xs : List Bytes} {v w : World} {x : Bytes} {reply : Reply} → Run begun xs v → Call v x reply w → Run begun (xs ++ (x ∷ [])) w
