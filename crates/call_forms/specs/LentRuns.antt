-- A RUN OVER WHAT IS LENT: a session just set up, then call after call; each gets numbers, scopes, stores and areas as the last one left them.
-- Assumes nothing.
use Rattle.std.specs.Prelude.{List, [], ◌∷◌, ◌++◌}
use Rattle.records.specs.Readers.{Bytes}
use Rattle.worlds.specs.Replies.{Reply}
use Rattle.calls.specs.Calls.{Starts}
use Rattle.call_forms.specs.Lent.{Lent, Recorded}

pub data LentRun (begun : Lent) : List Bytes → Lent → Type 0 where
  start : Starts begun.numbers → LentRun begun [] begun
  call : {xs : List Bytes} {l m : Lent} {x : Bytes} {reply : Reply} → LentRun begun xs l → Recorded l x reply m → LentRun begun (xs ++ (x ∷ [])) m
