-- A run through the doors, from five zeros, is a run of the library's calls: what is proved of these holds of it.
-- Assumes nothing.
use mathlib.Core.Path.{sym, subst}
use mathlib.Core.List.{List, [], ◌∷◌, ◌++◌}
use Rattle.records.specs.Readers.{Bytes}
use Rattle.session_spec.specs.Session.{World}
use Rattle.calls.specs.Runs as library
use Rattle.calls.specs.Runs.{Run}
use Rattle.calls.specs.Buffers.{frames_of, handed_in}
use Rattle.calls.proofs.Theorems.{step_call, buffer-run}
use Rattle.call_forms.specs.DoorRuns.{DoorRun, start, call, over}

-- A RUN THROUGH THE DOORS is a run: `run-is-tree`, `demand-3` and `no-ten` of the library are about it
pub door-run : (begun : World) (xs : List Bytes) (w : World) → DoorRun begun xs w → Run begun xs w
door-run begun xs w (start f) = library.start f
door-run begun xs w (call {xs = ys} {v = v} {x = x} r c) =
    subst (Run begun (ys ++ (x ∷ []))) (sym c.leaves) (library.call (door-run begun ys v r) (step_call v x).1)
door-run begun xs w (over {xs = ys} {v = v} {buffer = buffer} r c) =
    subst (Run begun (ys ++ handed_in v (frames_of buffer))) (sym c.leaves) (buffer-run begun ys v (door-run begun ys v r) (frames_of buffer))
