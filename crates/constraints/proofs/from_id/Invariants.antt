-- `from_id` meets its contract. The loop's invariant: the records of the constraint that is still sought among those left are those that are sought in the whole.
-- Assumes nothing.
use mathlib.Core.Path.{◌≡◌}
use Rattle.session_spec.specs.Definitions.{frame}
use Rattle.output_stores.specs.Stores.{standing}
use Rattle.frames.proofs.Walks.{Walking}
use Rattle.bindings.specs.Own.{own_frames}
use Rattle.bindings.specs.Bindings.{frames_in}
use Rattle.constraints.proofs.from_id.Given as goal

abbrev pub invariant-loop-record : goal.invariant-loop-record
invariant-loop-record l =
    (Walking l.used (standing frame l.record-iterator.0.now) l.before)
    × (own_frames l.left (standing frame l.record-iterator.0.now) ≡ own_frames l.number (frames_in l.used))
