-- `look_up` meets its contract. The loop's invariant: the records that are left stand from the place on, and bind the prefix to what all of them bind it to.
-- Assumes nothing.
use mathlib.Core.Path.{◌≡◌}
use lib.ListN.{drop}
use Rattle.session_spec.specs.Definitions.{frame, look_up}
use Rattle.output_stores.specs.Stores.{standing}
use Rattle.frames.proofs.Walks.{Walking}
use Rattle.bindings.specs.Bindings.{bound_for}
use Rattle.bindings.proofs.look_up.Given as goal

abbrev pub invariant-loop-record : goal.invariant-loop-record
invariant-loop-record l =
    (Walking l.s (standing frame l.record-iterator.0.now) l.before)
    × (look_up l.prefix (bound_for l.target (drop l.before l.s)) ≡ look_up l.prefix (bound_for l.target l.s))
