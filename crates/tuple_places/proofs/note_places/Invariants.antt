-- `note_places` meets its contract: one record after the other, each place noted where its record begins.
-- Assumes nothing.
use Rattle.session_spec.specs.Definitions.{frame}
use Rattle.output_stores.specs.Stores.{standing}
use Rattle.tuple_places.proofs.Places.{Walking}
use Rattle.tuple_places.proofs.note_places.Given as goal

abbrev pub invariant-loop-front : goal.invariant-loop-front
invariant-loop-front l = Walking l.initial.places l.used l.places (standing frame l.front-iterator.0.now) l.place
