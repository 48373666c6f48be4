-- `note_places` meets its contract: one record after the other, each place noted where its record begins.
-- Assumes nothing.
use Rattle.session_spec.specs.Definitions.{frame}
use Rattle.output_stores.specs.Stores.{standing}
use Rattle.tuple_places.proofs.Places.{walk-on}
use Rattle.tuple_places.proofs.note_places.Goals as goal

pub loop-front-preserved : goal.loop-front-preserved
loop-front-preserved c =
    let a = c.args in
    let l = c.loop-front in
    walk-on a.places.now a.used.now l.places (standing frame l.front-iterator.0.now) l.place l.invariant _ _ c.in-Some.ensures.steps _ c.note_record.ensures
