-- `take_frames` meets its contract: by `run`.
-- Assumes nothing.
use mathlib.Core.Path.{refl}
use Rattle.call_forms.proofs.Pieces.{takes_whole}
use Rattle.icheck.proofs.take_frames.Goals as goal

pub returns : goal.returns
returns c =
    let a = c.args in
    let run = c.run in
    takes_whole a.n a.list a.piece.now _ a.defs.now a.tuples.now a.reports.now a.paths.now a.names.now a.cells.now run.new.defs run.new.tuples run.new.reports run.new.paths run.new.names run.new.cells run.result refl run.ensures
