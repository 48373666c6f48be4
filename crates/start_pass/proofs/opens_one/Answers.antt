-- `opens_one` meets its contract: the paths in the records of the number are those of its constraint.
-- Assumes nothing.
use mathlib.Core.Path.{◌≡◌, subst}
use Rattle.bindings.specs.Bindings.{frames_in}
use Rattle.bindings.specs.Own.{own_frames}
use Rattle.constraints.specs.Constraints.{joined}
use Rattle.start_pass.proofs.Stands.{opens-one-is}
use Rattle.start_pass.proofs.opens_one.Goals as goal

pub returns : goal.returns
returns c =
    let args = c.args in
    let own = c.own_of-own in
    let read = c.paths_read in
    opens-one-is args.defs.now args.number own.result.now args.area.now read.result read.new.area
    (subst (λ n. own.result.now ≡ joined (own_frames n (frames_in args.defs.now))) c.from.ensures own.ensures) read.ensures
