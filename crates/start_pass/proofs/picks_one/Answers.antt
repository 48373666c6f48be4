-- `picks_one` meets its contract: the selector in the records of the scope's constraint is asked from the depth of the scope.
-- Assumes nothing.
use Rattle.start_pass.proofs.Stands.{picks-one-is}
use Rattle.start_pass.proofs.picks_one.Goals as goal

pub returns : goal.returns
returns c =
    let args = c.args in
    let own = c.own_of-own in
    let take = c.takes in
    picks-one-is args.defs.now args.s args.names.now args.depth own.result.now args.area.now take.result take.new.area own.ensures take.ensures
