-- `answering` meets its contract: the bits of the IDs are those of the constraints.
-- Assumes nothing.
use Rattle.std.proofs.Common.{rules}
use mathlib.Core.Bool.{true}
use Rattle.constraints.specs.Walks.{bears}
use Rattle.constraints.proofs.Bearing.{bearers-are}
use Rattle.constraints.proofs.answering.Goals as goal

pub returns : goal.returns
returns c =
    let args = c.args in
    bearers-are true args.refer.now args.used.now c.bearers.result (c.bearers.ensures (bears true args.refer.now) (λ id b p. search rules))
