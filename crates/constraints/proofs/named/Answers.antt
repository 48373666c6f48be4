-- `named` meets its contract: the bits of the IDs are those of the constraints.
-- Assumes nothing.
use Rattle.std.proofs.Common.{rules}
use mathlib.Core.Bool.{false}
use Rattle.constraints.specs.Walks.{bears}
use Rattle.constraints.proofs.Bearing.{bearers-are}
use Rattle.constraints.proofs.named.Goals as goal

pub returns : goal.returns
returns c =
    let args = c.args in
    bearers-are false args.name.now args.used.now c.bearers.result (c.bearers.ensures (bears false args.name.now) (λ id b p. search rules))
