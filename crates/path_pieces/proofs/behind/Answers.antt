-- `behind` meets its contract: what stands behind goes by whether the front is the same as the other text.
-- Assumes nothing.
use Rattle.std.proofs.Common.{◌≡◌, arith, drop, length}
use Rattle.std.proofs.lemmas.Grind.{common_steps}
use Rattle.path_pieces.proofs.Pieces.{behind-same, behind-longer}
use Rattle.path_pieces.proofs.behind.Goals as goal

pub returns-in_err-rest : goal.returns-in_err-rest
returns-in_err-rest c = rw c.from_residual.ensures (behind-longer c.args.front.now c.args.s.now (grind (arith, common_steps)))

pub returns : goal.returns
returns c =
    let s = c.args.s.now in
    let f = c.args.front.now in
    let e : c.in_ok-rest.rest.now ≡ drop (length f) s = grind (arith, common_steps) in
    rw c.then_some.ensures (behind-same f s c.clipped.result.now c.same.result c.in_ok-rest.rest c.clipped.ensures c.same.ensures e)
