-- `take_id` meets its contract: what is answered by the verdict of the used bytes is what `step` is.
-- Assumes nothing.
use Rattle.defining.proofs.Stepping.{takes-id}
use Rattle.definition_store.specs.Store.{stands_against}
use Rattle.defining.proofs.take_id.Goals as goal

pub returns : goal.returns
returns c =
    let args = c.args in
    let verdict = c.verdict_id-constraint in
    let took = c.take_definition in
    takes-id args.n args.list args.rec.now args.defs.now took.result took.new.defs (stands_against verdict.result) verdict.ensures took.ensures
