-- `take_ns` meets its contract: what is answered by the verdict of the used bytes is what `step` is.
-- Assumes nothing.
use Rattle.defining.proofs.Stepping.{takes-ns}
use Rattle.definition_store.specs.Store.{stands_against}
use Rattle.defining.proofs.take_ns.Goals as goal

pub returns : goal.returns
returns c =
    let args = c.args in
    let verdict = c.verdict_ns-binding in
    let took = c.take_definition in
    takes-ns args.n args.list args.rec.now args.defs.now took.result took.new.defs (stands_against verdict.result) args.ns verdict.ensures took.ensures
