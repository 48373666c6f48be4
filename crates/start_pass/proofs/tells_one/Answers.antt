-- `tells_one` meets its contract: each return by a law of its own.
-- Assumes nothing.
use mathlib.Core.Path.{sym, ◌∙◌}
use Rattle.start_pass.proofs.Stands.{tells-told}
use Rattle.start_pass.proofs.tells_one.Goals as goal

pub returns : goal.returns
returns c =
    let args = c.args in
    tells-told args.defs.now args.number args.place args.opened args.said args.reports.now (sym c.has.ensures ∙ c.if-has.false) (sym c.has-else-has.ensures ∙ c.if-has-2.false) c.named_as.result c.named_as.ensures c.told.result c.told.ensures
