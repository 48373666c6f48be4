-- `refs_of` meets its contract: each call of the closure gives the set at its number.
-- Assumes nothing.
use Rattle.std.proofs.Common.{rules, tests}
use Rattle.finishing.proofs.Refers.{made-all}
use Rattle.finishing.proofs.refs_of.Goals as goal

pub returns : goal.returns
returns c = made-all _ _ c.args.defs.now c.from_fn.result (λ i r q l k. search (rules, tests)) c.from_fn.ensures.items
