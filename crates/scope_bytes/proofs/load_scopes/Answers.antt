-- `load_scopes` meets its contract: each call of the closure gives the record at its number.
-- Assumes nothing.
use Rattle.std.proofs.Common.{rules, tests}
use Rattle.scope_bytes.specs.ScopeBytes.{scope_at}
use Rattle.scope_bytes.proofs.Turns.{made-is}
use Rattle.scope_bytes.proofs.load_scopes.Goals as goal

pub returns : goal.returns
unfolding scope_at
returns c = made-is _ _ c.args.bytes.now c.from_fn.result (λ i s q k. search (rules, tests)) c.from_fn.ensures.items
