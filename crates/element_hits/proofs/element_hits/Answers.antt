-- `element_hits` meets its contract. The loop's invariant: the numbers of the first k scopes are done, and the others are 0.
-- Assumes nothing.
use Rattle.std.proofs.Common.{rules}
use Rattle.element_hits.proofs.Sessions.{scoped-none, scoped-one, scoped-all}
use lib.ListN.{length, get_or}
use Rattle.open_scopes.specs.OpenScopes.{blank_scope}
use Rattle.open_scopes.proofs.Places.{few-open}
use mathlib.Core.Path.{ap}
use native.Mathlib.Omega.{arith}
use Rattle.element_hits.proofs.element_hits.Goals as goal

pub loop-k-init : goal.loop-k-init
loop-k-init c = let a = c.args in scoped-none a.cells.now a.n a.scopes a.names.now a.depth a.defs.now a.area.now

pub overflow_cast-place : goal.overflow_cast-place
overflow_cast-place c = let few = few-open c.args.scopes (search rules) in omega (arith, few, ap length c.open-one-items.ensures)

pub loop-k-preserved : goal.loop-k-preserved
loop-k-preserved c = let a = c.args in let l = c.loop-k in let sh = c.scope_hits in scoped-one a.cells.now a.n a.scopes a.names.now a.depth a.defs.now a.area.now l.k l.area l.counts l.invariant (omega (arith, ap length c.open-one-items.ensures)) _ (ap (λ s. get_or s l.k blank_scope) c.open-one-items.ensures) sh.new.area sh.new.counts sh.ensures

pub returns : goal.returns
returns c = let a = c.args in let l = c.loop-k in scoped-all a.cells.now a.n a.scopes a.names.now a.depth a.defs.now a.area.now l.k l.area l.counts l.invariant (omega (arith, ap length c.open-one-items.ensures))
