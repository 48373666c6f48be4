-- `attribute_hits` meets its contract. The invariant: the selections of k scopes have been fed.
-- Assumes nothing.
use Rattle.std.proofs.Common.{rules}
use Rattle.attribute_hits.proofs.Scopes.{no-attributes, no-selections, no-scope-fed, one-scope-fed, all-scopes-fed}
use Rattle.open_scopes.specs.OpenScopes.{open_of, blank_scope}
use Rattle.open_scopes.proofs.Places.{few-open}
use mathlib.Core.Path.{ap}
use lib.ListN.{length, get_or}
use native.Mathlib.Omega.{arith}
use Prim.Native.Nat.{◌≤◌}
use Rattle.attribute_hits.proofs.attribute_hits.Goals as goal

pub returns-then-count-eq0 : goal.returns-then-count-eq0
returns-then-count-eq0 c = let a = c.args in no-attributes a.cells.now a.n a.scopes a.names.now a.depth a.defs.now a.area.now a.rec.now a.first a.count c.if-count-eq0.true

pub returns-then-n-eq0 : goal.returns-then-n-eq0
returns-then-n-eq0 c = let a = c.args in no-selections a.cells.now a.n a.scopes a.names.now a.depth a.defs.now a.area.now a.rec.now a.first a.count c.if-n-eq0.true

pub loop-k-init : goal.loop-k-init
loop-k-init c = let a = c.args in no-scope-fed a.cells.now a.n a.scopes a.names.now a.depth a.defs.now a.area.now a.rec.now a.first a.count

pub overflow_cast-place : goal.overflow_cast-place
overflow_cast-place c = let a = c.args in let most : length (open_of a.scopes) ≤ 16 = few-open a.scopes (search rules) in omega (arith, most, ap length c.open-one-items.ensures)

pub loop-k-preserved : goal.loop-k-preserved
loop-k-preserved c = let a = c.args in let l = c.loop-k in let hits = c.scope_takes in one-scope-fed a.cells.now a.n a.scopes a.names.now a.depth a.defs.now a.area.now a.rec.now a.first a.count l.k l.cells l.area l.invariant (omega (arith, ap length c.open-one-items.ensures)) _ (ap (λ s. get_or s l.k blank_scope) c.open-one-items.ensures) hits.new.cells hits.new.area hits.ensures

pub returns : goal.returns
returns c = let a = c.args in let l = c.loop-k in all-scopes-fed a.cells.now a.n a.scopes a.names.now a.depth a.defs.now a.area.now a.rec.now a.first a.count l.k l.cells l.area l.invariant (omega (arith, ap length c.open-one-items.ensures))
