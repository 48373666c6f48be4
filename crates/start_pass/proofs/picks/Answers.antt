-- `picks` meets its contract. The loop's invariant: of the places that are passed by, those of scopes that select the element are in the set.
-- Assumes nothing.
use Rattle.std.proofs.Common.{rules}
use native.Mathlib.Omega.{arith}
use lib.ListN.{length, get_or}
use mathlib.Core.Path.{ap}
use Rattle.open_scopes.specs.OpenScopes.{blank_scope}
use Rattle.open_scopes.proofs.Places.{few-open}
use Rattle.start_pass.proofs.Picking.{picked_none, picked_all, picked-on}
use Rattle.start_pass.proofs.picks.Goals as goal

pub loop-j-init : goal.loop-j-init
loop-j-init c =
    let args = c.args in
    picked_none args.defs.now args.scopes args.names.now args.depth args.area.now

pub with_place-set-requires : goal.with_place-set-requires
with_place-set-requires c =
    let loop = c.loop-j in
    let g = loop.invariant.grown in
    let few = few-open c.args.scopes (search rules) in
    record { few = omega (arith, few, ap length c.open-scope-items.ensures); low = g.low }

pub loop-j-preserved : goal.loop-j-preserved
loop-j-preserved c =
    let args = c.args in
    let loop = c.loop-j in
    let one = c.picks_one-here in
    let few = few-open args.scopes (search rules) in
    let with = c.with_place-set in
    picked-on args.defs.now args.scopes args.names.now args.depth args.area.now loop.set loop.j loop.area loop.invariant (omega (arith, few, ap length c.open-scope-items.ensures)) (omega (arith, ap length c.open-scope-items.ensures)) _ (ap (λ l. get_or l loop.j blank_scope) c.open-scope-items.ensures) one.result one.new.area one.ensures with.result with.ensures

pub returns : goal.returns
returns c =
    let args = c.args in
    let loop = c.loop-j in
    picked_all args.defs.now args.scopes args.names.now args.depth args.area.now loop.set loop.j loop.area loop.invariant (search rules) (λ few. omega (arith, ap length c.open-scope-items.ensures))
