-- `home_of` meets its contract: from the number of the scope's constraint to the parts of its ID.
-- Assumes nothing.
use Rattle.settling.proofs.Homes.{home-is}
use Rattle.settling.proofs.home_of.Goals as goal

pub returns : goal.returns
returns c = λ k x there stands.
    let a = c.args in
    let g = c.scope_of-scope in
    let n = c.numbered in
    home-is k x a.g.now.cells.now a.j a.g.now.scopes a.g.now.defs.now g.result n.result.own.now n.result.parts c.narrow.result c.kind_of.result c.is_some.result
    g.ensures n.ensures.records n.ensures.parts c.narrow.ensures c.kind_of.ensures c.is_some.ensures there stands
