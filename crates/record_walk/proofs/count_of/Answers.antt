-- `count_of` meets its contract: the members that pass are as many as the chain counts.
-- Assumes nothing.
use Rattle.record_walk.proofs.Paths.{count-passing}
use Rattle.std.proofs.Common.{rules, ◌≡◌}
use Rattle.std.specs.List.{count_by}
use lib.Dec.{eqb}
use mathlib.Core.Path.{sym, ◌∙◌}
use Rattle.record_walk.proofs.count_of.Goals as goal

pub returns : goal.returns
returns c =
    let a = c.args in
    let k : c.count.result ≡ count_by (λ x. eqb x a.c) a.s.now = search rules in
    k ∙ sym (count-passing a.c a.s.now)
