-- `fields_of` meets its contract. The loop's invariant: the places before i have the counts of the scopes before i.
-- Assumes nothing.
use Rattle.std.proofs.Common.{rules}
use native.Mathlib.Omega.{arith}
use lib.ListN.{length, get_or, length-set}
use mathlib.Core.Path.{◌≡◌, ap, ◌∙◌}
use Rattle.open_scopes.specs.OpenScopes.{open_of, blank_scope}
use Rattle.open_scopes.proofs.Places.{few-open}
use Rattle.well_formed.proofs.Fields.{fields-more, all-fields}
use Rattle.well_formed.proofs.fields_of.Goals as goal

pub bounds-fields-i : goal.bounds-fields-i
bounds-fields-i c =
    let w : length c.args.scopes.list ≡ 16 = search rules in
    let same = ap length c.open-one-items.ensures in
    let few = few-open c.args.scopes w in
    omega arith

pub loop-i-preserved : goal.loop-i-preserved
loop-i-preserved c =
    let w : length c.args.scopes.list ≡ 16 = search rules in
    let few = few-open c.args.scopes w in
    let same = ap length c.open-one-items.ensures in (
      length-set c.loop-i.fields c.loop-i.i c.field_count.result ∙ c.loop-i.invariant.0,
      fields-more c.args.used.now (open_of c.args.scopes) c.loop-i.fields c.loop-i.i c.field_count.result _
          (ap (λ s. get_or s c.loop-i.i blank_scope) c.open-one-items.ensures) (omega arith) (omega arith) c.field_count.ensures c.loop-i.invariant.1,
    )

pub returns : goal.returns
returns c =
    let same = ap length c.open-one-items.ensures in
    all-fields c.args.used.now (open_of c.args.scopes) c.loop-i.fields c.loop-i.i (length c.open-one-items.result.now) same
    (omega arith) (omega arith) c.loop-i.invariant.1
