-- `decide` meets its contract: place and events first, and then the rest.
-- Assumes nothing.
use Rattle.defining.proofs.Deciding.{late, too_many, then-weighed}
use native.Mathlib.Omega.{arith}
use mathlib.Core.Path.{sym, ◌∙◌}
use Rattle.open_scopes.specs.Counting.{as_counts}
use Rattle.definition_store.specs.Store.{stands_against}
use Rattle.defining.proofs.decide.Goals as goal

pub returns-then-counts-ne0 : goal.returns-then-counts-ne0
returns-then-counts-ne0 c =
    let args = c.args in
    let counts = c.unpack-counts in
    late args.n (stands_against args.v) args.size args.room (as_counts counts.result) counts.ensures (λ e. omega arith)

pub returns-then-n-ge1000000 : goal.returns-then-n-ge1000000
returns-then-n-ge1000000 c =
    let args = c.args in
    let counts = c.unpack-counts in
    too_many args.n (stands_against args.v) args.size args.room (as_counts counts.result) counts.ensures (omega arith) (omega arith)

pub returns : goal.returns
returns c =
    let args = c.args in
    let counts = c.unpack-counts in
    c.weigh.ensures ∙ sym (then-weighed args.n (stands_against args.v) args.size args.room (as_counts counts.result) counts.ensures (omega arith) (omega arith))
