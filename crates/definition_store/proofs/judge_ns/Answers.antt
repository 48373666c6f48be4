-- `judge_ns` meets its contract: the first test that holds gives the answer.
-- Assumes nothing.
use Rattle.definition_store.proofs.Judging.{ns-undefined, ns-bound, ns-full, ns-good}
use Rattle.definition_store.proofs.judge_ns.Goals as goal

pub returns-then-lacks_target : goal.returns-then-lacks_target
returns-then-lacks_target c =
    let args = c.args in
    let lacks = c.lacks_target in
    ns-undefined args.used.now args.t args.target args.prefix.now lacks.result lacks.ensures c.if-lacks_target.true

pub returns-then-is_bound_again : goal.returns-then-is_bound_again
returns-then-is_bound_again c =
    let args = c.args in
    let lacks = c.lacks_target in
    let again = c.is_bound_again in
    ns-bound args.used.now args.t args.target args.prefix.now lacks.result lacks.ensures c.if-lacks_target.false
    again.result again.ensures c.if-is_bound_again.true

pub returns-then-t-ge64 : goal.returns-then-t-ge64
returns-then-t-ge64 c =
    let args = c.args in
    let lacks = c.lacks_target in
    let again = c.is_bound_again in
    ns-full args.used.now args.t args.target args.prefix.now lacks.result lacks.ensures c.if-lacks_target.false
    again.result again.ensures c.if-is_bound_again.false c.if-t-ge64.true

pub returns : goal.returns
returns c =
    let args = c.args in
    let lacks = c.lacks_target in
    let again = c.is_bound_again in
    ns-good args.used.now args.t args.target args.prefix.now lacks.result lacks.ensures c.if-lacks_target.false
    again.result again.ensures c.if-is_bound_again.false c.if-t-ge64.false
