-- `parse_marked` meets its contract: the head is written before the steps, where these were.
-- Assumes nothing.
use Rattle.std.proofs.Common.{rules}
use Rattle.path_reader.proofs.Alternatives.{marked-none, head-room, marked-some}
use Rattle.path_reader.proofs.parse_marked.Goals as goal

pub returns-in_err-steps : goal.returns-in_err-steps
returns-in_err-steps c =
    let args = c.args in
    let parts = c.parse_parts in
    rw c.from_residual.ensures (marked-none args.descendant args.field args.s.now args.area.now parts.new.area args.at parts.result parts.ensures c.requires c.in_err-steps.was)

pub put_alternative_head-requires : goal.put_alternative_head-requires
put_alternative_head-requires c =
    let args = c.args in
    let parts = c.parse_parts in
    head-room args.descendant args.field args.s.now args.area.now parts.new.area args.at parts.result parts.ensures c.requires c.in_ok-steps.steps c.in_ok-steps.was (search rules)

pub returns : goal.returns
returns c =
    let args = c.args in
    let parts = c.parse_parts in
    marked-some args.descendant args.field args.s.now args.area.now parts.new.area args.at parts.result parts.ensures c.requires c.in_ok-steps.steps c.in_ok-steps.was c.put_alternative_head.new.area c.put_alternative_head.ensures
