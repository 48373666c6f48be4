-- `parse_one` meets its contract: each way it returns is a law of proofs/Alternatives.antt.
-- Assumes nothing.
use Rattle.path_reader.proofs.Alternatives.{one_none, one-some}
use Rattle.path_reader.proofs.parse_one.Goals as goal

pub returns-in_err-end : goal.returns-in_err-end
returns-in_err-end c =
    let args = c.args in
    let room = c.requires in
    let got = c.parse_alternative in
    rw c.from_residual.ensures (one_none args.field args.s.now args.area.now room.0.short room.0.wide room.1 got.new.area got.result got.ensures c.in_err-end.was)

pub returns : goal.returns
returns c =
    let put_byte = c.put_byte in
    let args = c.args in
    let room = c.requires in
    let got = c.parse_alternative in
    one-some args.field args.s.now args.area.now room.0.short room.0.wide room.1 got.new.area got.result got.ensures c.in_ok-end.end c.in_ok-end.was put_byte.new.area put_byte.result put_byte.ensures
