-- `parse_alternative` meets its contract: by whether './/' stands first.
-- Assumes nothing.
use native.Mathlib.Omega.{arith}
use Rattle.path_pieces.proofs.Pieces.{behind-length}
use Rattle.path_reader.proofs.Alternatives.{alt-deep, alt-plain}
use Rattle.path_reader.proofs.parse_alternative.Goals as goal

pub parse_marked-requires : goal.parse_marked-requires
parse_marked-requires c =
    let k = behind-length _ _ _ c.in-Some.ensures in
    let room = c.requires in
    record { short = omega arith; wide = room.wide; fits = omega arith }

pub returns-in-Some : goal.returns-in-Some
returns-in-Some c =
    let parse = c.parse_marked in
    alt-deep c.args.field c.args.s.now c.args.area.now parse.new.area c.args.at parse.result _ c.in-Some.ensures parse.ensures

pub returns-in-None : goal.returns-in-None
returns-in-None c =
    let parse = c.parse_marked-in-None in
    alt-plain c.args.field c.args.s.now c.args.area.now parse.new.area c.args.at parse.result c.in-None.ensures parse.ensures
