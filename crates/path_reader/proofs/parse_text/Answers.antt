-- `parse_text` meets its contract: by whether the path is plain.
-- Assumes nothing.
use native.Mathlib.Omega.{arith}
use mathlib.Core.Path.{sym, ◌∙◌}
use Rattle.path_reader.proofs.Plain.{no-bar}
use Rattle.path_reader.proofs.Parsing.{plain-parsed}
use Rattle.path_reader.proofs.parse_text.Goals as goal

pub parse_one-requires : goal.parse_one-requires
parse_one-requires c =
    let if1 = c.if-is_plain in
    let is_plain = c.is_plain in
    let args = c.args in
    let room = c.requires in
    (room, no-bar args.path.now (sym is_plain.ensures ∙ if1.true))

pub returns-then-is_plain : goal.returns-then-is_plain
returns-then-is_plain c =
    let parse-one = c.parse_one in
    let if1 = c.if-is_plain in
    let is_plain = c.is_plain in
    let args = c.args in
    plain-parsed args.field args.path.now args.area.now 124 (omega arith) (sym is_plain.ensures ∙ if1.true) parse-one.result parse-one.new.area parse-one.ensures

pub returns-then-is_plain-2 : goal.returns-then-is_plain-2
returns-then-is_plain-2 c =
    let parse-alternatives = c.parse_alternatives in
    let if2 = c.if-is_plain-2 in
    let is-plain2 = c.is_plain-else-is_plain in
    let args = c.args in
    plain-parsed args.field args.path.now args.area.now 128 (omega arith) (sym is-plain2.ensures ∙ if2.true) parse-alternatives.result parse-alternatives.new.area parse-alternatives.ensures
