-- `parse_spaced` meets its contract: each way it returns is a law of proofs/Parsing.antt.
-- Assumes nothing.
use mathlib.Core.Path.{sym, ◌∙◌}
use Rattle.path_reader.proofs.Parsing.{not-utf8, spaced-parsed}
use Rattle.path_reader.proofs.parse_spaced.Goals as goal

pub returns-then-not-is_utf8 : goal.returns-then-not-is_utf8
returns-then-not-is_utf8 c =
    let if1 = c.if-not-is_utf8 in
    let is-utf8 = c.is_utf8 in
    let args = c.args in
    not-utf8 args.field args.path.now args.area.now (sym is-utf8.ensures ∙ if1.true)

pub returns : goal.returns
returns c =
    let parse-alternatives = c.parse_alternatives in
    let drop-space = c.drop_space-n in
    let if1 = c.if-not-is_utf8 in
    let is-utf8 = c.is_utf8 in
    let args = c.args in
    spaced-parsed args.field args.path.now args.area.now (sym is-utf8.ensures ∙ if1.false) _ drop-space.new.bare drop-space.result drop-space.ensures.0 drop-space.ensures.1 parse-alternatives.result parse-alternatives.new.area parse-alternatives.ensures
