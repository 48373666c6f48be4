-- `spell_alternative` meets its contract: by whether `.//` stands in front.
-- Assumes nothing.
use Rattle.path_writer.proofs.Alternatives.{plain-added, deep_room, deep-added}
use Rattle.path_writer.proofs.spell_alternative.Goals as goal

pub spell_parts-requires : goal.spell_parts-requires
spell_parts-requires c =
    let mark = c.append_bytes-start in
    deep_room _ c.args.text.now c.args.at _ c.in-Some.ensures c.requires mark.result mark.new.store mark.ensures

pub returns-in-Some : goal.returns-in-Some
returns-in-Some c =
    let mark = c.append_bytes-start in
    let parts = c.spell_parts in
    deep-added _ c.args.text.now c.args.at _ c.in-Some.ensures c.requires mark.result mark.new.store mark.ensures parts.result parts.new.text parts.ensures

pub returns-in-None : goal.returns-in-None
returns-in-None c =
    let parts = c.spell_parts-in-None in
    plain-added c.args.s.now c.args.text.now c.args.at c.in-None.ensures parts.result parts.new.text parts.ensures
