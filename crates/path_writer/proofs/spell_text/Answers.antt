-- `spell_text` meets its contract: what is spelled is the text without white space.
-- Assumes nothing.
use Rattle.std.proofs.Common.{rules}
use Rattle.path_writer.proofs.Answers.{text-added}
use Rattle.path_writer.proofs.spell_text.Goals as goal

pub returns : goal.returns
returns c =
    let args = c.args in
    let strip = c.without_space-n in
    let alternatives = c.spell_alternatives in
    text-added args.path.now c.requires.0 c.requires.1 _ strip.new.bare strip.result strip.ensures (search rules) args.text.now alternatives.new.text alternatives.result alternatives.ensures
