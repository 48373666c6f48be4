-- `spell_part` meets its contract: by what the part is, a law of proofs/Parts.antt.
-- Assumes nothing.
use native.Mathlib.Omega.{arith}
use mathlib.Core.List.{[], ◌∷◌}
use Rattle.path_writer.proofs.Parts.{attribute-room, attribute-added, itself-added, child-added}
use Rattle.path_writer.proofs.Adding.{adds-appended}
use Rattle.path_writer.proofs.spell_part.Goals as goal

pub spell_test-requires : goal.spell_test-requires
spell_test-requires c =
    let args = c.args in
    let at = c.append_bytes-name in
    attribute-room args.t.now c.as_part.result c.as_part.ensures args.text.now args.at c.in-Attribute.test c.in-Attribute.is at.result at.new.store
    (adds-appended args.text.now at.new.store args.at at.result (64 ∷ []) (omega (arith, c.requires)) at.ensures) c.requires

pub returns-in-Attribute : goal.returns-in-Attribute
returns-in-Attribute c =
    let args = c.args in
    let at = c.append_bytes-name in
    let test = c.spell_test in
    attribute-added args.t.now c.as_part.result c.as_part.ensures args.text.now args.at c.in-Attribute.test c.in-Attribute.is at.result at.new.store
    (adds-appended args.text.now at.new.store args.at at.result (64 ∷ []) (omega (arith, c.requires)) at.ensures) test.result test.new.text test.ensures

pub returns-in-Itself : goal.returns-in-Itself
returns-in-Itself c = itself-added c.args.t.now c.as_part.result c.as_part.ensures c.args.text.now c.args.at c.in-Itself.is

pub returns-in-Child : goal.returns-in-Child
returns-in-Child c =
    let test = c.spell_test-in-Child in
    child-added c.args.t.now c.as_part.result c.as_part.ensures c.args.text.now c.args.at c.in-Child.test c.in-Child.is test.result test.new.text test.ensures
