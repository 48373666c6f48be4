-- `spell_parts` meets its contract: each turn writes the part before the slash, the last one stands behind the loop, and the last slash does not count.
-- Assumes nothing.
use mathlib.Core.Path.{◌∙◌}
use Rattle.path_writer.proofs.Parts.{parting-turn, self-added, last-slash, parts_added}
use Rattle.path_writer.proofs.spell_parts.Goals as goal

pub loop-first-preserved : goal.loop-first-preserved
loop-first-preserved c =
    let loop = c.loop-first in
    let args = c.args in
    let part = c.spell_part-at in
    (part.ensures.keeps ∙ loop.invariant.0, parting-turn args.s.now args.text.now args.start loop.text loop.rest.now loop.at loop.invariant.1 loop.invariant.0 c.in-Some.first.now c.in-Some.behind.now c.in-Some.ensures part.new.text part.result part.ensures)

pub returns-then-end-start : goal.returns-then-end-start
returns-then-end-start c =
    let loop = c.loop-first in
    let args = c.args in
    let part = c.spell_part-end in
    let dot = c.append_bytes in
    self-added args.s.now args.text.now args.start loop.text loop.rest.now loop.at loop.invariant.1 loop.invariant.0 c.in_default.ensures part.new.text part.result c.requires part.ensures c.if-end-start.true dot.new.store dot.result dot.ensures

pub overflow_sub-result : goal.overflow_sub-result
overflow_sub-result c =
    let loop = c.loop-first in
    let args = c.args in
    let part = c.spell_part-end in
    last-slash args.s.now args.text.now args.start loop.text loop.rest.now loop.at loop.invariant.1 loop.invariant.0 c.in_default.ensures part.new.text part.result c.requires part.ensures c.if-end-start.false

pub returns-else-end-start : goal.returns-else-end-start
returns-else-end-start c =
    let loop = c.loop-first in
    let args = c.args in
    let part = c.spell_part-end in
    parts_added args.s.now args.text.now args.start loop.text loop.rest.now loop.at loop.invariant.1 loop.invariant.0 c.in_default.ensures part.new.text part.result c.requires part.ensures c.if-end-start.false
