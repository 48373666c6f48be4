-- `spell_alternatives` meets its contract: each turn writes the alternative before the bar and a bar, and the last one stands behind the loop.
-- Assumes nothing.
use Rattle.path_writer.proofs.Alternatives.{kept-long, alternating-turn, alternatives-added}
use Rattle.path_writer.proofs.spell_alternatives.Goals as goal

pub loop-first-preserved : goal.loop-first-preserved
loop-first-preserved c =
    let loop = c.loop-first in
    let args = c.args in
    let alternative = c.spell_alternative-end in
    let bar = c.append_bytes-at in (
      kept-long args.s.now args.text.now loop.text loop.rest.now loop.at loop.invariant.1 loop.invariant.0 c.in-Some.first.now c.in-Some.behind.now c.in-Some.ensures alternative.new.text bar.new.store alternative.result bar.result alternative.ensures bar.ensures,
      alternating-turn args.s.now args.text.now loop.text loop.rest.now loop.at loop.invariant.1 loop.invariant.0 c.in-Some.first.now c.in-Some.behind.now c.in-Some.ensures alternative.new.text bar.new.store alternative.result bar.result alternative.ensures bar.ensures,
    )

pub returns : goal.returns
returns c =
    let loop = c.loop-first in
    let args = c.args in
    let alternative = c.spell_alternative in
    alternatives-added args.s.now args.text.now loop.text loop.rest.now loop.at loop.invariant.1 loop.invariant.0 c.in_default.ensures alternative.new.text alternative.result alternative.ensures
