-- `start_of` meets its contract, by the number of the texts.
-- Assumes nothing.
use mathlib.Core.Path.{◌∙◌}
use Rattle.tuple_places.proofs.Places.{start-is}
use Rattle.tuple_places.proofs.start_of.Goals as goal

pub returns : goal.returns
returns c = c.unwrap_or.ensures ∙ start-is c.args.size c.args.texts.now c.hash.result c.checked_rem.result c.hash.ensures c.checked_rem.ensures
