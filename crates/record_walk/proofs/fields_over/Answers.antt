-- `fields_over` meets its contract: the texts are asked one after the other.
-- Assumes nothing.
use Rattle.std.proofs.Common.{rules, tests}
use Rattle.std.proofs.lemmas.Iterator.Search.{any_from_yields_List}
use Rattle.record_places.specs.Checks.{over_field}
use Rattle.record_walk.proofs.Members.{texts-walk}
use Rattle.record_walk.proofs.fields_over.Goals as goal

pub returns : goal.returns
returns c = any_from_yields_List over_field c.any.new.self _ c.any.result c.any.ensures.ran (texts-walk _) (λ x b q k. search (rules, tests))
