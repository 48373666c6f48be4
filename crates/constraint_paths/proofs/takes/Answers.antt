-- `takes` meets its contract: a selector that does not read takes nothing; else matching says.
-- Assumes nothing.
use Rattle.constraint_paths.proofs.Asked.{takes_none, takes-some}
use Rattle.constraint_paths.proofs.takes.Goals as goal

pub returns-then-not-read_path : goal.returns-then-not-read_path
returns-then-not-read_path c =
    let of = c.of-constraint in
    takes_none of.result.parts of.ensures.records of.ensures.parts c.selector.ensures c.read_path.ensures _ _ _ _ c.if-not-read_path.true

pub returns : goal.returns
returns c =
    let of = c.of-constraint in
    takes-some of.result.parts of.ensures.records of.ensures.parts c.selector.ensures c.read_path.ensures _ _ _ _ c.if-not-read_path.false
    c.of_selector-b.ensures c.selects.ensures
