-- `paths_read` meets its contract: the selector, and then the fields.
-- Assumes nothing.
use Rattle.constraint_paths.proofs.Asked.{selector-unread, then-fields}
use Rattle.constraint_paths.proofs.paths_read.Goals as goal

pub returns-else-read_path : goal.returns-else-read_path
returns-else-read_path c =
    let of = c.of-constraint in
    rw c.if-read_path.false
    (selector-unread of.result.parts of.ensures.records of.ensures.parts c.selector.ensures c.read_path.ensures c.if-read_path.false)

pub returns-then-read_path : goal.returns-then-read_path
returns-then-read_path c =
    let of = c.of-constraint in
    then-fields of.result.parts of.ensures.records of.ensures.parts c.selector.ensures c.read_path.ensures c.if-read_path.true
    c.fields_read.ensures
