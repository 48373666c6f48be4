-- `local_fits` meets its contract: a local part of no bytes is '*'.
-- Assumes nothing.
use lib.ListN.{length}
use mathlib.Core.Path.{sym, ◌∙◌}
use borrow.Author.Tests.{eqb-true, eqb-false}
use Rattle.matching.proofs.Tests.{local-any, local_same}
use Rattle.matching.proofs.local_fits.Goals as goal

pub returns-then-is_empty : goal.returns-then-is_empty
returns-then-is_empty c =
    let wanted = c.args.wanted.now in
    rw c.if-is_empty.true (local-any wanted c.args.local.now (eqb-true (length wanted) 0 (sym c.if-is_empty.ensures)))

pub returns-else-is_empty : goal.returns-else-is_empty
returns-else-is_empty c =
    let wanted = c.args.wanted.now in
    c.same.ensures ∙ local_same wanted c.args.local.now (eqb-false (length wanted) 0 (sym c.if-is_empty.ensures))
