-- `uri_fits` meets its contract: an empty URI fits nothing, any other the same text.
-- Assumes nothing.
use lib.ListN.{length}
use mathlib.Core.Path.{sym, ◌∙◌}
use borrow.Author.Tests.{eqb-true, eqb-false}
use Rattle.bindings.proofs.Stretches.{no-uri-fits, uri-fits}
use Rattle.bindings.proofs.uri_fits.Goals as goal

pub returns-then-not-is_empty : goal.returns-then-not-is_empty
returns-then-not-is_empty c =
    let uri = c.args.uri.now in
    c.same.ensures ∙ uri-fits uri c.args.space.now (eqb-false (length uri) 0 (sym c.if-not-is_empty.ensures))

pub returns-else-not-is_empty : goal.returns-else-not-is_empty
returns-else-not-is_empty c =
    let uri = c.args.uri.now in
    rw c.if-not-is_empty.false (no-uri-fits uri c.args.space.now (eqb-true (length uri) 0 (sym c.if-not-is_empty.ensures)))
