-- `scope_hits` meets its contract: a scope without selections changes nothing, and else the rows of its constraint's fields are filled.
-- Assumes nothing.
use Rattle.element_hits.proofs.Scopes.{scope-some}
use Rattle.element_hits.proofs.scope_hits.Goals as goal

pub returns : goal.returns
returns c = let a = c.args in let t = c.numbered-constraint in let rows = c.field_rows in scope-some a.of.now.cells.now a.of.now.n a.of.now.place a.number a.element.now.names.now a.element.now.depth a.element.now.defs.now a.area.now a.counts.now t.result.own.now t.ensures.records t.result.parts t.ensures.parts rows.new.area rows.new.counts rows.ensures
