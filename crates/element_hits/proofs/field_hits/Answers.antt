-- `field_hits` meets its contract: a field that does not read leaves a blank row, and else its row is filled.
-- Assumes nothing.
use Rattle.element_hits.proofs.Fields.{row-unread, row_read}
use borrow.Author.Tests.{not-true, not-false}
use Prim.Native.Nat.{◌+◌}
use mathlib.Core.Path.{subst, ap, ◌∙◌}
use native.Mathlib.Omega.{arith}
use Rattle.std.proofs.Math.Nat.{min-eq_left}
use Rattle.bindings.specs.Bindings.{uri_in}
use mathlib.Core.Option.{Option, none}
use Rattle.texts.specs.Texts.{Text}
use Rattle.reaching.specs.Rows.{reach_from, RowOf}
use Rattle.element_hits.proofs.field_hits.Goals as goal

pub returns-then-not-read_path : goal.returns-then-not-read_path
returns-then-not-read_path c = let a = c.args in let read = c.read_path in let field = c.field in row-unread a.of.now.cells.now a.of.now.n a.of.now.place a.element.now.names.now a.element.now.depth a.constraint.now.own.now a.constraint.now.parts a.f (a.f + 2) a.element.now.defs.now a.area.now a.row.now field.result.now field.ensures read.result read.new.area read.ensures (not-true read.result c.if-not-read_path.true-raw)

pub returns : goal.returns
returns c = let a = c.args in let read = c.read_path in let field = c.field in let reach = c.reach_nodes in row_read a.of.now.cells.now a.of.now.n a.of.now.place a.element.now.names.now a.element.now.depth a.constraint.now.own.now a.constraint.now.parts a.f (a.f + 2) a.element.now.defs.now a.area.now a.row.now field.result.now field.ensures read.result read.new.area read.ensures (not-false read.result c.if-not-read_path.false-raw) reach.new.counts (subst (λ (find : Text → Option Text). RowOf (reach_from find read.new.area a.element.now.names.now a.element.now.depth none) a.of.now.place a.of.now.n a.of.now.cells.now a.row.now reach.new.counts) (c.of_field-b.ensures ∙ ap (λ m. uri_in a.constraint.now.own.now a.element.now.defs.now (m + 2)) (min-eq_left (omega (arith, c.requires)))) reach.ensures)
