-- `take_rest` meets its contract: what is left by the record call, and nothing by `run`.
-- Assumes nothing.
use Rattle.std.proofs.Common.{rules, ◌≡◌, length}
use mathlib.Core.Path.{refl}
use Rattle.call_forms.proofs.Pieces.{takes_none, takes-rest}
use Rattle.icheck.proofs.take_rest.Goals as goal

pub returns-then-is_empty : goal.returns-then-is_empty
returns-then-is_empty c =
    let a = c.args in
    let run = c.run in
    let none : length a.piece.now ≡ 0 = search rules in
    takes_none a.n a.list a.piece.now _ a.defs.now a.tuples.now a.reports.now a.paths.now a.names.now a.cells.now run.new.defs run.new.tuples run.new.reports run.new.paths run.new.names run.new.cells run.result refl none run.ensures

pub returns : goal.returns
returns c =
    let a = c.args in
    let call = c.record_call-last in
    let some : length a.piece.now ≡ 0 → ⊥ = search rules in
    takes-rest a.n a.list a.piece.now _ a.defs.now a.tuples.now a.reports.now a.paths.now a.names.now a.cells.now call.new.defs call.new.tuples call.new.reports call.new.paths call.new.names call.new.cells call.result refl some call.ensures
