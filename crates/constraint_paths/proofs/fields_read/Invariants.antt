-- `fields_read` meets its contract: field after field, until one does not read.
-- Assumes nothing.
use Rattle.constraints.specs.Constraints.{texts_left}
use Rattle.constraint_paths.proofs.Asked.{Passed}
use Rattle.constraint_paths.proofs.fields_read.Given as goal

abbrev pub invariant-loop-path : goal.invariant-loop-path
invariant-loop-path l = Passed l.constraint.own.now l.constraint.parts l.initial.area (texts_left l.path-iterator) l.area
