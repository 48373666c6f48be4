-- `mark_all` meets its contract: the records that are left say what is still to be marked.
-- Assumes nothing.
use Rattle.session_spec.specs.Definitions.{frame}
use Rattle.output_stores.specs.Stores.{standing}
use Rattle.tuple_marks.proofs.Walking.{Marking}
use Rattle.tuple_marks.proofs.mark_all.Given as goal

abbrev pub invariant-loop-front : goal.invariant-loop-front
invariant-loop-front l = Marking l.initial.marks (standing frame l.used) l.marks (standing frame l.front-iterator.0.now)
