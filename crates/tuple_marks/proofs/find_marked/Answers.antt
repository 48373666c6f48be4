-- `find_marked` meets its contract: what is not marked is not there, and else the walk answers.
-- Assumes nothing.
use mathlib.Core.Path.{sym, ◌∙◌}
use Rattle.session_spec.specs.Definitions.{frame}
use Rattle.output_stores.specs.Stores.{standing}
use Rattle.tuple_marks.proofs.Marks.{none-marked}
use Rattle.tuple_marks.proofs.find_marked.Goals as goal

pub returns-then-not-is_marked : goal.returns-then-not-is_marked
returns-then-not-is_marked c =
    let args = c.args in
    let is-marked = c.is_marked in
    λ a. sym (none-marked args.marks.now args.tail.now (sym is-marked.ensures ∙ c.if-not-is_marked.true) (standing frame args.used.now) a)
