-- `all_answers` meets its contract. The invariant: the sets of the first places are taken in.
-- Assumes nothing.
use mathlib.Core.Path.{◌≡◌}
use Rattle.event_answers.specs.Fives.{answers_to}
use Rattle.finishing.proofs.all_answers.Given as goal

abbrev pub invariant-loop-one : goal.invariant-loop-one
invariant-loop-one l = l.set ≡ answers_to l.one-index l.fn.refs.list
