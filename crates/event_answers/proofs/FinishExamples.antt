-- Computed: a keyref that a key and a unique answer, as specs/FinishExamples finds both.
-- Assumes nothing.
use Rattle.std.specs.Prelude.{refl}
use Rattle.tree.specs.Judge.{is_keyref}
use Rattle.session_spec.specs.Definitions.{kind_of, constraint_of, constraint_from, constraint_at}
use Rattle.event_answers.specs.Fives.{RefIs}
use Rattle.event_answers.specs.FinishExamples.{defs, keyref_to, zero-and-two}

both-answer : RefIs defs 1 (keyref_to 5)
unfolding is_keyref kind_of constraint_at constraint_from constraint_of
both-answer = record { keyref = refl; answers = λ e. zero-and-two }
