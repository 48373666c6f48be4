-- What `passed-is-read` does not say: its converse fails, since the reader passes more than the checker. By one text: `:a`.
-- Assumes nothing.
use mathlib.Core.Path.{◌≡◌, refl}
use mathlib.Core.Bool.{true}
use mathlib.Core.List.{List, [], ◌∷◌}
use mathlib.Core.Option.{none, IsSome}
use Rattle.texts.specs.Texts.{Text}
use Rattle.utf8.specs.Utf8.{decode, utf8}
use Rattle.grammar.specs.Tokens.{Points}
use Rattle.grammar.specs.Paths.{Kind}
use Rattle.grammar.specs.Paths.Kind.{selector}
use Rattle.reasons.specs.Reasons.{is_field, reason}
use Rattle.reasons.proofs.Walks.{no-some}
use Rattle.paths.specs.Reading.{read_path}
use Rattle.paths.specs.Examples.{codes}
use Rattle.passed.specs.PCases.{checker_and_reader}

pub converse-fails : ((k : Kind) (t : Text) (ds : List Points) → utf8 t ≡ true → IsSome (read_path (is_field k) t)
    → reason k (decode t) ds ≡ none)
    → ⊥
unfolding checker_and_reader
converse-fails f = no-some (f selector (codes ":a") [] refl tt)
