-- What the code answers of one step, in the words of the reasons: a name test and a step, and the text behind each.
-- Assumes nothing.
use Rattle.std.specs.Prelude.{ℕ, ◌-◌, ◌≤◌, length, drop, ◌≡◌, List, ◌∷◌}
use Rattle.std.proofs.Math.Option.{Option, none, some}
use denote.Ref.{Bor}
use Rattle.grammar.specs.Tokens as grammar
use Rattle.grammar.specs.Tokens.{Points}
use Rattle.grammar.specs.Tokens.Token.{colons, name}
use Rattle.grammar.specs.Paths.{Kind}
use Rattle.grammar.specs.Paths.Kind.{selector, field}
use Rattle.reasons.specs.Reasons as reasons
use Rattle.reasons.specs.Reasons.{first_test, axis_test, fails, ends, takes, start, within, steps}
use Rattle.std.specs.declared.option.Option as code
use Rattle.std.specs.declared.option.Option.TheVariants.{Some, None}
use Rattle.std.specs.declared.result.Result.{Result}
use Rattle.std.specs.declared.result.Result.TheVariants.{Ok, Err}
use Rattle.tokens.specs.Places.{number, test_of, tokens_in, EndOf}
use Rattle.tokens.specs.declared.Reason.{Reason}
use Rattle.path_steps.specs.declared.PathKind.{PathKind}
use Rattle.path_steps.specs.declared.PathKind.TheVariants.{Selector, Field}
use Rattle.path_steps.specs.declared.Test.{Test}
use Rattle.path_steps.specs.declared.Axis.{Axis}
use Rattle.path_steps.specs.declared.Axis.TheVariants.{Last, Child}

-- a selector, or a field
abbrev pub kind_of : PathKind → Kind
kind_of Selector = selector
kind_of Field = field

-- ---- a name test and the text behind it

abbrev pub test_in : code.Option Test → Option grammar.NameTest
test_in None = none
test_in (Some t) = some (test_of t.name)

-- what follows it is the end of the text, with the tokens after the first k
abbrev pub Follows : ℕ → Points → code.Option Test → Type 0
Follows k s None = Unit {0}
Follows k s (Some t) = (tokens_in t.behind.now ≡ drop k (tokens_in s)) × EndOf s t.behind.now

-- the name test that stands first
pub record TestFirst (s : Points) (r : code.Option Test) : Type 0 where
  pub first : first_test (tokens_in s) ≡ test_in r
  pub follows : Follows 1 s r

-- the text behind a '::' that stands first; where there is none, no name test stands behind one
abbrev pub ColonsTo : Points → code.Option (Bor Points) → Type 0
ColonsTo s None = axis_test (tokens_in s) ≡ none
ColonsTo s (Some b) = (tokens_in s ≡ colons ∷ tokens_in b.now) × EndOf s b.now

-- the name test behind a '::' that stands first
pub record AxisFirst (s : Points) (r : code.Option Test) : Type 0 where
  pub first : axis_test (tokens_in s) ≡ test_in r
  pub follows : Follows 2 s r

-- ---- a step

-- with '@'
abbrev pub attribute_by : Result (Unit {0}) Reason → reasons.Stepped
attribute_by (Ok x) = ends
attribute_by (Err j) = fails (number j)

-- with an axis: a child step has two tokens after its first
abbrev pub axis_by : Result Axis Reason → reasons.Stepped
axis_by (Ok Last) = ends
axis_by (Ok Child) = takes 2
axis_by (Err j) = fails (number j)

-- how the steps go on after one, in what stands behind it, if it is not the path's last
abbrev pub go_on : Kind → List Points → Result (code.Option (Bor Points)) Reason → Option ℕ
go_on k ds (Ok None) = none
go_on k ds (Ok (Some b)) = steps k ds (within 0) (tokens_in b.now)
go_on k ds (Err j) = some (number j)

-- what stands behind a step is the end of the text: a step takes one character at least
abbrev pub Ahead : Points → Result (code.Option (Bor Points)) Reason → Type 0
Ahead s (Ok None) = Unit {0}
Ahead s (Ok (Some b)) = EndOf s b.now
Ahead s (Err j) = Unit {0}

-- behind a step that begins with a name test stands what stands behind that, or the end of it
abbrev pub Behind : Points → Result (code.Option (Bor Points)) Reason → Type 0
Behind s (Ok None) = Unit {0}
Behind s (Ok (Some b)) = (length b.now ≤ length s) × (b.now ≡ drop (length s - length b.now) s)
Behind s (Err j) = Unit {0}

-- the step that begins with the name test m
pub record NameStepIs (k : Kind) (ds : List Points) (m : Test) (r : Result (code.Option (Bor Points)) Reason) : Type 0 where
  pub goes : steps k ds start (name (test_of m.name) ∷ tokens_in m.behind.now) ≡ go_on k ds r
  pub ahead : Behind m.behind.now r

-- the step that stands first
pub record StepIs (k : Kind) (ds : List Points) (s : Points) (r : Result (code.Option (Bor Points)) Reason) : Type 0 where
  pub goes : steps k ds start (tokens_in s) ≡ go_on k ds r
  pub ahead : Ahead s r
