-- The productions turned to be read from left to right, a token or a test at a time, and that every expression can be read so: by induction on its parts.
-- A walk over written tokens is refuted by its indices, which the productions' own `++` would not allow.
-- Assumes nothing.
use mathlib.Core.Path.{◌≡◌, refl}
use mathlib.Core.List.{List, [], ◌∷◌, ◌++◌, append-nil, append_assoc}
use Rattle.grammar.specs.Tokens.{Points, NameTest, Token}
use Rattle.grammar.specs.Tokens.NameTest.{local}
use Rattle.grammar.specs.Tokens.Token.{dot, slash, slashes, colons, at, bar, name}
use Rattle.grammar.specs.Paths.{Kind, child, attribute, Step, AttributeStep, Steps, Path, Expression}
use Rattle.grammar.specs.Paths.Kind.{field}
use Rattle.grammar.specs.Paths.Step.{self, test, child_test}
use Rattle.grammar.specs.Paths.AttributeStep.{attr_test, attribute_test}
use Rattle.grammar.specs.Paths.Steps.{last, last_attribute, then}
use Rattle.grammar.specs.Paths.Path.{here, anywhere}
use Rattle.grammar.specs.Paths.Expression.{one, or}

-- where a reader of tokens stands
pub data Place : Type 0 where
  before-path before-step after-step after-path : Place

-- what may stand from there on
pub data Walk : Kind → Place → List Token → Type 0 where
  direct : {k : Kind} {ts : List Token} → Walk k before-step ts → Walk k before-path ts
  descent : {k : Kind} {ts : List Token} → Walk k before-step ts → Walk k before-path (dot ∷ slashes ∷ ts)
  self-step : {k : Kind} {ts : List Token} → Walk k after-step ts → Walk k before-step (dot ∷ ts)
  name-step : {k : Kind} {n : NameTest} {ts : List Token} → Walk k after-step ts → Walk k before-step (name n ∷ ts)
  child-step : {k : Kind} {l : Points} {n : NameTest} {ts : List Token} → l ≡ child → Walk k after-step ts
      → Walk k before-step (name (local l) ∷ colons ∷ name n ∷ ts)
  at-step : {n : NameTest} {ts : List Token} → Walk field after-path ts → Walk field before-step (at ∷ name n ∷ ts)
  attribute-step : {l : Points} {n : NameTest} {ts : List Token} → l ≡ attribute → Walk field after-path ts
      → Walk field before-step (name (local l) ∷ colons ∷ name n ∷ ts)
  next-step : {k : Kind} {ts : List Token} → Walk k before-step ts → Walk k after-step (slash ∷ ts)
  no_step : {k : Kind} {ts : List Token} → Walk k after-path ts → Walk k after-step ts
  next-path : {k : Kind} {ts : List Token} → Walk k before-path ts → Walk k after-path (bar ∷ ts)
  no-path : {k : Kind} → Walk k after-path []

-- each part of an expression, and a walk over the tokens r behind it

step-walk : {k : Kind} {s : List Token} → Step s → (r : List Token) → Walk k after-step r → Walk k before-step (s ++ r)
step-walk self r w = self-step w
step-walk test r w = name-step w
step-walk child_test r w = child-step refl w

attribute-walk : {s : List Token} → AttributeStep s → (r : List Token) → Walk field after-path r → Walk field before-step (s ++ r)
attribute-walk attr_test r w = at-step w
attribute-walk attribute_test r w = attribute-step refl w

steps-walk : {k : Kind} {s : List Token} → Steps k s → (r : List Token) → Walk k after-path r → Walk k before-step (s ++ r)
steps-walk (last h) r w = step-walk h r (no_step w)
steps-walk (last_attribute h) r w = attribute-walk h r w
steps-walk (then {s = s} {r = q} h t) r w =
    rw (append_assoc s (slash ∷ q) r) (step-walk h (slash ∷ (q ++ r)) (next-step (steps-walk t r w)))

path-walk : {k : Kind} {s : List Token} → Path k s → (r : List Token) → Walk k after-path r → Walk k before-path (s ++ r)
path-walk (here h) r w = direct (steps-walk h r w)
path-walk (anywhere h) r w = descent (steps-walk h r w)

pub expression-walk : {k : Kind} {s : List Token} → Expression k s → Walk k before-path s
expression-walk (one {s = s} h) = rw (append-nil s) at (path-walk h [] no-path)
expression-walk (or {r = r} h e) = path-walk h (bar ∷ r) (next-path (expression-walk e))
