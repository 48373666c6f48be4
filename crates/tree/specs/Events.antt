-- What ES and EE bring, what a constraint is, and the scopes that an ES opens.
-- Assumes nothing.
use Rattle.std.specs.Prelude.{ℕ, suc, Bool}
use mathlib.Core.List.{List, [], ◌∷◌, flat_map}
use Rattle.std.proofs.Math.Option.{Option}
use Rattle.lists.specs.Lists.{any}
use Rattle.texts.specs.Texts.{Text}
use Rattle.paths.specs.Names.{Name, Attribute}
use Rattle.paths.specs.Matching.{StepPath, FieldAlt, matches}

-- ES: the element's name, the listed constraint numbers, the attributes.
pub record Start : Type 0 where
  pub name : Name
  pub numbers : List ℕ
  pub attributes : List Attribute

-- EE: the simple byte (0 no simple value, 1 a simple value, 2 one of an element declared nillable) and the key text.
pub record End : Type 0 where
  pub simple : ℕ
  pub key : Text

pub data Event : Type 0 where
  es : Start → Event
  ee : End → Event

pub data Kind : Type 0 where
  unique key keyref : Kind

-- A constraint whose paths read. `number` is its place among the ID records, from 0.
pub record Constraint : Type 0 where
  pub number : ℕ
  pub name : Text
  pub kind : Kind
  pub refer : Option Text
  pub selector : List StepPath
  pub fields : List (List FieldAlt)

-- some selector alternative matches the element that these names lead to
unfoldable pub selects : Constraint → List Name → Bool
selects c below = any (λ p. matches p below) c.selector

-- What is defined under a number: a constraint, or the name of one whose paths do not read.
pub data Defined : Type 0 where
  reads : Constraint → Defined
  unread : Text → Defined

-- A scope: its number, counting opened scopes from 1, and its constraint.
pub record Scope : Type 0 where
  pub number : ℕ
  pub constraint : Constraint

-- What a listed constraint comes to: a scope, or kind 6 for its number and name.
pub data Opening : Type 0 where
  opens : Scope → Opening
  fails : ℕ → Text → Opening

-- ---- ES lists constraints in order; each opens a scope if its paths read. `n` scopes were opened before.

unfoldable pub opening : Defined → ℕ → ℕ → Opening
opening (reads c) i n = opens (record { number = suc n; constraint = c })
opening (unread t) i n = fails i t

unfoldable pub after : Defined → ℕ → ℕ
after (reads c) n = suc n
after (unread t) n = n

unfoldable pub openings : (ℕ → Defined) → ℕ → List ℕ → List Opening
openings defs n [] = []
openings defs n (i ∷ is) = opening (defs i) i n ∷ openings defs (after (defs i) n) is

-- how many scopes are opened then
unfoldable pub opened : (ℕ → Defined) → ℕ → List ℕ → ℕ
opened defs n [] = n
opened defs n (i ∷ is) = opened defs (after (defs i) n) is

unfoldable pub scope_of : Opening → List Scope
scope_of (opens s) = s ∷ []
scope_of (fails i t) = []

unfoldable pub scopes_of : List Opening → List Scope
scopes_of os = flat_map scope_of os
