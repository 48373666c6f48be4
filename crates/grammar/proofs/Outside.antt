-- What is not in the grammar, each a function to ⊥: tokens that are no expression, walked (`Walks`) to where no step, '/' or '|' fits what is left,
-- `elim w [ ]`, or where a name is no axis; prefixes that aren't declared; texts without tokens, computed (`Words`); tokens that aren't the longest.
-- Assumes nothing.
use native.Mathlib.Omega.{arith}
use lib.ListN.{length}
use mathlib.Core.Path.{refl, ap}
use mathlib.Core.List.Memᴰ
use mathlib.Core.List.{List, [], ◌∷◌}
use Rattle.lists.specs.Lists.{all, All}
use Rattle.ncname.specs.NCName.{nc_name}
use Rattle.characters.specs.Ranges.{in_ranges}
use Rattle.characters.specs.Names.{start_ranges, more_ranges, name_start, name_char}
use Rattle.grammar.specs.Tokens.{Points, NameTest, Token, Tokens}
use Rattle.grammar.specs.Tokens.NameTest.{any_in, qualified}
use Rattle.grammar.specs.Tokens.Token.{dot, slash, slashes, colons, at, bar, name}
use Rattle.grammar.specs.Tokens.Spells.{two-slashes, an-ncname}
use Rattle.grammar.specs.Paths.{Kind, Expression, Declared, TokenDeclared}
use Rattle.grammar.specs.Paths.Kind.{selector, field}
use Rattle.grammar.proofs.Words.{codes, readable, no-tokens, one_token}
use Rattle.grammar.proofs.Examples.{plain, prefixed}
use Rattle.grammar.proofs.Walks.{Walk, expression-walk}
use Rattle.grammar.proofs.Walks.Place.{before-path}
use Rattle.grammar.proofs.Walks.Walk.{direct, descent, self-step, name-step, child-step, at-step, attribute-step, next-step, no_step, next-path}

-- ---- attributes: none in a selector, and in a field only as the last step

-- @n
attribute-in-selector : {n : NameTest} → Expression selector (at ∷ name n ∷ []) → ⊥
attribute-in-selector e = by (expression-walk e)
  where
    by : {n : NameTest} → Walk selector before-path (at ∷ name n ∷ []) → ⊥
    by (direct w) = elim w [ ]

-- attribute::n
attribute-axis-in-selector : {n : NameTest} → Expression selector (plain "attribute" ∷ colons ∷ name n ∷ []) → ⊥
attribute-axis-in-selector e = by (expression-walk e)
  where
    by : {n : NameTest} → Walk selector before-path (plain "attribute" ∷ colons ∷ name n ∷ []) → ⊥
    by (direct (name-step (no_step w))) = elim w [ ]
    by (direct (child-step i w)) = omega (arith, ap length i)

-- n/@m
attribute-ends-selector : {n m : NameTest} → Expression selector (name n ∷ slash ∷ at ∷ name m ∷ []) → ⊥
attribute-ends-selector e = by (expression-walk e)
  where
    by : {n m : NameTest} → Walk selector before-path (name n ∷ slash ∷ at ∷ name m ∷ []) → ⊥
    by (direct (name-step (next-step w))) = elim w [ ]
    by (direct (name-step (no_step x10))) = elim x10 [ ]

-- @n/m
attribute-before-last : {n m : NameTest} → Expression field (at ∷ name n ∷ slash ∷ name m ∷ []) → ⊥
attribute-before-last e = by (expression-walk e)
  where
    by : {n m : NameTest} → Walk field before-path (at ∷ name n ∷ slash ∷ name m ∷ []) → ⊥
    by (direct (at-step w)) = elim w [ ]

-- attribute::n/m
attribute-axis-before-last : {n m : NameTest} → Expression field (plain "attribute" ∷ colons ∷ name n ∷ slash ∷ name m ∷ []) → ⊥
attribute-axis-before-last e = by (expression-walk e)
  where
    by : {n m : NameTest} → Walk field before-path (plain "attribute" ∷ colons ∷ name n ∷ slash ∷ name m ∷ []) → ⊥
    by (direct (name-step (no_step w))) = elim w [ ]
    by (direct (child-step i w)) = omega (arith, ap length i)
    by (direct (attribute-step i w)) = elim w [ ]

-- @.
attribute-of-no-name : {k : Kind} → Expression k (at ∷ dot ∷ []) → ⊥
attribute-of-no-name e = by (expression-walk e)
  where
    by : {k : Kind} → Walk k before-path (at ∷ dot ∷ []) → ⊥
    by (direct w) = elim w [ ]

-- ---- steps stand before and behind each '/', and one '/' between them

-- n/
trailing-slash : {k : Kind} {n : NameTest} → Expression k (name n ∷ slash ∷ []) → ⊥
trailing-slash e = by (expression-walk e)
  where
    by : {k : Kind} {n : NameTest} → Walk k before-path (name n ∷ slash ∷ []) → ⊥
    by (direct (name-step (next-step w))) = elim w [ ]
    by (direct (name-step (no_step x10))) = elim x10 [ ]

-- /n
leading-slash : {k : Kind} {n : NameTest} → Expression k (slash ∷ name n ∷ []) → ⊥
leading-slash e = by (expression-walk e)
  where
    by : {k : Kind} {n : NameTest} → Walk k before-path (slash ∷ name n ∷ []) → ⊥
    by (direct w) = elim w [ ]

-- n//m
slashes-between : {k : Kind} {n m : NameTest} → Expression k (name n ∷ slashes ∷ name m ∷ []) → ⊥
slashes-between e = by (expression-walk e)
  where
    by : {k : Kind} {n m : NameTest} → Walk k before-path (name n ∷ slashes ∷ name m ∷ []) → ⊥
    by (direct (name-step (no_step w))) = elim w [ ]

-- n m
nothing-between : {k : Kind} {n m : NameTest} → Expression k (name n ∷ name m ∷ []) → ⊥
nothing-between e = by (expression-walk e)
  where
    by : {k : Kind} {n m : NameTest} → Walk k before-path (name n ∷ name m ∷ []) → ⊥
    by (direct (name-step (no_step w))) = elim w [ ]

-- ---- './/' begins a path and has a step behind it

-- .//
descent-alone : {k : Kind} → Expression k (dot ∷ slashes ∷ []) → ⊥
descent-alone e = by (expression-walk e)
  where
    by : {k : Kind} → Walk k before-path (dot ∷ slashes ∷ []) → ⊥
    by (direct (self-step (no_step w))) = elim w [ ]
    by (descent w) = elim w [ ]

-- //n
descent-from-nowhere : {k : Kind} {n : NameTest} → Expression k (slashes ∷ name n ∷ []) → ⊥
descent-from-nowhere e = by (expression-walk e)
  where
    by : {k : Kind} {n : NameTest} → Walk k before-path (slashes ∷ name n ∷ []) → ⊥
    by (direct w) = elim w [ ]

-- n/.//m
descent-later : {k : Kind} {n m : NameTest} → Expression k (name n ∷ slash ∷ dot ∷ slashes ∷ name m ∷ []) → ⊥
descent-later e = by (expression-walk e)
  where
    by : {k : Kind} {n m : NameTest} → Walk k before-path (name n ∷ slash ∷ dot ∷ slashes ∷ name m ∷ []) → ⊥
    by (direct (name-step (next-step (self-step (no_step w))))) = elim w [ ]
    by (direct (name-step (no_step x10))) = elim x10 [ ]

-- ---- no alternative is empty

-- no token at all
empty : {k : Kind} → Expression k [] → ⊥
empty e = by (expression-walk e)
  where
    by : {k : Kind} → Walk k before-path [] → ⊥
    by (direct w) = elim w [ ]

-- n|
empty-last : {k : Kind} {n : NameTest} → Expression k (name n ∷ bar ∷ []) → ⊥
empty-last e = by (expression-walk e)
  where
    by : {k : Kind} {n : NameTest} → Walk k before-path (name n ∷ bar ∷ []) → ⊥
    by (direct (name-step (no_step (next-path (direct w))))) = elim w [ ]

-- |n
empty-first : {k : Kind} {n : NameTest} → Expression k (bar ∷ name n ∷ []) → ⊥
empty-first e = by (expression-walk e)
  where
    by : {k : Kind} {n : NameTest} → Walk k before-path (bar ∷ name n ∷ []) → ⊥
    by (direct w) = elim w [ ]

-- ---- no axis but child and attribute

-- parent::n
parent-axis : {k : Kind} {n : NameTest} → Expression k (plain "parent" ∷ colons ∷ name n ∷ []) → ⊥
parent-axis e = by (expression-walk e)
  where
    by : {k : Kind} {n : NameTest} → Walk k before-path (plain "parent" ∷ colons ∷ name n ∷ []) → ⊥
    by (direct (name-step (no_step w))) = elim w [ ]
    by (direct (child-step i w)) = omega (arith, ap length i)
    by (direct (attribute-step i w)) = omega (arith, ap length i)

-- p:child::n
prefixed-axis : {k : Kind} {n : NameTest} → Expression k (prefixed "p" "child" ∷ colons ∷ name n ∷ []) → ⊥
prefixed-axis e = by (expression-walk e)
  where
    by : {k : Kind} {n : NameTest} → Walk k before-path (prefixed "p" "child" ∷ colons ∷ name n ∷ []) → ⊥
    by (direct (name-step (no_step w))) = elim w [ ]

-- child::
axis-alone : {k : Kind} → Expression k (plain "child" ∷ colons ∷ []) → ⊥
axis-alone e = by (expression-walk e)
  where
    by : {k : Kind} → Walk k before-path (plain "child" ∷ colons ∷ []) → ⊥
    by (direct (name-step (no_step w))) = elim w [ ]

-- ---- a prefix that isn't declared

not-declared : Declared [] (codes "p") → ⊥
not-declared (Memᴰ.head e) = omega (arith, ap length e)
not-declared (Memᴰ.tail m) = elim m [ ]

-- p:n, p:* and @p:n
undeclared : (l : Points) → All (TokenDeclared []) (name (qualified (codes "p") l) ∷ []) → ⊥
undeclared l h = not-declared h.0

undeclared-wildcard : All (TokenDeclared []) (name (any_in (codes "p")) ∷ []) → ⊥
undeclared-wildcard h = not-declared h.0

undeclared-attribute : (l : Points) → All (TokenDeclared []) (at ∷ name (qualified (codes "p") l) ∷ []) → ⊥
undeclared-attribute l h = not-declared h.1.0

-- where only another is
declared-other : (l : Points) → All (TokenDeclared (codes "pq" ∷ [])) (name (qualified (codes "p") l) ∷ []) → ⊥
declared-other l h = by h.0
  where
    by : Declared (codes "pq" ∷ []) (codes "p") → ⊥
    by (Memᴰ.head e) = omega (arith, ap length e)
    by (Memᴰ.tail (Memᴰ.head e)) = omega (arith, ap length e)
    by (Memᴰ.tail (Memᴰ.tail x8)) = elim x8 [ ]

-- ---- texts without tokens

-- white space inside a NameTest
space-before-colon : {ts : List Token} → Tokens (codes "p :a") ts → ⊥
unfolding readable
space-before-colon = no-tokens "p :a" refl

space-after-colon : {ts : List Token} → Tokens (codes "p: a") ts → ⊥
unfolding readable
space-after-colon = no-tokens "p: a" refl

-- a QName has one ':' with a name on either side
two-prefixes : {ts : List Token} → Tokens (codes "p:q:a") ts → ⊥
unfolding readable
two-prefixes = no-tokens "p:q:a" refl

no-prefix : {ts : List Token} → Tokens (codes "./:a") ts → ⊥
unfolding readable
no-prefix = no-tokens "./:a" refl

-- a character that is in no token
no-token : {ts : List Token} → Tokens (codes "a[1]") ts → ⊥
unfolding readable
no-token = no-tokens "a[1]" refl

-- ---- tokens that aren't the longest possible

-- '//' is not '/' '/', and ab is not a b
two-single-slashes : Tokens (codes "//") (slash ∷ slash ∷ []) → ⊥
two-single-slashes r = omega (arith, one_token r two-slashes)

name-in-two : Tokens (codes "ab") (plain "a" ∷ plain "b" ∷ []) → ⊥
unfolding nc_name name_char name_start start_ranges more_ranges in_ranges
name-in-two r = omega (arith, one_token r (an-ncname {l = codes "ab"} refl))
