-- The productions of 3.11.6 over tokens, the unabbreviated child and attribute axes included, and when a text is in the grammar.
-- Assumes nothing.
use mathlib.Core.List.{List, [], ◌∷◌, ◌++◌, Memᴰ}
use Rattle.grammar.specs.Tokens.{Points, NameTest, Token, Tokens}
use Rattle.grammar.specs.Tokens.NameTest.{star, any_in, local, qualified}
use Rattle.grammar.specs.Tokens.Token.{dot, slash, slashes, colons, at, bar, name}
use Rattle.lists.specs.Lists.{All}

pub data Kind : Type 0 where
  selector field : Kind

-- the words `child`, `attribute` and `xml`
abbrev pub child : Points
child = 99 ∷ 104 ∷ 105 ∷ 108 ∷ 100 ∷ []

abbrev pub attribute : Points
attribute = 97 ∷ 116 ∷ 116 ∷ 114 ∷ 105 ∷ 98 ∷ 117 ∷ 116 ∷ 101 ∷ []

abbrev pub xml : Points
xml = 120 ∷ 109 ∷ 108 ∷ []

-- Step ::= '.' | NameTest, and 'child' '::' NameTest
pub data Step : List Token → Type 0 where
  self : Step (dot ∷ [])
  test : {n : NameTest} → Step (name n ∷ [])
  child_test : {n : NameTest} → Step (name (local child) ∷ colons ∷ name n ∷ [])

-- '@' NameTest, and 'attribute' '::' NameTest
pub data AttributeStep : List Token → Type 0 where
  attr_test : {n : NameTest} → AttributeStep (at ∷ name n ∷ [])
  attribute_test : {n : NameTest} → AttributeStep (name (local attribute) ∷ colons ∷ name n ∷ [])

-- Step ( '/' Step )*; in a field the last may be an attribute step: ( Step '/' )* ( Step | '@' NameTest )
pub data Steps : Kind → List Token → Type 0 where
  last : {k : Kind} {s : List Token} → Step s → Steps k s
  last_attribute : {s : List Token} → AttributeStep s → Steps field s
  then : {k : Kind} {s r : List Token} → Step s → Steps k r → Steps k (s ++ (slash ∷ r))

-- Path ::= ('.//')? Steps
pub data Path : Kind → List Token → Type 0 where
  here : {k : Kind} {s : List Token} → Steps k s → Path k s
  anywhere : {k : Kind} {s : List Token} → Steps k s → Path k (dot ∷ slashes ∷ s)

-- Selector ::= Path ( '|' Path )*, and the same of a field
pub data Expression : Kind → List Token → Type 0 where
  one : {k : Kind} {s : List Token} → Path k s → Expression k s
  or : {k : Kind} {s r : List Token} → Path k s → Expression k r → Expression k (s ++ (bar ∷ r))

-- ---- every prefix is declared; `xml` always is

abbrev pub Declared : List Points → Points → Type 0
Declared ds p = Memᴰ p (xml ∷ ds)

abbrev pub TestDeclared : List Points → NameTest → Type 0
TestDeclared ds star = Unit {0}
TestDeclared ds (any_in p) = Declared ds p
TestDeclared ds (local l) = Unit {0}
TestDeclared ds (qualified p l) = Declared ds p

abbrev pub TokenDeclared : List Points → Token → Type 0
TokenDeclared ds dot = Unit {0}
TokenDeclared ds slash = Unit {0}
TokenDeclared ds slashes = Unit {0}
TokenDeclared ds colons = Unit {0}
TokenDeclared ds at = Unit {0}
TokenDeclared ds bar = Unit {0}
TokenDeclared ds (name n) = TestDeclared ds n

-- A TEXT IS IN THE GRAMMAR: its tokens are an expression of the kind, and every prefix in them is declared.
pub record InGrammar (k : Kind) (text : Points) (declared : List Points) : Type 0 where
  pub tokens : List Token
  pub spelled : Tokens text tokens
  pub expression : Expression k tokens
  pub prefixes : All (TokenDeclared declared) tokens
