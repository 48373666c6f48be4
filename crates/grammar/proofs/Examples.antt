-- Derivations written out, over tokens and of whole texts: what is in the grammar. That each word is the longest token is computed (`Words`).
-- Assumes nothing.
use native.Mathlib.Omega.{arith}
use Prim.Native.String.{String}
use mathlib.Core.Path.{refl}
use mathlib.Core.List.Memᴰ
use mathlib.Core.List.{List, [], ◌∷◌}
use Rattle.lists.specs.Lists.{all, All}
use Rattle.characters.specs.Spaces.{xml_space}
use Rattle.ncname.specs.NCName.{nc_name}
use Rattle.grammar.specs.Tokens.{Points, NCName, Token, Spells, Longest, Tokens}
use Rattle.grammar.specs.Tokens.NameTest.{star, any_in, local, qualified}
use Rattle.grammar.specs.Tokens.Token.{dot, slash, slashes, colons, at, bar, name}
use Rattle.grammar.specs.Tokens.Spells.{a-dot, a-slash, two-slashes, two-colons, an-at, a-bar, a-star, a-wildcard, an-ncname, a-qname}
use Rattle.grammar.specs.Tokens.Tokens.{done, space, token}
use Rattle.grammar.specs.Paths.{Kind, Step, Steps, Expression, Declared, TestDeclared, TokenDeclared, InGrammar}
use Rattle.grammar.specs.Paths.Kind.{selector, field}
use Rattle.grammar.specs.Paths.Step.{self, test, child_test}
use Rattle.grammar.specs.Paths.AttributeStep.{attr_test, attribute_test}
use Rattle.grammar.specs.Paths.Steps.{last, last_attribute, then}
use Rattle.grammar.specs.Paths.Path.{here, anywhere}
use Rattle.grammar.specs.Paths.Expression.{one, or}
use Rattle.grammar.proofs.Words.{codes, cut_off, word}

-- a name without a prefix, and one with
abbrev pub plain : String → Token
plain l = name (local (codes l))

abbrev pub prefixed : String → String → Token
prefixed p l = name (qualified (codes p) (codes l))

-- ---- words: what a token is written as, and which word is read

-- @
at-written : Spells at (codes "@")
at-written = an-at

-- //
slashes-written : Spells slashes (codes "//")
slashes-written = two-slashes

-- p:a
qname-written : Spells (prefixed "p" "a") (codes "p:a")
unfolding cut_off nc_name
qname-written = a-qname refl refl

-- prefix and local name are NCNames
qname-parts : {p l w : Points} → Spells (name (qualified p l)) w → NCName p × NCName l
qname-parts (a-qname h g) = (h, g)

-- a is not the longest token where ab stands
not-longest : Longest (codes "a") (codes "b") → ⊥
unfolding cut_off nc_name
not-longest h = omega (arith, h (plain "ab") (codes "ab") [] (an-ncname refl) refl)

-- '/' is read where with a behind it it is the longest
slash-read : Longest (codes "/") (codes "a") → Tokens (codes "a") (plain "a" ∷ []) → Tokens (codes "/a") (slash ∷ plain "a" ∷ [])
slash-read l r = token a-slash l r

space-passed-over : Tokens (codes " ") []
unfolding xml_space
space-passed-over = space refl done

-- ---- selectors, over tokens

-- .
the-node : Expression selector (dot ∷ [])
the-node = one (here (last self))

-- a
children : Expression selector (plain "a" ∷ [])
children = one (here (last test))

-- *
all-children : Expression selector (name star ∷ [])
all-children = one (here (last test))

-- child::a
child-axis : Expression selector (plain "child" ∷ colons ∷ plain "a" ∷ [])
child-axis = one (here (last child_test))

-- ./a/b
grandchildren : Expression selector (dot ∷ slash ∷ plain "a" ∷ slash ∷ plain "b" ∷ [])
grandchildren = one (here (then self (then test (last test))))

-- .//a
descendant : Expression selector (dot ∷ slashes ∷ plain "a" ∷ [])
descendant = one (anywhere (last test))

-- .//a/b
descendants : Expression selector (dot ∷ slashes ∷ plain "a" ∷ slash ∷ plain "b" ∷ [])
descendants = one (anywhere (then test (last test)))

-- a|b
either : Expression selector (plain "a" ∷ bar ∷ plain "b" ∷ [])
either = or (here (last test)) (one (here (last test)))

-- a/child::b|.//.
each-its-own : Expression selector (plain "a" ∷ slash ∷ plain "child" ∷ colons ∷ plain "b" ∷ bar ∷ dot ∷ slashes ∷ dot ∷ [])
each-its-own = or (here (then test (last child_test))) (one (anywhere (last self)))

-- the last step is no attribute step
ends-in-a-step : {s : List Token} → Steps selector s → (r : List Token) × Step r
ends-in-a-step (last {s = s} h) = (s, h)
ends-in-a-step (then h r) = ends-in-a-step r

-- ---- fields, over tokens

-- @a
an-attribute : Expression field (at ∷ plain "a" ∷ [])
an-attribute = one (here (last_attribute attr_test))

-- attribute::a
attribute-axis : Expression field (plain "attribute" ∷ colons ∷ plain "a" ∷ [])
attribute-axis = one (here (last_attribute attribute_test))

-- a/@b
attribute-of-a-child : Expression field (plain "a" ∷ slash ∷ at ∷ plain "b" ∷ [])
attribute-of-a-child = one (here (then test (last_attribute attr_test)))

-- .//a/@b
attribute-anywhere : Expression field (dot ∷ slashes ∷ plain "a" ∷ slash ∷ at ∷ plain "b" ∷ [])
attribute-anywhere = one (anywhere (then test (last_attribute attr_test)))

-- @a|b
attribute-or-child : Expression field (at ∷ plain "a" ∷ bar ∷ plain "b" ∷ [])
attribute-or-child = or (here (last_attribute attr_test)) (one (here (last test)))

-- ---- prefixes

-- `xml` always is declared
xml-declared : Declared [] (codes "xml")
xml-declared = Memᴰ.head refl

-- p:n and p:* ask for p
prefix-asked : (ds : List Points) (p l : Points) → TestDeclared ds (qualified p l) → Declared ds p
prefix-asked ds p l h = h

wildcard-asked : (ds : List Points) (p : Points) → TestDeclared ds (any_in p) → Declared ds p
wildcard-asked ds p h = h

-- ---- whole texts

-- each prefix is one of those declared
prefixes-declared : {k : Kind} {s : Points} {ds : List Points} → (g : InGrammar k s ds) → All (TokenDeclared ds) g.tokens
prefixes-declared g = g.prefixes

text-a : InGrammar selector (codes "a") []
unfolding cut_off nc_name
text-a = record {
  tokens = plain "a" ∷ [];
  spelled = word "a" "" (an-ncname refl) refl done;
  expression = children;
  prefixes = (tt, tt);
}

text-attribute : InGrammar field (codes "@a") []
unfolding cut_off nc_name
text-attribute = record {
  tokens = at ∷ plain "a" ∷ [];
  spelled = word "@" "a" an-at refl (word "a" "" (an-ncname refl) refl done);
  expression = an-attribute;
  prefixes = (tt, (tt, tt));
}

-- `xml`, which always is declared, and prefixes that are
text-xml : InGrammar selector (codes "xml:a") []
unfolding cut_off nc_name
text-xml = record {
  tokens = prefixed "xml" "a" ∷ [];
  spelled = word "xml:a" "" (a-qname refl refl) refl done;
  expression = one (here (last test));
  prefixes = (Memᴰ.head refl, tt);
}

text-prefixed : InGrammar selector (codes "p:a") (codes "p" ∷ [])
unfolding cut_off nc_name
text-prefixed = record {
  tokens = prefixed "p" "a" ∷ [];
  spelled = word "p:a" "" (a-qname refl refl) refl done;
  expression = one (here (last test));
  prefixes = (Memᴰ.tail (Memᴰ.head refl), tt);
}

text-wildcards : InGrammar selector (codes "p:*/*") (codes "p" ∷ [])
unfolding cut_off nc_name
text-wildcards = record {
  tokens = name (any_in (codes "p")) ∷ slash ∷ name star ∷ [];
  spelled = word "p:*" "/*" (a-wildcard refl) refl (word "/" "*" a-slash refl (word "*" "" a-star refl done));
  expression = one (here (then test (last test)));
  prefixes = (Memᴰ.tail (Memᴰ.head refl), (tt, (tt, tt)));
}

-- white space before and after each token
text-spaced : InGrammar selector (codes " a / b ") []
unfolding cut_off nc_name xml_space
text-spaced = record {
  tokens = plain "a" ∷ slash ∷ plain "b" ∷ [];
  spelled =
      space refl (word "a" " / b " (an-ncname refl) refl
      (space refl (word "/" " b " a-slash refl
      (space refl (word "b" " " (an-ncname refl) refl
      (space refl done))))));
  expression = one (here (then test (last test)));
  prefixes = (tt, (tt, (tt, tt)));
}

-- a name before '::' is no prefix
text-axis : InGrammar selector (codes "child::a") []
unfolding cut_off nc_name
text-axis = record {
  tokens = plain "child" ∷ colons ∷ plain "a" ∷ [];
  spelled = word "child" "::a" (an-ncname refl) refl (word "::" "a" two-colons refl (word "a" "" (an-ncname refl) refl done));
  expression = child-axis;
  prefixes = (tt, (tt, (tt, tt)));
}

-- '//' is one token, and '.' before it another
text-descent : InGrammar field (codes ".//a/@b|.") []
unfolding cut_off nc_name
text-descent = record {
  tokens = dot ∷ slashes ∷ plain "a" ∷ slash ∷ at ∷ plain "b" ∷ bar ∷ dot ∷ [];
  spelled =
      word "." "//a/@b|." a-dot refl
      (word "//" "a/@b|." two-slashes refl
      (word "a" "/@b|." (an-ncname refl) refl
      (word "/" "@b|." a-slash refl
      (word "@" "b|." an-at refl
      (word "b" "|." (an-ncname refl) refl
      (word "|" "." a-bar refl
      (word "." "" a-dot refl done)))))));
  expression = or (anywhere (then test (last_attribute attr_test))) (one (here (last self)));
  prefixes = (tt, (tt, (tt, (tt, (tt, (tt, (tt, (tt, tt))))))));
}
