-- Computed: document 01's cases, cases asked of the original, and texts beside them, for both kinds, with and without declared prefixes.
-- Assumes nothing.
use Prim.Native.Char.{code}
use Prim.Native.String.{String}
use Rattle.std.specs.Prelude.{ℕ, ◌≡◌, refl, List, [], ◌∷◌, map}
use Rattle.std.proofs.Math.Option.{Option, none, some}
use Rattle.lists.specs.Lists.{all}
use Rattle.texts.specs.Texts.{same}
use Rattle.characters.specs.Ranges.{in_ranges}
use Rattle.characters.specs.Spaces.{xml_space}
use Rattle.characters.specs.Names.{start_ranges, more_ranges, name_start, name_char}
use Rattle.ncname.specs.NCName.{nc_name}
use Rattle.grammar.specs.Tokens.{Points}
use Rattle.grammar.specs.Paths.{Kind}
use Rattle.grammar.specs.Paths.Kind.{selector, field}
use Rattle.reasons.specs.Reasons.{X1-empty, X2-stray-colon, X3-no-NCName, X4-dangling-colon, X5-character, X6-empty-alternative, X7-descent-alone, X8-attribute-in-selector, X9-axis-no-plain-name, X10-axis-not-allowed, X11-undeclared-prefix, X12-step, X13-trailing-slash, X14-separator, run_start, run_char, run, begins, slash_first, colon_first, after_prefix, after_name, name_first, scan, tokenize, declares, test_declared, check_prefix, step, steps, descent, validate_path, alternative, alternatives, on_front, split_at, reason}

-- ---- how the tables below are read

-- the code points of a quoted text
codes : String → Points
codes = elim [ String.[] ↦ [] | String.◌∷◌ c (s → r) ↦ code c ∷ r ]

-- the answers: Xk, and that of a path that passes
abbrev X : ℕ → Option ℕ
X k = some k

abbrev passes : Option ℕ
passes = none

-- a text and the answer expected
abbrev Row : Type 0
Row = String × Option ℕ

expected : List Row → List (Option ℕ)
expected [] = []
expected (r ∷ rs) = r.1 ∷ expected rs

answer : Kind → List String → Points → Option ℕ
unfolding codes same in_ranges xml_space start_ranges more_ranges name_start name_char nc_name run_start run_char run begins slash_first colon_first after_prefix after_name name_first scan tokenize declares test_declared check_prefix step steps descent validate_path alternative alternatives on_front split_at reason
answer k ds s = reason k s (map codes ds)

answers : Kind → List String → List Row → List (Option ℕ)
answers k ds [] = []
answers k ds (r ∷ rs) = answer k ds (codes r.0) ∷ answers k ds rs

-- the numbers are document 01's
numbers : X1-empty ∷ X2-stray-colon ∷ X3-no-NCName ∷ X4-dangling-colon ∷ X5-character ∷ X6-empty-alternative ∷ X7-descent-alone ∷ X8-attribute-in-selector ∷ X9-axis-no-plain-name ∷ X10-axis-not-allowed ∷ X11-undeclared-prefix ∷ X12-step ∷ X13-trailing-slash ∷ X14-separator ∷ [] ≡ 1 ∷ 2 ∷ 3 ∷ 4 ∷ 5 ∷ 6 ∷ 7 ∷ 8 ∷ 9 ∷ 10 ∷ 11 ∷ 12 ∷ 13 ∷ 14 ∷ []
numbers = refl

-- ---- no prefix is declared; the same answers for a selector and for a field

-- document 01
abbrev scope : List Row
scope =
    (".//.", passes) ∷ (".", passes) ∷ ("a", passes) ∷ (":a", X 2) ∷ ("a b", X 14) ∷ ("*:a", X 2) ∷ ("p:a", X 11) ∷ (".//", X 7) ∷ ("a|", X 6)
    ∷ ("a//b", X 14) ∷ ("a/", X 13) ∷ ("/a", X 12) ∷ ("parent::a", X 10) ∷ ("*::a", X 9) ∷ ("a:", X 4) ∷ ("-a", X 5) ∷ ("", X 1) ∷ (" \t\r\n", X 1)
    ∷ []

scope-selector : answers selector [] scope ≡ expected scope
unfolding answers answer expected
scope-selector = refl

scope-field : answers field [] scope ≡ expected scope
unfolding answers answer expected
scope-field = refl

-- the order of reasons: all tokens of an alternative, in text order, before its path rules; the first alternative before the second
abbrev order : List Row
order =
    ("a/:b", X 2) ∷ ("/a|:b", X 12) ∷ (":b|/a", X 2) ∷ ("a b|c:", X 14) ∷ ("a b c:", X 4) ∷ ("|:a", X 6) ∷ ("-/:b", X 5) ∷ (":b/-", X 2)
    ∷ ("p:a/", X 11) ∷ ("/p:a", X 12) ∷ ("p:a b", X 11) ∷ ("a b/p:a", X 14) ∷ (".//|a", X 7) ∷ (".//:", X 2) ∷ []

order-selector : answers selector [] order ≡ expected order
unfolding answers answer expected
order-selector = refl

order-field : answers field [] order ≡ expected order
unfolding answers answer expected
order-field = refl

-- asked of the original
abbrev confirmed : List Row
confirmed =
    ("a:b:c", X 2) ∷ ("a::b", X 10) ∷ ("p:a::b", X 9) ∷ ("a:::b", X 2) ∷ ("..", X 14) ∷ (".a", X 14) ∷ ("child::", X 14) ∷ ("@", X 12)
    ∷ ("@id/a", X 12) ∷ ("@@a", X 12) ∷ ("attribute::a/b", X 10) ∷ ("child::.", X 14) ∷ ("|", X 6) ∷ ("a||b", X 6) ∷ (". / / a", X 12)
    ∷ (".//.//a", X 14) ∷ ("q:a ::", X 11) ∷ []

confirmed-selector : answers selector [] confirmed ≡ expected confirmed
unfolding answers answer expected
confirmed-selector = refl

confirmed-field : answers field [] confirmed ≡ expected confirmed
unfolding answers answer expected
confirmed-field = refl

-- white space stands between tokens and not inside one
abbrev spaced : List Row
spaced =
    (" . // child :: a / * | . ", passes) ∷ ("a\n/\tb\r", passes) ∷ ("a : b", X 2) ∷ ("a: b", X 4) ∷ ("a :b", X 2) ∷ ("xml: a", X 4)
    ∷ ("xml :a", X 2) ∷ ("xml: *", X 4) ∷ ("child : :a", X 2) ∷ ("child: :a", X 4) ∷ ("a / / b", X 12) ∷ (". .", X 14) ∷ ("ch ild::a", X 14) ∷ []

spaced-selector : answers selector [] spaced ≡ expected spaced
unfolding answers answer expected
spaced-selector = refl

spaced-field : answers field [] spaced ≡ expected spaced
unfolding answers answer expected
spaced-field = refl

-- names, axes, `xml`, and what no token begins with
abbrev named : List Row
named =
    ("a.b-c_7", passes) ∷ ("_", passes) ∷ ("Z|z", passes) ∷ ("é·", passes) ∷ ("·é", X 3) ∷ ("aé×", X 3) ∷ ("a:×", X 3) ∷ ("7", X 5) ∷ (".7", X 5)
    ∷ ("a$", X 5) ∷ ("a:-", X 4) ∷ ("a:7", X 4) ∷ ("a:", X 4) ∷ ("a:/b", X 4) ∷ ("a::", X 14) ∷ ("::a", X 12) ∷ ("a/::b", X 12) ∷ ("//a", X 12)
    ∷ ("*", passes) ∷ ("**", X 14) ∷ ("a*", X 14) ∷ ("child", passes) ∷ ("attribute/child", passes) ∷ ("child::child", passes)
    ∷ ("child::a/child::*", passes) ∷ ("child::a b", X 14) ∷ ("child::a/", X 13) ∷ ("child::a::b", X 14) ∷ ("Child::a", X 10)
    ∷ ("self::a", X 10) ∷ ("xml:a", passes) ∷ ("xml:*", passes) ∷ ("child::xml:lang", passes) ∷ ("XML:a", X 11) ∷ ("child::p:a", X 11)
    ∷ ("p:*", X 11) ∷ ("p:*::a", X 9) ∷ ("./.", passes) ∷ (".//./a|./b", passes) ∷ []

named-selector : answers selector [] named ≡ expected named
unfolding answers answer expected
named-selector = refl

named-field : answers field [] named ≡ expected named
unfolding answers answer expected
named-field = refl

-- ---- attributes: only a field may end in one, as the last two tokens or by the axis

abbrev no-attribute : List Row
no-attribute =
    ("@id", X 8) ∷ ("a/@*", X 8) ∷ (".//@id", X 8) ∷ ("@p:a", X 8) ∷ ("@id|a", X 8) ∷ ("a|@id", X 8) ∷ ("@id b", X 12) ∷ ("@.", X 12)
    ∷ ("@child::a", X 12) ∷ ("attribute::a", X 10) ∷ ("attribute::p:a", X 10) ∷ ("attribute::", X 14) ∷ []

selector-attributes : answers selector [] no-attribute ≡ expected no-attribute
unfolding answers answer expected
selector-attributes = refl

abbrev with-attribute : List Row
with-attribute =
    ("@id", passes) ∷ ("a/@*", passes) ∷ (".//@id", passes) ∷ ("@p:a", X 11) ∷ ("@id|a", passes) ∷ ("a|@id", passes) ∷ ("@id b", X 12) ∷ ("@.", X 12)
    ∷ ("@child::a", X 12) ∷ ("attribute::a", passes) ∷ ("attribute::p:a", X 11) ∷ ("attribute::", X 14) ∷ ("@ id", passes)
    ∷ ("a / attribute :: * | @ xml:lang", passes) ∷ ("@id/", X 12) ∷ ("attribute::a/", X 10) ∷ ("a/@id/b", X 12) ∷ ("a @id", X 14) ∷ []

field-attributes : answers field [] with-attribute ≡ expected with-attribute
unfolding answers answer expected
field-attributes = refl

-- ---- declared prefixes: the pieces of a text between its spaces

pieces : map (split_at (code " ")) (codes "p q" ∷ codes "p" ∷ codes "" ∷ codes " p" ∷ []) ≡ (codes "p" ∷ codes "q" ∷ []) ∷ (codes "p" ∷ []) ∷ ([] ∷ []) ∷ ([] ∷ codes "p" ∷ []) ∷ []
unfolding codes split_at on_front
pieces = refl

abbrev prefixed : List Row
prefixed =
    ("p:a", passes) ∷ ("p:*", passes) ∷ ("child::p:a/ns.1:*", passes) ∷ ("ns.1:a", passes) ∷ ("xml:a", passes) ∷ ("q:a", X 11) ∷ ("q:*", X 11)
    ∷ ("child::q:a", X 11) ∷ ("p:a/q:a", X 11) ∷ ("p:a|q:a", X 11) ∷ ("pp:a", X 11) ∷ ("ns:a", X 11) ∷ ("p:a/", X 13) ∷ ("p: a", X 4) ∷ ("p :a", X 2)
    ∷ ("p:a:b", X 2) ∷ ("p::a", X 10) ∷ ("p:a::b", X 9) ∷ ("p", passes) ∷ ("q", passes) ∷ []

prefixed-selector : answers selector ("p" ∷ "ns.1" ∷ []) prefixed ≡ expected prefixed
unfolding answers answer expected
prefixed-selector = refl

prefixed-field : answers field ("p" ∷ "ns.1" ∷ []) prefixed ≡ expected prefixed
unfolding answers answer expected
prefixed-field = refl

abbrev prefixed-attributes : List Row
prefixed-attributes = ("@p:a", passes) ∷ ("a/attribute::p:*", passes) ∷ ("@q:a", X 11) ∷ ("attribute::q:a", X 11) ∷ ("@p:a/b", X 12) ∷ []

field-prefixes : answers field ("p" ∷ []) prefixed-attributes ≡ expected prefixed-attributes
unfolding answers answer expected
field-prefixes = refl

-- ---- other white space of Unicode, by code points: an ordinary character, in a name by the tables, and X5 in ASCII

-- a run with U+A0 is no NCName, one with U+1680 is; after a name and ':' both start a local name
a-nbsp-b : answer selector [] (0x61 ∷ 0xA0 ∷ 0x62 ∷ []) ≡ X 3
unfolding answer
a-nbsp-b = refl

a-ogham-b : answer selector [] (0x61 ∷ 0x1680 ∷ 0x62 ∷ []) ≡ passes
unfolding answer
a-ogham-b = refl

p-colon-nbsp : answer selector ("p" ∷ []) (0x70 ∷ 0x3A ∷ 0xA0 ∷ []) ≡ X 3
unfolding answer
p-colon-nbsp = refl

p-colon-ogham : answer selector ("p" ∷ []) (0x70 ∷ 0x3A ∷ 0x1680 ∷ []) ≡ passes
unfolding answer
p-colon-ogham = refl

-- U+A0 a / b, a U+A0 / b, and a, a space, U+A0, / b; a, a line tabulation, / b; a form feed and a; a, a line tabulation, b
ordinary : map (answer field []) (
    (0xA0 ∷ 0x61 ∷ 0x2F ∷ 0x62 ∷ []) ∷ (0x61 ∷ 0xA0 ∷ 0x2F ∷ 0x62 ∷ []) ∷ (0x61 ∷ 0x20 ∷ 0xA0 ∷ 0x2F ∷ 0x62 ∷ [])
    ∷ (0x61 ∷ 0x0B ∷ 0x2F ∷ 0x62 ∷ []) ∷ (0x0C ∷ 0x61 ∷ []) ∷ (0x61 ∷ 0x0B ∷ 0x62 ∷ []) ∷ [])
    ≡ X 3 ∷ X 3 ∷ X 3 ∷ X 5 ∷ X 5 ∷ X 5 ∷ []
unfolding answer
ordinary = refl

-- U+1680 alone is a name; with '|' the second alternative is empty; U+A0, a line tabulation and U+85 alone are no empty text;
-- U+200B and U+F0000 are in no name; U+1F600 is in names
others : map (answer field []) (
    (0x1680 ∷ []) ∷ (0x1680 ∷ 0x7C ∷ []) ∷ (0x1680 ∷ 0x61 ∷ []) ∷ (0xA0 ∷ []) ∷ (0xB ∷ []) ∷ (0x85 ∷ []) ∷ (0x200B ∷ [])
    ∷ (0xF0000 ∷ []) ∷ (0x1F600 ∷ []) ∷ [])
    ≡ passes ∷ X 6 ∷ passes ∷ X 3 ∷ X 5 ∷ X 3 ∷ X 3 ∷ X 3 ∷ passes ∷ []
unfolding answer
others = refl
