-- Computed: the number that the door gives for document 01's cases, for cases asked of the original, for each refusal
-- and for each pair of refusals; and the kind that a byte names.
-- Assumes nothing.
use Prim.Native.Char.{code}
use Prim.Native.String.{String}
use Rattle.std.proofs.Common.{arith}
use Rattle.std.specs.Prelude.{ℕ, replicate, ◌≡◌, refl}
use mathlib.Core.List.{List, [], ◌∷◌, ◌++◌, map, flat_map}
use Rattle.texts.specs.Texts.{Text, same}
use Rattle.utf8.specs.Utf8.{scalar, encode, size_of, code_of, decode_from, decode, utf8}
use Rattle.characters.specs.Ranges.{in_ranges}
use Rattle.characters.specs.Spaces.{xml_space}
use Rattle.characters.specs.Names.{start_ranges, more_ranges, name_start, name_char}
use Rattle.ncname.specs.NCName.{nc_name}
use Rattle.grammar.specs.Tokens.{Points}
use Rattle.reasons.specs.Reasons.{run_start, run_char, run, begins, slash_first, colon_first, after_prefix, after_name, name_first, scan, tokenize, declares, test_declared, check_prefix, step, steps, descent, validate_path, alternative, alternatives, on_front, split_at, reason}
use Rattle.prefixes.specs.Prefixes.{prefixes_of}
use Rattle.std.specs.declared.result.Result.TheVariants.{Ok, Err}
use Rattle.path_steps.specs.declared.PathKind.TheVariants.{Selector, Field}
use Rattle.checker.specs.declared.Refusal.TheVariants.{UnknownKind}
use Rattle.checker.specs.Answers.{kind_byte, checked, number_of}
use Rattle.checker.specs.Parts.{Named}

-- ---- how the tables below are read

codes : String → Points
codes = elim [ String.[] ↦ [] | String.◌∷◌ c (s → r) ↦ code c ∷ r ]

-- the bytes of a quoted text
bytes : String → Text
unfolding codes encode flat_map
bytes s = flat_map encode (codes s)

-- the number for a kind byte, a path and a text of prefixes
number : ℕ → Text → Text → ℕ
unfolding codes bytes same in_ranges xml_space start_ranges more_ranges name_start name_char nc_name run_start run_char run begins slash_first colon_first after_prefix after_name name_first scan tokenize declares test_declared check_prefix step steps descent validate_path alternative alternatives on_front split_at reason scalar encode size_of code_of decode_from decode utf8 flat_map prefixes_of kind_byte checked
number kind path prefixes = number_of (checked kind path prefixes)

-- a path and the number expected
abbrev Row : Type 0
Row = String × ℕ

expected : List Row → List ℕ
expected [] = []
expected (r ∷ rs) = r.1 ∷ expected rs

answers : ℕ → String → List Row → List ℕ
answers kind prefixes [] = []
answers kind prefixes (r ∷ rs) = number kind (bytes r.0) (bytes prefixes) ∷ answers kind prefixes rs

-- ---- no prefix is declared; the same for a selector and for a field

-- document 01
abbrev scope : List Row
scope =
    (".//.", 0) ∷ (".", 0) ∷ ("a", 0) ∷ ("a|a", 0) ∷ (":a", 102) ∷ ("a b", 114) ∷ ("*:a", 102) ∷ ("p:a", 111) ∷ (".//", 107) ∷ ("a|", 106)
    ∷ ("a//b", 114) ∷ ("a/", 113) ∷ ("/a", 112) ∷ ("parent::a", 110) ∷ ("*::a", 109) ∷ ("a:", 104) ∷ ("-a", 105) ∷ ("", 101) ∷ ("xml:a", 0) ∷ []

scope-selector : answers 0 "" scope ≡ expected scope
unfolding answers number expected
scope-selector = refl

scope-field : answers 1 "" scope ≡ expected scope
unfolding answers number expected
scope-field = refl

-- the order of reasons, and cases asked of the original
abbrev confirmed : List Row
confirmed =
    ("a/:b", 102) ∷ ("/a|:b", 112) ∷ ("a:b:c", 102) ∷ ("a::b", 110) ∷ ("p:a::b", 109) ∷ ("a:::b", 102) ∷ ("..", 114) ∷ (".a", 114) ∷ ("child::", 114)
    ∷ ("@", 112) ∷ ("@id/a", 112) ∷ ("@@a", 112) ∷ ("attribute::a/b", 110) ∷ ("child::.", 114) ∷ ("|", 106) ∷ ("a||b", 106) ∷ (". / / a", 112)
    ∷ (".//.//a", 114) ∷ ("q:a ::", 111) ∷ []

confirmed-selector : answers 0 "" confirmed ≡ expected confirmed
unfolding answers number expected
confirmed-selector = refl

confirmed-field : answers 1 "" confirmed ≡ expected confirmed
unfolding answers number expected
confirmed-field = refl

-- ---- kind byte 0 is a selector, 1 a field

abbrev no-attribute : List Row
no-attribute = ("@id", 108) ∷ ("attribute::a", 110) ∷ ("a/@*|b", 108) ∷ []

selector-attributes : answers 0 "" no-attribute ≡ expected no-attribute
unfolding answers number expected
selector-attributes = refl

abbrev with-attribute : List Row
with-attribute = ("@id", 0) ∷ ("attribute::a", 0) ∷ ("a/@*|b", 0) ∷ []

field-attributes : answers 1 "" with-attribute ≡ expected with-attribute
unfolding answers number expected
field-attributes = refl

-- ---- a prefix is declared if it equals a piece between spaces

abbrev prefixed : List Row
prefixed = ("p:a", 0) ∷ ("ns.1:*", 0) ∷ ("é:a", 0) ∷ ("xml:a", 0) ∷ ("q:a", 111) ∷ ("ns:a", 111) ∷ ("p:a/é:b|q:*", 111) ∷ []

declared : answers 1 "p ns.1 é" prefixed ≡ expected prefixed
unfolding answers number expected
declared = refl

-- the path `p:a` with other texts of prefixes: no other white space separates, a second space adds an empty piece
texts : map (λ (ps : String). number 0 (bytes "p:a") (bytes ps)) ("p" ∷ "q p" ∷ " p" ∷ "q  p " ∷ "q\tp" ∷ "pq" ∷ "P" ∷ "" ∷ []) ≡ 0 ∷ 0 ∷ 0 ∷ 0 ∷ 111 ∷ 111 ∷ 111 ∷ 111 ∷ []
unfolding number bytes codes
texts = refl

-- ---- characters of two, three and four bytes

-- U+E9; a, U+A0, b; a, U+1680, b; p, ':', U+1680; a, a space, U+A0, '/', b; U+1680 alone; U+1F600; U+F0000
abbrev wide : List Text
wide =
    (0xC3 ∷ 0xA9 ∷ []) ∷ (0x61 ∷ 0xC2 ∷ 0xA0 ∷ 0x62 ∷ []) ∷ (0x61 ∷ 0xE1 ∷ 0x9A ∷ 0x80 ∷ 0x62 ∷ []) ∷ (0x70 ∷ 0x3A ∷ 0xE1 ∷ 0x9A ∷ 0x80 ∷ [])
    ∷ (0x61 ∷ 0x20 ∷ 0xC2 ∷ 0xA0 ∷ 0x2F ∷ 0x62 ∷ []) ∷ (0xE1 ∷ 0x9A ∷ 0x80 ∷ []) ∷ (0xF0 ∷ 0x9F ∷ 0x98 ∷ 0x80 ∷ []) ∷ (0xF3 ∷ 0xB0 ∷ 0x80 ∷ 0x80 ∷ []) ∷ []

wide-paths : map (λ (path : Text). number 0 path (bytes "p")) wide ≡ 0 ∷ 103 ∷ 0 ∷ 0 ∷ 103 ∷ 0 ∷ 0 ∷ 103 ∷ []
unfolding number bytes codes
wide-paths = refl

-- ---- the limits are taken, in bytes

abbrev letters : ℕ → Text
letters n = replicate n (code "a")

-- U+E9, of two bytes
abbrev accents : ℕ → Text
accents n = flat_map encode (replicate n 0xE9)

limit-path : map (λ (path : Text). number 0 path []) (letters 255 ∷ (letters 1 ++ accents 127) ∷ accents 128 ∷ []) ≡ 0 ∷ 0 ∷ 5 ∷ []
unfolding number
limit-path = refl

limit-prefixes : number 0 (bytes "p:a") (letters 16382 ++ bytes " p") ≡ 0
unfolding number bytes codes
limit-prefixes = refl

-- ---- the refusals: 4, then 3, then 5

abbrev Call : Type 0
Call = ℕ × Text × Text

numbers : List Call → List ℕ
numbers [] = []
numbers (c ∷ cs) = number c.0 c.1 c.2 ∷ numbers cs

abbrev fine : Text
fine = letters 1

-- no UTF-8
abbrev broken : Text
broken = 0xFF ∷ []

-- too long a path, too long a text of prefixes
abbrev long : Text
long = letters 256

abbrev many : Text
many = letters 16385

-- each alone; a path that is too long and has a reason
alone : numbers ((2, fine, fine) ∷ (255, fine, fine) ∷ (0, broken, fine) ∷ (1, fine, broken) ∷ (0, long, fine) ∷ (1, fine, many) ∷ (0, code ":" ∷ long, fine) ∷ []) ≡ 4 ∷ 4 ∷ 3 ∷ 3 ∷ 5 ∷ 5 ∷ 5 ∷ []
unfolding numbers number
alone = refl

-- the kind byte with each other
with-kind : numbers ((2, broken, fine) ∷ (2, fine, broken) ∷ (2, long, fine) ∷ (2, fine, many) ∷ []) ≡ 4 ∷ 4 ∷ 4 ∷ 4 ∷ []
unfolding numbers number
with-kind = refl

-- what is no UTF-8 with each that is left
with-broken : numbers ((0, broken, broken) ∷ (0, long ++ broken, fine) ∷ (0, broken, many) ∷ (0, long, broken) ∷ (0, fine, broken ++ many) ∷ []) ≡ 3 ∷ 3 ∷ 3 ∷ 3 ∷ 3 ∷ []
unfolding numbers number
with-broken = refl

-- both texts no UTF-8, and both too long
all-but-the-kind : numbers ((0, long ++ broken, broken ++ many) ∷ []) ≡ 3 ∷ []
unfolding numbers number
all-but-the-kind = refl

-- ---- the kind that a byte names: 0 a selector, 1 a field, and 2 none

zero-and-one : Named 0 (Ok Selector) × Named 1 (Ok Field)
unfolding kind_byte
zero-and-one = ((omega arith, refl), (omega arith, refl))

two-names-none : Named 2 (Err UnknownKind)
two-names-none = (omega arith, refl)
