-- Computed: spellings of paths and their one text, and what the writer answers, each worked out by hand.
-- Assumes nothing.
use Prim.Native.String.{String}
use Rattle.std.specs.Prelude.{ℕ, take, replicate, ◌≡◌, refl, Bool, true, false}
use mathlib.Core.List.{List, [], ◌∷◌, ◌++◌, map, flat_map}
use Rattle.std.proofs.Math.Option
use Rattle.std.proofs.Math.Option.{Option, none, some}
use Rattle.lists.specs.Lists.{any, only_if, passing}
use Rattle.texts.specs.Texts.{Text}
use Rattle.paths.specs.Reading.{WrittenTest, attribute_part, self_part}
use Rattle.paths.specs.Examples.{codes, read}
use Rattle.records.specs.Readers.{Bytes}
use Rattle.records.specs.Records.{count_of, long_path}
use Rattle.canonical.specs.Canonical.{prefix_text, local_text, test_text, attribute_text, or_self, part_texts, joined, alt_text, canonical}
use Rattle.canonical.specs.Respelling.{respell_part, respell_parts, respell_marked, respell_alt, respelled}
use Rattle.canonical.specs.Writing.{size_then, Spelled, text, refused, spelled_number, path_over, placed, spelled_of, spelled}

-- ---- the text of a path

-- of a field, or of a selector
unfoldable written : Bool → String → Option Text
unfolding read codes only_if prefix_text local_text test_text attribute_text or_self part_texts joined alt_text canonical
written field s = Option.map canonical (read field (codes s))

-- a path, and the text that it gets
abbrev Row : Type 0
Row = String × String

abbrev Becomes : Bool → List Row → Type 0
Becomes field rows = map (λ (r : Row). written field r.0) rows ≡ map (λ (r : Row). some (codes r.1)) rows

-- the request's two, and one that looks like them and stays
request : Becomes true ((".//./@id", ".//@id") ∷ ("./.", ".") ∷ (".//.", ".//.") ∷ [])
unfolding written codes
request = refl

-- `.` only where nothing else is left, in each alternative by itself
selves : Becomes true (
    (".", ".") ∷ (".//./.", ".//.") ∷ ("./a", "a") ∷ ("a/.", "a") ∷ ("./a/./b/.", "a/b") ∷ (".//./a", ".//a") ∷ ("./@id", "@id") ∷ ("./.|.//.", ".|.//.")
    ∷ (".|./a|./@b", ".|a|@b") ∷ [])
unfolding written codes
selves = refl

-- no axis but `@`; a name or a prefix that is spelled like an axis stays
axes : Becomes true (
    ("child::a", "a") ∷ ("child::p:a/child::*", "p:a/*") ∷ ("child::child", "child") ∷ ("child:a", "child:a") ∷ ("child:::a", ":a")
    ∷ ("child::attribute", "attribute") ∷ ("attribute:a", "attribute:a") ∷ ("attribute::a", "@a") ∷ ("a/attribute::p:*", "a/@p:*") ∷ ("@attribute", "@attribute")
    ∷ [])
unfolding written codes
axes = refl

-- no white space, not inside a name or an axis either
spaces : Becomes true (("@ attribute", "@attribute") ∷ (" ch ild : : p : a ", "p:a") ∷ ("a b", "ab") ∷ (" a\t|\r\n b ", "a|b") ∷ [])
unfolding written codes
spaces = refl

-- other white space than XML's is an ordinary character: a no-break space stays where it stands, and U+1680
other-spaces : map (λ (t : Text). Option.map canonical (read true t)) ((97 ∷ 0xC2 ∷ 0xA0 ∷ 32 ∷ 98 ∷ []) ∷ (64 ∷ 0xE1 ∷ 0x9A ∷ 0x80 ∷ []) ∷ (97 ∷ 0xB ∷ []) ∷ [])
    ≡ some (97 ∷ 0xC2 ∷ 0xA0 ∷ 98 ∷ []) ∷ some (64 ∷ 0xE1 ∷ 0x9A ∷ 0x80 ∷ []) ∷ none ∷ []
unfolding written codes
other-spaces = refl

-- prefixes as given: none, the empty one, `*`
prefixes : Becomes true (
    ("a", "a") ∷ (":a", ":a") ∷ ("*:a", "*:a") ∷ ("a*:b", "a*:b") ∷ ("*", "*") ∷ (":*", ":*") ∷ ("*:*", "*:*") ∷ ("xml:a", "xml:a") ∷ ("@:a|@*", "@:a|@*") ∷ [])
unfolding written codes
prefixes = refl

-- alternatives in their order, one that stands twice too
orders : Becomes true (("b|a", "b|a") ∷ ("a|a", "a|a") ∷ ("./a|child::a|.//a", "a|a|.//a") ∷ [])
unfolding written codes
orders = refl

-- the same of a selector, which has no attribute test
selectors : map (written false) ("./child::a|.//." ∷ "./@id" ∷ []) ≡ some (codes "a|.//.") ∷ none ∷ []
unfolding written codes
selectors = refl

-- ---- each definition by itself

no-prefix : prefix_text none ≡ []
unfolding prefix_text
no-prefix = refl

any_name : local_text none ≡ codes "*"
unfolding local_text codes
any_name = refl

-- `p:a`
abbrev named : WrittenTest
named = record { prefix = some (codes "p"); local = some (codes "a") }

attribute-alone : attribute_text (some named) ≡ codes "@p:a" ∷ []
unfolding attribute_text test_text prefix_text local_text codes
attribute-alone = refl

self-alone : or_self [] ≡ codes "." ∷ []
unfolding or_self codes
self-alone = refl

self-dropped : or_self (codes "a" ∷ []) ≡ codes "a" ∷ []
unfolding or_self codes
self-dropped = refl

between : joined 47 (codes "a" ∷ codes "b" ∷ []) ≡ codes "a/b"
unfolding joined codes
between = refl

descent-stays : take 3 (alt_text (record { descendant = true; steps = named ∷ []; attr = none })) ≡ codes ".//"
unfolding alt_text only_if part_texts joined or_self attribute_text test_text prefix_text local_text codes
descent-stays = refl

-- ---- from the path's own bytes

attribute-respelled : respell_part (attribute_part (codes "id")) ≡ codes "@id" ∷ []
unfolding respell_part codes
attribute-respelled = refl

self-respelled : respell_part self_part ≡ []
unfolding respell_part
self-respelled = refl

-- a part may be empty there; the reader takes no such path
unfoldable respelt_text : String → Text
unfolding read codes joined or_self respell_part respell_parts respell_marked respell_alt respelled
respelt_text s = respelled (codes s)

any-bytes : map respelt_text (".//./@id" ∷ "./." ∷ "./attribute::a|child::b" ∷ "/a/" ∷ "./" ∷ "" ∷ []) ≡ map codes (".//@id" ∷ "." ∷ "@a|b" ∷ "/a/" ∷ "" ∷ "" ∷ [])
unfolding respelt_text codes
any-bytes = refl

-- ---- the writer

unfoldable wrote : ℕ → Text → Bytes → Spelled × Bytes
unfolding read codes passing only_if count_of long_path prefix_text local_text test_text attribute_text or_self part_texts joined alt_text canonical path_over placed spelled_of spelled
wrote kind path out = spelled kind path out

-- `./a` into three bytes: two of them stay
behind-stays : wrote 0 (codes "./a") (7 ∷ 8 ∷ 9 ∷ []) ≡ (text 1, 97 ∷ 8 ∷ 9 ∷ [])
unfolding wrote codes
behind-stays = refl

-- an output of just the length, one byte less, and none
just-fits : map (λ (out : Bytes). wrote 1 (codes ".//./@id") out) ((1 ∷ 2 ∷ 3 ∷ 4 ∷ 5 ∷ 6 ∷ []) ∷ (1 ∷ 2 ∷ 3 ∷ 4 ∷ 5 ∷ []) ∷ [] ∷ [])
    ≡ (text 6, codes ".//@id") ∷ (refused 24, 1 ∷ 2 ∷ 3 ∷ 4 ∷ 5 ∷ []) ∷ (refused 24, []) ∷ []
unfolding wrote codes
just-fits = refl

-- a text and an output by themselves: one byte more than it has, just as many, one less
one_more : (placed (codes "a") (7 ∷ 8 ∷ [])).1 ≡ 97 ∷ 8 ∷ []
unfolding placed codes
one_more = refl

just_enough : (placed (codes "ab") (7 ∷ 8 ∷ [])).0 ≡ text 2
unfolding placed codes
just_enough = refl

one_less : (placed (codes "ab") (7 ∷ [])).1 ≡ 7 ∷ []
unfolding placed codes
one_less = refl

-- a kind, a path and how long the output is; and the number
abbrev Case : Type 0
Case = ℕ × Text × ℕ × ℕ

abbrev Answers : List Case → Type 0
Answers cs = map (λ (c : Case). spelled_number (wrote c.0 c.1 (replicate c.2 0)).0) cs ≡ map (λ (c : Case). c.3) cs

-- a path that 3, 5 and 23 meet, into no output: each refusal before the next
broken : Text
broken = 0xFF ∷ replicate 255 47

in-order : Answers ((2, broken, 0, 4) ∷ (0, broken, 0, 3) ∷ (0, replicate 256 97, 0, 5) ∷ (0, replicate 7 124, 0, 23) ∷ (1, codes "@a", 0, 24) ∷ (1, codes "@a", 2, 0) ∷ [])
unfolding wrote codes broken spelled_number
in-order = refl

-- the limits of the path as it is handed in, white space counted: 256 bytes, eight bars, seventeen slashes; and what
-- is just within
over-limits : Answers (
    (0, codes "a" ++ replicate 255 32, 1, 5) ∷ (0, codes "a" ++ replicate 254 32, 1, 0)
    ∷ (0, replicate 8 124, 0, 5) ∷ (1, codes "a|b|c|d|e|f|g|h", 15, 0) ∷ (0, replicate 17 47, 0, 5) ∷ (0, flat_map (λ c. c ∷ 47 ∷ []) (replicate 16 97) ++ codes "a", 33, 0) ∷ [])
unfolding wrote codes spelled_number
over-limits = refl

-- kinds, an attribute test in a selector, and the empty path
unread : Answers ((2, codes "a", 1, 4) ∷ (0, codes "@a", 2, 23) ∷ (0, codes ".//", 3, 23) ∷ (1, codes "a|", 3, 23) ∷ (0, [], 0, 23) ∷ [])
unfolding wrote codes spelled_number
unread = refl

-- each refusal by itself
other-kind : Answers ((2, codes "a", 0, 4) ∷ [])
unfolding wrote codes spelled_number
other-kind = refl

no-utf8 : Answers ((0, 0xFF ∷ [], 0, 3) ∷ [])
unfolding wrote codes spelled_number
no-utf8 = refl

too-long : Answers ((0, replicate 256 97, 0, 5) ∷ [])
unfolding wrote codes spelled_number
too-long = refl

eight-bars : path_over (replicate 8 124) ≡ true
unfolding path_over count_of long_path passing only_if
eight-bars = refl

not-read : (spelled_of none []).0 ≡ refused 23
unfolding spelled_of
not-read = refl

attribute-in-selector : Answers ((0, codes "@a", 0, 23) ∷ [])
unfolding wrote codes spelled_number
attribute-in-selector = refl

-- the size of a text is told, and a refusal leaves the one that was there
sizes-told : size_then (text 3) 7 ∷ size_then (refused 24) 7 ∷ [] ≡ 3 ∷ 7 ∷ []
unfolding size_then
sizes-told = refl
