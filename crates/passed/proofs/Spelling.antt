-- A text without its white space is its tokens, each as it is written, one behind the other: by induction on the tokens. XML's white space
-- stands in no token, so nothing of a token is dropped.
-- Assumes nothing.
use Prim.Native.Nat.{ℕ}
use mathlib.Core.Path.{◌≡◌, refl, ap, ◌∙◌}
use mathlib.Core.Bool.{Bool, true, false, not}
use mathlib.Core.List.{List, [], ◌∷◌, ◌++◌, flat_map}
use Rattle.lists.specs.Lists.{only_if, passing, All}
use Rattle.lists.proofs.Lists.{flat_map-append}
use Rattle.lists.proofs.Folds.{passing-append, passing-all, All-append}
use Rattle.texts.specs.Texts.{Text}
use Rattle.utf8.specs.Utf8.{encode, decode}
use Rattle.characters.specs.Ranges.{in_ranges}
use Rattle.characters.specs.Spaces.{xml_space}
use Rattle.characters.specs.Names.{start_ranges, more_ranges, name_start, name_char}
use Rattle.characters.proofs.Tables.{start-is-char}
use Rattle.grammar.specs.Tokens.{Points, NCName, NameTest, Token, Spells, Tokens}
use Rattle.grammar.specs.Tokens.NameTest.{star, any_in, local, qualified}
use Rattle.grammar.specs.Tokens.Token.{dot, slash, slashes, colons, at, bar, name}
use Rattle.grammar.specs.Tokens.Spells.{a-dot, a-slash, two-slashes, two-colons, an-at, a-bar, a-star, a-wildcard, an-ncname, a-qname}
use Rattle.grammar.specs.Tokens.Tokens.{done, space, token}
use Rattle.reasons.proofs.Chars.{other-than, all_pass, no_name, name-start, name-rest}
use Rattle.paths.specs.Reading.{without_space}

-- ---- tokens as they are written

abbrev pub spell_test : NameTest → Points
spell_test star = 42 ∷ []
spell_test (any_in p) = p ++ (58 ∷ 42 ∷ [])
spell_test (local l) = l
spell_test (qualified p l) = p ++ (58 ∷ l)

abbrev pub spell : Token → Points
spell dot = 46 ∷ []
spell slash = 47 ∷ []
spell slashes = 47 ∷ 47 ∷ []
spell colons = 58 ∷ 58 ∷ []
spell at = 64 ∷ []
spell bar = 124 ∷ []
spell (name n) = spell_test n

-- the names of a test are NCNames
abbrev pub SoundTest : NameTest → Type 0
SoundTest star = Unit {0}
SoundTest (any_in p) = NCName p
SoundTest (local l) = NCName l
SoundTest (qualified p l) = NCName p × NCName l

abbrev pub Sound : Token → Type 0
Sound dot = Unit {0}
Sound slash = Unit {0}
Sound slashes = Unit {0}
Sound colons = Unit {0}
Sound at = Unit {0}
Sound bar = Unit {0}
Sound (name n) = SoundTest n

spelled : {t : Token} {w : Points} → Spells t w → (w ≡ spell t) × Sound t
spelled a-dot = (refl, tt)
spelled a-slash = (refl, tt)
spelled two-slashes = (refl, tt)
spelled two-colons = (refl, tt)
spelled an-at = (refl, tt)
spelled a-bar = (refl, tt)
spelled a-star = (refl, tt)
spelled (a-wildcard h) = (refl, h)
spelled (an-ncname h) = (refl, h)
spelled (a-qname h g) = (refl, (h, g))

pub tokens-sound : {s : Points} {ts : List Token} → Tokens s ts → All Sound ts
tokens-sound done = tt
tokens-sound (space h r) = tokens-sound r
tokens-sound (token sp l r) = ((spelled sp).1, tokens-sound r)

-- ---- no token holds XML's white space

abbrev Solid : ℕ → Type 0
Solid c = xml_space c ≡ false

char-solid : (c : ℕ) → name_char c ≡ true → Solid c
unfolding xml_space name_char more_ranges name_start start_ranges in_ranges
char-solid c h = let p = other-than name_char in rw (p 32 refl c h, p 9 refl c h, p 13 refl c h, p 10 refl c h)

name-solid : (m : Points) → NCName m → All Solid m
name-solid [] h = no_name h
name-solid (c ∷ m) h =
    let s = start-is-char c (name-start c m h) in
    (char-solid c s, all_pass name_char Solid char-solid m (name-rest c m h))

spelled-solid : {t : Token} {w : Points} → Spells t w → All Solid w
unfolding xml_space
spelled-solid a-dot = (refl, tt)
spelled-solid a-slash = (refl, tt)
spelled-solid two-slashes = (refl, (refl, tt))
spelled-solid two-colons = (refl, (refl, tt))
spelled-solid an-at = (refl, tt)
spelled-solid a-bar = (refl, tt)
spelled-solid a-star = (refl, tt)
spelled-solid (a-wildcard {p = p} h) = All-append Solid p (58 ∷ 42 ∷ []) (name-solid p h) (refl, (refl, tt))
spelled-solid (an-ncname {l = l} h) = name-solid l h
spelled-solid (a-qname {p = p} {l = l} h g) = All-append Solid p (58 ∷ l) (name-solid p h) (refl, name-solid l g)

-- ---- what stays

abbrev stays : ℕ → Bool
stays c = not (xml_space c)

word-stays : (w : Points) → All Solid w → All (λ (c : ℕ). stays c ≡ true) w
word-stays [] h = tt
word-stays (c ∷ w) h = (rw h.0, word-stays w h.1)

solid-stays : (w : Points) → All Solid w → passing stays w ≡ w
solid-stays w h = passing-all stays w (word-stays w h)

stays-spelled : {s : Points} {ts : List Token} → Tokens s ts → passing stays s ≡ flat_map spell ts
unfolding passing only_if flat_map
stays-spelled done = refl
stays-spelled (space {c = c} {s = s} h r) = rw h (stays-spelled r)
stays-spelled (token {t = t} {w = w} {s = s} {ts = ts} sp l r) =
    passing-append stays w s
    ∙ (ap (λ (v : Points). v ++ passing stays s) (solid-stays w (spelled-solid sp) ∙ (spelled sp).0)
    ∙ ap (λ (v : Points). spell t ++ v) (stays-spelled r))

-- ---- in bytes

abbrev pub test_bytes : NameTest → Text
test_bytes n = flat_map encode (spell_test n)

abbrev pub bytes : Token → Text
bytes t = flat_map encode (spell t)

unfoldable pub written : List Token → Text
written ts = flat_map bytes ts

pub written-append : (ts us : List Token) → written (ts ++ us) ≡ written ts ++ written us
unfolding written
written-append ts us = flat_map-append bytes ts us

encode-spelled : (ts : List Token) → flat_map encode (flat_map spell ts) ≡ written ts
unfolding written flat_map
encode-spelled [] = refl
encode-spelled (t ∷ ts) = flat_map-append encode (spell t) (flat_map spell ts) ∙ ap (λ (l : Text). bytes t ++ l) (encode-spelled ts)

-- where the code points of a text are these tokens, the reader goes on with these bytes
pub without-space : (t : Text) {ts : List Token} → Tokens (decode t) ts → without_space t ≡ written ts
unfolding without_space
without-space t {ts} r = ap (λ (l : Points). flat_map encode l) (stays-spelled r) ∙ encode-spelled ts
