-- Computed: the prefixes of small texts, written by hand, and how long the word at their front is.
-- Assumes nothing.
use Rattle.std.specs.Prelude.{◌≡◌, refl, List, [], ◌∷◌, map}
use Rattle.texts.specs.Texts.{Text}
use Rattle.utf8.specs.Utf8.{size_of, code_of, decode_from, decode}
use Rattle.grammar.specs.Tokens.{Points}
use Rattle.reasons.specs.Reasons.{on_front, split_at}
use Rattle.prefixes.specs.Prefixes.{prefixes_of, words_of}
use Rattle.prefixes.specs.Places.{word_length}

-- "a b", "", " a", "a  b", "é b", "ab!c a"
abbrev texts : List Text
texts =
    (0x61 ∷ 0x20 ∷ 0x62 ∷ []) ∷ [] ∷ (0x20 ∷ 0x61 ∷ []) ∷ (0x61 ∷ 0x20 ∷ 0x20 ∷ 0x62 ∷ []) ∷ (0xC3 ∷ 0xA9 ∷ 0x20 ∷ 0x62 ∷ [])
    ∷ (0x61 ∷ 0x62 ∷ 0x21 ∷ 0x63 ∷ 0x20 ∷ 0x61 ∷ [])
    ∷ []

-- one space stands between two prefixes: each more has an empty one before it, as one at the front has
abbrev pieces : List (List Points)
pieces =
    ((0x61 ∷ []) ∷ (0x62 ∷ []) ∷ []) ∷ ([] ∷ []) ∷ ([] ∷ (0x61 ∷ []) ∷ []) ∷ ((0x61 ∷ []) ∷ [] ∷ (0x62 ∷ []) ∷ []) ∷ ((0xE9 ∷ []) ∷ (0x62 ∷ []) ∷ [])
    ∷ ((0x61 ∷ 0x62 ∷ 0x21 ∷ 0x63 ∷ []) ∷ (0x61 ∷ []) ∷ [])
    ∷ []

prefixes : map prefixes_of texts ≡ pieces
unfolding prefixes_of split_at on_front decode decode_from code_of size_of
prefixes = refl

words : map words_of texts ≡ pieces
unfolding words_of split_at on_front decode decode_from code_of size_of
words = refl

-- of bytes that are no UTF-8 it does make a difference: here the space would be the second byte of a character
abbrev broken : Text
broken = 0xC3 ∷ 0x20 ∷ 0x62 ∷ []

decoded-first : prefixes_of broken ≡ (0xE0 ∷ 0x62 ∷ []) ∷ []
unfolding prefixes_of split_at on_front decode decode_from code_of size_of
decoded-first = refl

split-first : words_of broken ≡ (0xC0 ∷ []) ∷ (0x62 ∷ []) ∷ []
unfolding words_of split_at on_front decode decode_from code_of size_of
split-first = refl

lengths : map word_length texts ≡ 1 ∷ 0 ∷ 0 ∷ 1 ∷ 2 ∷ 4 ∷ []
unfolding word_length
lengths = refl
