-- The declared prefixes as they are handed in: one text, with single spaces between them.
-- Assumes nothing.
use Prim.Native.Char.{code}
use Rattle.std.specs.Prelude.{List, map}
use Rattle.texts.specs.Texts.{Text}
use Rattle.utf8.specs.Utf8.{decode}
use Rattle.grammar.specs.Tokens.{Points}
use Rattle.reasons.specs.Reasons.{split_at}

-- the prefixes of a text: its pieces between spaces
unfoldable pub prefixes_of : Text → List Points
prefixes_of s = split_at (code " ") (decode s)

-- the same prefixes, where the spaces are sought among the bytes: of UTF-8 that makes no difference (`words-are-prefixes`)
unfoldable pub words_of : Text → List Points
words_of s = map decode (split_at (code " ") s)
