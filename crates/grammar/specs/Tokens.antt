-- The tokens of 3.11.6: token ::= '.' | '/' | '//' | '|' | '@' | NameTest, and '::' for the unabbreviated axes. A text is its code points.
-- "When tokenizing, the longest possible token is always returned", and white space (S) may stand before and after any token.
-- Assumes nothing.
use Rattle.std.specs.Prelude.{ℕ, ◌≤◌, length, ◌≡◌, true, List, [], ◌∷◌, ◌++◌}
use Rattle.characters.specs.Spaces.{xml_space}
use Rattle.ncname.specs.NCName.{nc_name}

-- the code points of a text
abbrev pub Points : Type 0
Points = List ℕ

abbrev pub NCName : Points → Type 0
NCName s = nc_name s ≡ true

-- NameTest ::= QName | '*' | NCName ':' '*'
pub data NameTest : Type 0 where
  star : NameTest
  any_in : Points → NameTest
  local : Points → NameTest
  qualified : Points → Points → NameTest

pub data Token : Type 0 where
  dot slash slashes colons at bar : Token
  name : NameTest → Token

-- how each token is written
pub data Spells : Token → Points → Type 0 where
  a-dot : Spells dot (46 ∷ [])
  a-slash : Spells slash (47 ∷ [])
  two-slashes : Spells slashes (47 ∷ 47 ∷ [])
  two-colons : Spells colons (58 ∷ 58 ∷ [])
  an-at : Spells at (64 ∷ [])
  a-bar : Spells bar (124 ∷ [])
  a-star : Spells (name star) (42 ∷ [])
  a-wildcard : {p : Points} → NCName p → Spells (name (any_in p)) (p ++ (58 ∷ 42 ∷ []))
  an-ncname : {l : Points} → NCName l → Spells (name (local l)) l
  a-qname : {p l : Points} → NCName p → NCName l → Spells (name (qualified p l)) (p ++ (58 ∷ l))

-- no token that begins where this word begins is longer
abbrev pub Longest : Points → Points → Type 0
Longest word rest = (t : Token) (v r : Points) → Spells t v → v ++ r ≡ word ++ rest → length v ≤ length word

-- the tokens of a text
pub data Tokens : Points → List Token → Type 0 where
  done : Tokens [] []
  space : {c : ℕ} {s : Points} {ts : List Token} → xml_space c ≡ true → Tokens s ts → Tokens (c ∷ s) ts
  token : {t : Token} {w s : Points} {ts : List Token} → Spells t w → Longest w s → Tokens s ts → Tokens (w ++ s) (t ∷ ts)
