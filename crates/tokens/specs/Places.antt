-- What the code's tokens say: a token by the names in its text, where it stands, and the text behind it. And the tokens of a text as far as it is tokens.
-- Assumes nothing.
use Rattle.std.specs.Prelude.{ℕ, zero, suc, ◌-◌, ◌<◌, length, take, drop, get_or, ◌≡◌, cond, List, [], ◌∷◌}
use Rattle.std.specs.declared.option.Option as code
use Rattle.std.specs.declared.option.Option.TheVariants.{Some, None}
use Rattle.std.specs.declared.result.Result.{Result}
use Rattle.std.specs.declared.result.Result.TheVariants.{Ok, Err}
use Rattle.std.proofs.Math.Option.{Option, none, some}
use Rattle.lists.specs.Lists.{all}
use Rattle.characters.specs.Spaces.{xml_space}
use Rattle.characters.specs.Names.{name_char}
use Rattle.ncname.specs.NCName.{nc_name}
use Rattle.grammar.specs.Tokens as grammar
use Rattle.grammar.specs.Tokens.{Points}
use Rattle.grammar.specs.Tokens.NameTest.{star, any_in, local, qualified}
use Rattle.grammar.specs.Tokens.Token.{dot, slash, slashes, colons, at, bar, name}
use Rattle.reasons.specs.Reasons.{X1-empty, X2-stray-colon, X3-no-NCName, X4-dangling-colon, X5-character, X6-empty-alternative, X7-descent-alone, X8-attribute-in-selector, X9-axis-no-plain-name, X10-axis-not-allowed, X11-undeclared-prefix, X12-step, X13-trailing-slash, X14-separator, run, Scan, end, gap, found, fault, scan, Tokenized, read, wrong, before, tokenize}
use Rattle.tokens.specs.declared.NameTest.{NameTest}
use Rattle.tokens.specs.declared.NameTest.TheVariants.{Star, PrefixStar, Local, Prefixed}
use Rattle.tokens.specs.declared.Tok.{Tok}
use Rattle.tokens.specs.declared.Tok.TheVariants.{Dot, Slash, DoubleSlash, ColonColon, At, Name}
use Rattle.tokens.specs.declared.Front.{Front}
use Rattle.tokens.specs.declared.Token.{Token}
use Rattle.tokens.specs.declared.Reason.{Reason}
use Rattle.tokens.specs.declared.Reason.TheVariants.{EmptyPath, StrayColon, NoNCName, DanglingColon, Character, EmptyAlternative, DescentAlone, AttributeInSelector, AxisNoPlainName, AxisNotAllowed, UndeclaredPrefix, Step, TrailingSlash, Separator}

-- ---- the reasons by their numbers

abbrev pub number : Reason → ℕ
number EmptyPath = X1-empty
number StrayColon = X2-stray-colon
number NoNCName = X3-no-NCName
number DanglingColon = X4-dangling-colon
number Character = X5-character
number EmptyAlternative = X6-empty-alternative
number DescentAlone = X7-descent-alone
number AttributeInSelector = X8-attribute-in-selector
number AxisNoPlainName = X9-axis-no-plain-name
number AxisNotAllowed = X10-axis-not-allowed
number UndeclaredPrefix = X11-undeclared-prefix
number Step = X12-step
number TrailingSlash = X13-trailing-slash
number Separator = X14-separator

-- ---- runs of characters

-- how many characters of white space stand first
unfoldable pub gap_length : Points → ℕ
gap_length [] = 0
gap_length (c ∷ s) = cond (xml_space c) (suc (gap_length s)) 0

-- how long the run at the front of a text is, if all of it are name characters
abbrev pub run_of : Points → Option ℕ
run_of s = cond (all name_char (take (run s) s)) (some (run s)) none

-- how long the run behind the first character of a text is, if both are an NCName
abbrev pub name_of : Points → Result ℕ Reason
name_of s = cond (nc_name (get_or s 0 0 ∷ take (run (drop 1 s)) (drop 1 s))) (Ok (run (drop 1 s))) (Err NoNCName)

-- ---- a token at the front of a text

abbrev pub test_of : NameTest → grammar.NameTest
test_of Star = star
test_of (PrefixStar p) = any_in p.now
test_of (Local l) = local l.now
test_of (Prefixed p l) = qualified p.now l.now

abbrev pub token_of : Tok → grammar.Token
token_of Dot = dot
token_of Slash = slash
token_of DoubleSlash = slashes
token_of ColonColon = colons
token_of At = at
token_of (Name n) = name (test_of n)

abbrev pub found_of : Result Front Reason → Scan
found_of (Ok f) = found (token_of f.tok) f.more
found_of (Err k) = fault (number k)

abbrev pub scan_of : Result (code.Option Front) Reason → Scan
scan_of (Ok None) = end
scan_of (Ok (Some f)) = found (token_of f.tok) f.more
scan_of (Err k) = fault (number k)

-- ---- the tokens of a text, as far as it is tokens

-- What follows what stands first; `next n` are the tokens after n more characters. Where a fault stands, the last token is '|', which no path holds:
-- so a walk over the tokens passes none that it did not read to the end.
abbrev pub ahead : Scan → (ℕ → List grammar.Token) → List grammar.Token
ahead end next = []
ahead gap next = next 0
ahead (found t n) next = t ∷ next n
ahead (fault k) next = bar ∷ []

unfoldable pub tokens_from : ℕ → Points → List grammar.Token
tokens_from k [] = []
tokens_from zero (c ∷ s) = ahead (scan (c ∷ s)) (λ n. tokens_from n s)
tokens_from (suc k) (c ∷ s) = tokens_from k s

abbrev pub tokens_in : Points → List grammar.Token
tokens_in s = tokens_from 0 s

-- ---- the first token, and the text behind it

abbrev pub tokenized_by : Result (code.Option Token) Reason → Tokenized
tokenized_by (Ok None) = read []
tokenized_by (Ok (Some t)) = before (token_of t.tok) (tokenize 0 t.behind.now)
tokenized_by (Err k) = wrong (number k)

abbrev pub tokens_by : Result (code.Option Token) Reason → List grammar.Token
tokens_by (Ok None) = []
tokens_by (Ok (Some t)) = token_of t.tok ∷ tokens_in t.behind.now
tokens_by (Err k) = bar ∷ []

-- a text is the end of another, and shorter: that one's characters from a place behind its first one on
abbrev pub EndOf : Points → Points → Type 0
EndOf s t = (length t < length s) × (t ≡ drop (length s - length t) s)

abbrev pub Inside : Points → Result (code.Option Token) Reason → Type 0
Inside s (Ok None) = Unit {0}
Inside s (Ok (Some t)) = EndOf s t.behind.now
Inside s (Err k) = Unit {0}

-- a token stands behind the white space that stands first
abbrev pub Stands : Points → Result (code.Option Token) Reason → Type 0
Stands s (Ok None) = Unit {0}
Stands s (Ok (Some t)) = t.start ≡ gap_length s
Stands s (Err k) = Unit {0}

pub record FirstOf (s : Points) (r : Result (code.Option Token) Reason) : Type 0 where
  pub reads : tokenize 0 s ≡ tokenized_by r
  pub tokens : tokens_in s ≡ tokens_by r
  pub stands : Stands s r
  pub inside : Inside s r

-- ---- the first reason to stop

abbrev pub fault_of : Tokenized → Option ℕ
fault_of (read ts) = none
fault_of (wrong k) = some k

abbrev pub reason_of : {A : Type 0} → Result A Reason → Option ℕ
reason_of (Ok x) = none
reason_of (Err k) = some (number k)
