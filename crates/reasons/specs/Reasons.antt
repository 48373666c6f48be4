-- What the path checker answers: the first that it meets of document 01's reasons X1 to X14, after the functions of identity_xpath.rs that are
-- named below. A text is its code points. It is cut at '|'; of each alternative, the first one first, all tokens are read, and only then are
-- the rules of a path asked.
-- Assumes nothing.
use Prim.Native.Char.{code}
use Rattle.std.specs.Prelude.{ℕ, zero, suc, ◌+◌, eqb, leb, take, drop, ◌≡◌, Bool, true, false, cond, not, ◌&&◌, ◌||◌, List, [], ◌∷◌}
use Rattle.std.proofs.Math.Option.{Option, none, some}
use Rattle.lists.specs.Lists.{all}
use Rattle.texts.specs.Texts.{same}
use Rattle.characters.specs.Ranges.{in_ranges}
use Rattle.characters.specs.Spaces.{xml_space}
use Rattle.ncname.specs.NCName.{nc_name}
use Rattle.grammar.specs.Tokens.{Points, NameTest, Token}
use Rattle.grammar.specs.Tokens.NameTest.{star, any_in, local, qualified}
use Rattle.grammar.specs.Tokens.Token.{dot, slash, slashes, colons, at, bar, name}
use Rattle.grammar.specs.Paths.{Kind, child, attribute, xml}
use Rattle.grammar.specs.Paths.Kind.{selector, field}

-- ---- document 01's reasons and their numbers

-- "xpath must not be empty"
abbrev pub X1-empty : ℕ
X1-empty = 1

-- "unexpected ':'"
abbrev pub X2-stray-colon : ℕ
X2-stray-colon = 2

-- "is not a valid NCName"
abbrev pub X3-no-NCName : ℕ
X3-no-NCName = 3

-- "dangling ':'"
abbrev pub X4-dangling-colon : ℕ
X4-dangling-colon = 4

-- "unexpected character"
abbrev pub X5-character : ℕ
X5-character = 5

-- "empty path alternative"
abbrev pub X6-empty-alternative : ℕ
X6-empty-alternative = 6

-- "'.//' must be followed by a step"
abbrev pub X7-descent-alone : ℕ
X7-descent-alone = 7

-- "attribute test is not allowed in a selector"
abbrev pub X8-attribute-in-selector : ℕ
X8-attribute-in-selector = 8

-- "invalid axis"
abbrev pub X9-axis-no-plain-name : ℕ
X9-axis-no-plain-name = 9

-- "axis is not allowed"
abbrev pub X10-axis-not-allowed : ℕ
X10-axis-not-allowed = 10

-- "undeclared namespace prefix"
abbrev pub X11-undeclared-prefix : ℕ
X11-undeclared-prefix = 11

-- "invalid step"
abbrev pub X12-step : ℕ
X12-step = 12

-- "trailing '/'"
abbrev pub X13-trailing-slash : ℕ
X13-trailing-slash = 13

-- "invalid step separator"
abbrev pub X14-separator : ℕ
X14-separator = 14

-- ---- characters

-- `is_name_start`: an ASCII letter, '_', or any character beyond ASCII. Whether what it starts is a name, `nc_name` says
unfoldable pub run_start : ℕ → Bool
run_start c = in_ranges (0x41 ∷ 0x5A ∷ 0x5F ∷ 0x5F ∷ 0x61 ∷ 0x7A ∷ []) c || leb 0x80 c

-- `is_name_char`: one of those, '-', '.' or a digit
unfoldable pub run_char : ℕ → Bool
run_char c = run_start c || in_ranges (0x2D ∷ 0x2E ∷ 0x30 ∷ 0x39 ∷ []) c

-- how many characters at the front go on with a run
unfoldable pub run : Points → ℕ
run [] = 0
run (c ∷ s) = cond (run_char c) (suc (run s)) 0

-- the text begins with this character
unfoldable pub begins : ℕ → Points → Bool
begins c [] = false
begins c (d ∷ s) = eqb d c

-- ---- `tokenize`: one token

-- What stands first in a text: nothing, white space, a token with the number of characters that it has after its first, or a reason to stop.
pub data Scan : Type 0 where
  end gap : Scan
  found : Token → ℕ → Scan
  fault : ℕ → Scan

-- after '/'
unfoldable pub slash_first : Points → Scan
slash_first s = cond (begins (code "/") s) (found slashes 1) (found slash 0)

-- after ':'
unfoldable pub colon_first : Points → Scan
colon_first s = cond (begins (code ":") s) (found colons 1) (fault X2-stray-colon)

-- after a prefix p, which has n characters after its first, and ':'. At once '*' or the run of a local name must follow
unfoldable pub after_prefix : Points → ℕ → Points → Scan
after_prefix p n [] = fault X4-dangling-colon
after_prefix p n (c ∷ s) =
    cond (eqb c (code "*")) (found (name (any_in p)) (n + 2))
    (cond (run_start c)
    (cond (nc_name (c ∷ take (run s) s)) (found (name (qualified p (c ∷ take (run s) s))) (n + 2 + run s)) (fault X3-no-NCName))
    (fault X4-dangling-colon))

-- after an NCName p, which has n characters after its first: ':' at once, and not '::', makes it a prefix
unfoldable pub after_name : Points → ℕ → Points → Scan
after_name p n [] = found (name (local p)) n
after_name p n (c ∷ s) = cond (eqb c (code ":") && not (begins (code ":") s)) (after_prefix p n s) (found (name (local p)) n)

-- a run that starts with c: the whole of it must be an NCName
unfoldable pub name_first : ℕ → Points → Scan
name_first c s =
    cond (nc_name (c ∷ take (run s) s)) (after_name (c ∷ take (run s) s) (run s) (drop (run s) s)) (fault X3-no-NCName)

-- the arms of `match c`
unfoldable pub scan : Points → Scan
scan [] = end
scan (c ∷ s) =
    cond (xml_space c) gap
    (cond (eqb c (code "/")) (slash_first s)
    (cond (eqb c (code ":")) (colon_first s)
    (cond (eqb c (code "@")) (found at 0)
    (cond (eqb c (code "*")) (found (name star) 0)
    (cond (eqb c (code ".")) (found dot 0)
    (cond (run_start c) (name_first c s)
    (fault X5-character)))))))

-- ---- `tokenize`: all tokens of an alternative

-- the tokens, or the first reason to stop
pub data Tokenized : Type 0 where
  read : List Token → Tokenized
  wrong : ℕ → Tokenized

abbrev pub before : Token → Tokenized → Tokenized
before t (read ts) = read (t ∷ ts)
before t (wrong k) = wrong k

-- how it goes on after what stands first; `next n` is the rest after n more characters
abbrev pub onward : Scan → (ℕ → Tokenized) → Tokenized
onward end next = read []
onward gap next = next 0
onward (found t n) next = before t (next n)
onward (fault k) next = wrong k

-- the tokens of a text after its first k characters, which belong to a token already read
unfoldable pub tokenize : ℕ → Points → Tokenized
tokenize k [] = read []
tokenize zero (c ∷ s) = onward (scan (c ∷ s)) (λ n. tokenize n s)
tokenize (suc k) (c ∷ s) = tokenize k s

-- ---- `validate_path`: prefixes

unfoldable pub declares : List Points → Points → Bool
declares [] p = false
declares (d ∷ ds) p = same p d || declares ds p

-- the prefix of a test, where it has one, is `xml` or declared
unfoldable pub test_declared : List Points → NameTest → Bool
test_declared ds star = true
test_declared ds (any_in p) = declares (xml ∷ ds) p
test_declared ds (local l) = true
test_declared ds (qualified p l) = declares (xml ∷ ds) p

-- ---- `validate_path`: one step

-- A step: a reason to stop; the path's last step, with nothing to ask behind it; or a step with the number of tokens that it has after its first.
pub data Stepped : Type 0 where
  fails : ℕ → Stepped
  ends : Stepped
  takes : ℕ → Stepped

-- `check_prefix(test)?`, and then the step x
unfoldable pub check_prefix : List Points → NameTest → Stepped → Stepped
check_prefix ds n x = cond (test_declared ds n) x (fails X11-undeclared-prefix)

abbrev pub is_field : Kind → Bool
is_field selector = false
is_field field = true

abbrev pub is_empty : {A : Type 0} → List A → Bool
is_empty [] = true
is_empty (x ∷ xs) = false

-- the NameTest that stands first
abbrev pub first_test : List Token → Option NameTest
first_test [] = none
first_test (dot ∷ ts) = none
first_test (slash ∷ ts) = none
first_test (slashes ∷ ts) = none
first_test (colons ∷ ts) = none
first_test (at ∷ ts) = none
first_test (bar ∷ ts) = none
first_test (name n ∷ ts) = some n

-- the NameTest behind a '::' that stands first
abbrev pub axis_test : List Token → Option NameTest
axis_test [] = none
axis_test (dot ∷ ts) = none
axis_test (slash ∷ ts) = none
axis_test (slashes ∷ ts) = none
axis_test (colons ∷ ts) = first_test ts
axis_test (at ∷ ts) = none
axis_test (bar ∷ ts) = none
axis_test (name n ∷ ts) = none

-- '@', the NameTest behind it, and whether no token follows that: it is a step only as the last two tokens
abbrev pub attribute_step : Kind → List Points → Option NameTest → Bool → Stepped
attribute_step k ds none last = fails X12-step
attribute_step k ds (some n) last =
    cond last (cond (is_field k) (check_prefix ds n ends) (fails X8-attribute-in-selector)) (fails X12-step)

-- an axis, '::', a NameTest, and whether no token follows that
abbrev pub axis_step : Kind → List Points → NameTest → NameTest → Bool → Stepped
axis_step k ds star n last = fails X9-axis-no-plain-name
axis_step k ds (any_in p) n last = fails X9-axis-no-plain-name
axis_step k ds (qualified p l) n last = fails X9-axis-no-plain-name
axis_step k ds (local l) n last =
    cond (same l child) (check_prefix ds n (takes 2))
    (cond (same l attribute && is_field k && last) (check_prefix ds n ends)
    (fails X10-axis-not-allowed))

-- a NameTest m, and the NameTest behind '::' where m is an axis
abbrev pub name_step : Kind → List Points → NameTest → Option NameTest → Bool → Stepped
name_step k ds m none last = check_prefix ds m (takes 0)
name_step k ds m (some n) last = axis_step k ds m n last

-- the arms of `match &tokens[i..]`, by the token that stands first
unfoldable pub step : Kind → List Points → Token → List Token → Stepped
step k ds dot ts = takes 0
step k ds slash ts = fails X12-step
step k ds slashes ts = fails X12-step
step k ds colons ts = fails X12-step
step k ds at ts = attribute_step k ds (first_test ts) (is_empty (drop 1 ts))
step k ds bar ts = fails X12-step
step k ds (name m) ts = name_step k ds m (axis_test ts) (is_empty (drop 2 ts))

-- ---- `validate_path`: the loop over the steps

-- where it stands: before a step, or n tokens before a step's end
pub data Place : Type 0 where
  start : Place
  within : ℕ → Place

abbrev pub step_on : Stepped → (ℕ → Option ℕ) → Option ℕ
step_on (fails k) next = some k
step_on ends next = none
step_on (takes n) next = next n

-- between steps: exactly one '/'
abbrev pub separated : Token → (ℕ → Option ℕ) → Option ℕ
separated dot next = some X14-separator
separated slash next = next 0
separated slashes next = some X14-separator
separated colons next = some X14-separator
separated at next = some X14-separator
separated bar next = some X14-separator
separated (name n) next = some X14-separator

-- where tokens end before a step, a '/' stood last; where they end after one, the path passes
unfoldable pub steps : Kind → List Points → Place → List Token → Option ℕ
steps k ds start [] = some X13-trailing-slash
steps k ds start (t ∷ ts) = step_on (step k ds t ts) (λ n. steps k ds (within n) ts)
steps k ds (within n) [] = none
steps k ds (within zero) (t ∷ ts) = separated t (λ n. steps k ds start ts)
steps k ds (within (suc n)) (t ∷ ts) = steps k ds (within n) ts

-- ---- `validate_path`: a whole alternative

abbrev pub is_dot : Token → Bool
is_dot dot = true
is_dot slash = false
is_dot slashes = false
is_dot colons = false
is_dot at = false
is_dot bar = false
is_dot (name n) = false

abbrev pub slashes_first : List Token → Bool
slashes_first [] = false
slashes_first (dot ∷ ts) = false
slashes_first (slash ∷ ts) = false
slashes_first (slashes ∷ ts) = true
slashes_first (colons ∷ ts) = false
slashes_first (at ∷ ts) = false
slashes_first (bar ∷ ts) = false
slashes_first (name n ∷ ts) = false

-- what follows a leading './/'
unfoldable pub descent : Kind → List Points → List Token → Option ℕ
descent k ds [] = some X7-descent-alone
descent k ds (t ∷ ts) = steps k ds start (t ∷ ts)

unfoldable pub validate_path : Kind → List Points → List Token → Option ℕ
validate_path k ds [] = some X6-empty-alternative
validate_path k ds (t ∷ ts) = cond (is_dot t && slashes_first ts) (descent k ds (drop 1 ts)) (steps k ds start (t ∷ ts))

-- ---- `validate_identity_xpath`: the whole text

abbrev pub path_of : Kind → List Points → Tokenized → Option ℕ
path_of k ds (read ts) = validate_path k ds ts
path_of k ds (wrong n) = some n

unfoldable pub alternative : Kind → List Points → Points → Option ℕ
alternative k ds s = path_of k ds (tokenize 0 s)

abbrev pub first_of : Option ℕ → Option ℕ → Option ℕ
first_of none o = o
first_of (some k) o = some k

-- the alternatives in their order
unfoldable pub alternatives : Kind → List Points → List Points → Option ℕ
alternatives k ds [] = none
alternatives k ds (s ∷ ss) = first_of (alternative k ds s) (alternatives k ds ss)

-- one more character of the first piece
unfoldable pub on_front : ℕ → List Points → List Points
on_front c [] = (c ∷ []) ∷ []
on_front c (s ∷ ss) = (c ∷ s) ∷ ss

-- the pieces of a text between the characters d
unfoldable pub split_at : ℕ → Points → List Points
split_at d [] = [] ∷ []
split_at d (c ∷ s) = let r = split_at d s in cond (eqb c d) ([] ∷ r) (on_front c r)

-- THE ANSWER for a text of this kind, where these prefixes are declared: a reason's number, or none where it passes.
unfoldable pub reason : Kind → Points → List Points → Option ℕ
reason k s ds = cond (all xml_space s) (some X1-empty) (alternatives k ds (split_at (code "|") s))
