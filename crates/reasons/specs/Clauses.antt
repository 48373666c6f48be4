-- Computed: single clauses of the path checker, each on the smallest case that shows it.
-- Assumes nothing.
use Rattle.std.specs.Prelude.{◌≡◌, refl, true, false, List, [], ◌∷◌}
use Rattle.std.proofs.Math.Option.{none, some}
use Rattle.texts.specs.Texts.{same}
use Rattle.lists.specs.Lists.{all}
use Rattle.characters.specs.Ranges.{in_ranges}
use Rattle.characters.specs.Spaces.{xml_space}
use Rattle.characters.specs.Names.{start_ranges, name_start}
use Rattle.ncname.specs.NCName.{nc_name}
use Rattle.grammar.specs.Tokens.{Points}
use Rattle.grammar.specs.Tokens.NameTest.{star, any_in, local, qualified}
use Rattle.grammar.specs.Tokens.Token.{slash, slashes, at, name}
use Rattle.grammar.specs.Paths.{Kind, attribute, xml}
use Rattle.grammar.specs.Paths.Kind.{selector, field}
use Rattle.reasons.specs.Reasons.{X3-no-NCName, X4-dangling-colon, X6-empty-alternative, X7-descent-alone, X8-attribute-in-selector, X10-axis-not-allowed, X11-undeclared-prefix, X12-step, X13-trailing-slash, X14-separator, run_start, run, begins, found, fault, after_prefix, after_name, name_first, scan, tokenize, declares, test_declared, fails, takes, check_prefix, attribute_step, axis_step, step, start, separated, steps, descent, validate_path, alternative, first_of, alternatives, on_front, split_at, reason}

-- the name p
abbrev p : Points
p = 112 ∷ []

-- ---- words

-- U+A0 goes on with a run
no-break-space : run_start 0xA0 ≡ true
unfolding run_start in_ranges
no-break-space = refl

-- U+A0 alone: no empty text, and no name
no-break-space-alone : reason selector (0xA0 ∷ []) [] ≡ some X3-no-NCName
unfolding reason xml_space split_at on_front alternatives alternative tokenize scan name_first run_start in_ranges run nc_name name_start start_ranges
no-break-space-alone = refl

-- p::
name-before-two-colons : after_name p 0 (58 ∷ 58 ∷ []) ≡ found (name (local p)) 0
unfolding after_name begins
name-before-two-colons = refl

-- p: a
space-behind-colon : after_prefix p 0 (32 ∷ 97 ∷ []) ≡ fault X4-dangling-colon
unfolding after_prefix run_start in_ranges
space-behind-colon = refl

-- ---- prefixes

-- p:* where nothing is declared
undeclared : check_prefix [] (any_in p) (takes 0) ≡ fails X11-undeclared-prefix
unfolding check_prefix test_declared declares same
undeclared = refl

-- xml:p
xml-declared : test_declared [] (qualified xml p) ≡ true
unfolding test_declared declares same
xml-declared = refl

-- ---- steps

-- p::*
other-axis : axis_step selector [] (local p) star true ≡ fails X10-axis-not-allowed
unfolding same
other-axis = refl

-- attribute::* with something behind it
attribute-axis-before-last : axis_step field [] (local attribute) star false ≡ fails X10-axis-not-allowed
unfolding same
attribute-axis-before-last = refl

-- @*/ in a field
attribute-before-last : step field [] at (name star ∷ slash ∷ []) ≡ fails X12-step
unfolding step check_prefix test_declared
attribute-before-last = refl

-- @* in a selector, and @p:* with p not declared
attribute-in-selector : attribute_step selector [] (some star) true ≡ fails X8-attribute-in-selector
unfolding check_prefix test_declared
attribute-in-selector = refl

kind-before-prefix : attribute_step selector [] (some (any_in p)) true ≡ fails X8-attribute-in-selector
unfolding check_prefix test_declared declares same
kind-before-prefix = refl

-- '/' where a step should stand
slash-for-step : step selector [] slash [] ≡ fails X12-step
unfolding step
slash-for-step = refl

-- '//' and a name where '/' should stand
slashes-for-slash : separated slashes (λ n. none) ≡ some X14-separator
slashes-for-slash = refl

name-for-slash : separated (name star) (λ n. none) ≡ some X14-separator
name-for-slash = refl

-- ---- paths

-- nothing behind a '/', behind './/', and at all
nothing-behind-slash : steps selector [] start [] ≡ some X13-trailing-slash
unfolding steps
nothing-behind-slash = refl

nothing-behind-descent : descent selector [] [] ≡ some X7-descent-alone
unfolding descent
nothing-behind-descent = refl

nothing-at-all : validate_path selector [] [] ≡ some X6-empty-alternative
unfolding validate_path
nothing-at-all = refl

-- the first alternative's reason first
first-alternative-first : (k : Kind) (ds : List Points) (s r : Points) → alternatives k ds (s ∷ r ∷ [])
    ≡ first_of (alternative k ds s) (first_of (alternative k ds r) none)
unfolding alternatives
first-alternative-first k ds s r = refl
