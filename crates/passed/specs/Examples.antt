-- Computed: texts that the reader reads though the checker gives a reason, and what white space does that is not XML's.
-- Assumes nothing.
use Rattle.std.specs.Prelude.{ℕ, ◌≡◌, refl, List, [], ◌∷◌, ◌++◌, map}
use Prim.Native.String.{String}
use Rattle.std.proofs.Math.Option.{none, some}
use Rattle.texts.specs.Texts.{Text}
use Rattle.grammar.specs.Paths.{Kind}
use Rattle.paths.specs.Reading.{WrittenTest}
use Rattle.paths.specs.Examples.{codes}
use Rattle.passed.specs.PCases.{judged, checker_and_reader, X, read_as, name, pre, unread}

-- ---- the reader passes more than the checker

-- a text, the checker's reason where no prefix is declared, and the step that the reader takes it for
abbrev Row : Type 0
Row = String × ℕ × WrittenTest

abbrev more : List Row
more =
    (":a", 2, pre "" "a") ∷ ("a b", 14, name "ab") ∷ ("*:a", 2, pre "*" "a") ∷ ("p:a", 11, pre "p" "a") ∷ ("a : b", 2, pre "a" "b")
    ∷ ("xml: a", 4, pre "xml" "a") ∷ ("ch ild::a", 14, name "a") ∷ ("child:::a", 2, pre "" "a") ∷ ("child::p:a", 11, pre "p" "a") ∷ []

-- of either kind
more-is-read : (k : Kind) → map (λ (r : Row). checker_and_reader k (codes r.0)) more ≡ map (λ (r : Row). judged (X r.1) (read_as r.2)) more
unfolding checker_and_reader
more-is-read k = refl

-- U+B7 starts no NCName
no-name-is-read : (k : Kind) → checker_and_reader k (0xC2 ∷ 0xB7 ∷ []) ≡ judged (X 3) (read_as (record { prefix = none; local = some (0xC2 ∷ 0xB7 ∷ []) }))
unfolding checker_and_reader
no-name-is-read k = refl

-- ---- other white space of Unicode is an ordinary character: U+1680 is one of names to both, U+A0 to the reader alone, and a line tabulation to neither

-- a, the character and b
abbrev around : Text → Text
around c = 97 ∷ (c ++ (98 ∷ []))

other-space : (k : Kind) → map (checker_and_reader k) (around (0xE1 ∷ 0x9A ∷ 0x80 ∷ []) ∷ around (0xC2 ∷ 0xA0 ∷ []) ∷ around (0xB ∷ []) ∷ [])
    ≡ judged none (read_as (record { prefix = none; local = some (around (0xE1 ∷ 0x9A ∷ 0x80 ∷ [])) }))
    ∷ judged (X 3) (read_as (record { prefix = none; local = some (around (0xC2 ∷ 0xA0 ∷ [])) }))
    ∷ judged (X 5) unread ∷ []
unfolding checker_and_reader
other-space k = refl
