-- Computed: the white space that stands first, the numbers of the reasons, the tokens of the code's, the end of a text, and the reason of an answer.
-- Assumes nothing.
use Rattle.std.proofs.Common.{arith}
use Rattle.std.specs.Prelude.{◌≡◌, refl, List, [], ◌∷◌, map}
use Rattle.std.proofs.Math.Option.{none, some}
use Rattle.characters.specs.Spaces.{xml_space}
use Rattle.std.specs.declared.result.Result.{Result}
use Rattle.std.specs.declared.result.Result.TheVariants.{Ok, Err}
use Rattle.tokens.specs.declared.Reason.{Reason}
use Rattle.tokens.specs.declared.Reason.TheVariants.{EmptyPath, StrayColon, NoNCName, DanglingColon, Character, EmptyAlternative, DescentAlone, AttributeInSelector, AxisNoPlainName, AxisNotAllowed, UndeclaredPrefix, Step, TrailingSlash, Separator}
use denote.Ref.{Bor}
use Rattle.grammar.specs.Tokens.{Points}
use Rattle.grammar.specs.Tokens.NameTest.{star, any_in, local, qualified}
use Rattle.grammar.specs.Tokens.Token.{slashes, name}
use Rattle.tokens.specs.declared.NameTest.TheVariants.{Star, PrefixStar, Local, Prefixed}
use Rattle.tokens.specs.declared.Tok.TheVariants.{DoubleSlash, Name}
use Rattle.tokens.specs.Places.{gap_length, number, token_of, EndOf, reason_of}

-- nothing; a; a space, a tab and a; two spaces
gaps : map gap_length ([] ∷ (0x61 ∷ []) ∷ (0x20 ∷ 0x9 ∷ 0x61 ∷ []) ∷ (0x20 ∷ 0x20 ∷ []) ∷ []) ≡ 0 ∷ 0 ∷ 2 ∷ 2 ∷ []
unfolding gap_length xml_space
gaps = refl

numbers : map number
    (EmptyPath ∷ StrayColon ∷ NoNCName ∷ DanglingColon ∷ Character ∷ EmptyAlternative ∷ DescentAlone ∷ AttributeInSelector ∷ AxisNoPlainName
    ∷ AxisNotAllowed ∷ UndeclaredPrefix ∷ Step ∷ TrailingSlash ∷ Separator ∷ [])
    ≡ 1 ∷ 2 ∷ 3 ∷ 4 ∷ 5 ∷ 6 ∷ 7 ∷ 8 ∷ 9 ∷ 10 ∷ 11 ∷ 12 ∷ 13 ∷ 14 ∷ []
numbers = refl

abbrev lent : Points → Bor Points
lent s = record { ref_ptr = (0, 0); now = s }

-- '//', '*', 'a:*', 'a' and 'a:b'
tokens : map token_of (DoubleSlash ∷ Name Star ∷ Name (PrefixStar (lent (0x61 ∷ []))) ∷ Name (Local (lent (0x61 ∷ []))) ∷ Name (Prefixed (lent (0x61 ∷ [])) (lent (0x62 ∷ []))) ∷ [])
    ≡ slashes ∷ name star ∷ name (any_in (0x61 ∷ [])) ∷ name (local (0x61 ∷ [])) ∷ name (qualified (0x61 ∷ []) (0x62 ∷ [])) ∷ []
tokens = refl

-- '/a' stands at the end of 'b/a'
end-behind : EndOf (0x62 ∷ 0x2F ∷ 0x61 ∷ []) (0x2F ∷ 0x61 ∷ [])
end-behind = (omega arith, refl)

-- an answer with no value
abbrev Answer : Type 0
Answer = Result (Unit {0}) Reason

abbrev answers : List Answer
answers = Ok tt ∷ Err Character ∷ []

reasons : map reason_of answers ≡ none ∷ some 5 ∷ []
reasons = refl
