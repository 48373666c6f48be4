-- What the code's answers about a path say, in the words of the reasons: what stands behind a step, how a path begins, and where an alternative ends.
-- Assumes nothing.
use Prim.Native.Char.{code}
use Rattle.std.specs.Prelude.{ℕ, suc, ◌+◌, eqb, length, ◌≡◌, cond, List, [], ◌∷◌}
use Rattle.std.proofs.Math.Option.{Option, none, some}
use denote.Ref.{Bor}
use Rattle.grammar.specs.Tokens.{Points}
use Rattle.grammar.specs.Paths.{Kind}
use Rattle.reasons.specs.Reasons.{start, within, steps, descent, validate_path, split_at}
use Rattle.std.specs.declared.option.Option as code
use Rattle.std.specs.declared.option.Option.TheVariants.{Some, None}
use Rattle.std.specs.declared.result.Result.{Result}
use Rattle.std.specs.declared.result.Result.TheVariants.{Ok, Err}
use Rattle.tokens.specs.declared.Reason.{Reason}
use Rattle.tokens.specs.Places.{number, tokens_in, EndOf}

-- ---- behind a step

-- how the steps go on there: the next one is right behind the '/'
abbrev pub behind_step : Kind → List Points → Result (code.Option (Bor Points)) Reason → Option ℕ
behind_step k ds (Ok None) = none
behind_step k ds (Ok (Some b)) = steps k ds start (tokens_in b.now)
behind_step k ds (Err j) = some (number j)

-- the '/' stands in the text, and what stands behind it is the end of that
abbrev pub SlashInside : Points → Result (code.Option (Bor Points)) Reason → Type 0
SlashInside s (Ok None) = Unit {0}
SlashInside s (Ok (Some b)) = EndOf s b.now
SlashInside s (Err j) = Unit {0}

pub record SeparatorIs (s : Points) (r : Result (code.Option (Bor Points)) Reason) : Type 0 where
  pub goes : (k : Kind) (ds : List Points) → steps k ds (within 0) (tokens_in s) ≡ behind_step k ds r
  pub inside : SlashInside s r

-- ---- how a path begins

abbrev pub begun : Kind → List Points → Points → Result (code.Option (Bor Points)) Reason → Option ℕ
begun k ds s (Ok None) = steps k ds start (tokens_in s)
begun k ds s (Ok (Some b)) = descent k ds (tokens_in b.now)
begun k ds s (Err j) = some (number j)

-- './/' stands in the text, and what stands behind it is the end of that
abbrev pub DescentInside : Points → Result (code.Option (Bor Points)) Reason → Type 0
DescentInside s (Ok None) = Unit {0}
DescentInside s (Ok (Some b)) = EndOf s b.now
DescentInside s (Err j) = Unit {0}

pub record BeginIs (s : Points) (r : Result (code.Option (Bor Points)) Reason) : Type 0 where
  pub goes : (k : Kind) (ds : List Points) → validate_path k ds (tokens_in s) ≡ begun k ds s r
  pub inside : DescentInside s r

-- ---- where an alternative ends

abbrev pub vertical_bar : ℕ
vertical_bar = code "|"

-- how many characters stand before the first d
unfoldable pub piece_length : ℕ → Points → ℕ
piece_length d [] = 0
piece_length d (c ∷ s) = cond (eqb c d) 0 (suc (piece_length d s))

-- a text cut at its first '|': the alternative before it, and the rest behind it
pub record BarAt (s first behind : Points) : Type 0 where
  pub pieces : split_at vertical_bar s ≡ first ∷ split_at vertical_bar behind
  pub front : length first ≡ piece_length vertical_bar s
  pub sizes : length first + 1 + length behind ≡ length s
