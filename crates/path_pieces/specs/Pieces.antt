-- What is asked of a path's text: how long its first piece is, what stands before and behind the first mark, and what a part between slashes is.
-- Assumes nothing.
use Rattle.std.specs.Prelude.{ℕ, suc, ◌+◌, ◌≤◌, eqb, length, ◌≡◌, cond, [], ◌∷◌}
use Rattle.std.specs.declared.option.Option as code
use Rattle.std.specs.declared.option.Option.TheVariants.{Some, None}
use Rattle.std.proofs.Math.Option.{Option, none, some}
use denote.Ref.{Bor}
use Rattle.texts.specs.Texts.{Text}
use Rattle.paths.specs.Reading as reading
use Rattle.paths.specs.Reading.{attribute_part, self_part, child_part, split_at, as_part}
use Rattle.path_pieces.specs.declared.Part.{Part}
use Rattle.path_pieces.specs.declared.Part.TheVariants.{Attribute, Itself, Child}

-- how many bytes stand before the first c; all of them where there is none
unfoldable pub piece_length : ℕ → Text → ℕ
piece_length c [] = 0
piece_length c (x ∷ xs) = cond (eqb x c) 0 (suc (piece_length c xs))

-- a text cut at its first c: the piece before it, and the rest behind it
pub record CutAt (c : ℕ) (s piece rest : Text) : Type 0 where
  pub pieces : split_at c s ≡ piece ∷ split_at c rest
  pub sizes : length piece + 1 + length rest ≡ length s

-- what stands behind a text's front, as it is answered
abbrev pub standing : code.Option (Bor Text) → Option Text
standing None = none
standing (Some r) = some r.now

-- a part, by its name test
abbrev pub part_by : Part → reading.Part
part_by (Attribute n) = attribute_part n.now
part_by Itself = self_part
part_by (Child n) = child_part n.now

abbrev pub tested : Part → Text
tested (Attribute n) = n.now
tested Itself = []
tested (Child n) = n.now

pub record PartOf (t : Text) (r : Part) : Type 0 where
  pub reads : as_part t ≡ part_by r
  pub inside : length (tested r) ≤ length t
