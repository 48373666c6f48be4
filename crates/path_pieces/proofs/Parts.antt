-- What a part is, by how it begins: a law for each way in which `as_part` answers.
-- Assumes nothing.
use native.Mathlib.Omega.{arith}
use denote.Ref.{Bor}
use mathlib.Core.Path.{◌≡◌}
use mathlib.Core.Bool.{true, false}
use mathlib.Core.List.{[], ◌∷◌}
use mathlib.Core.Option.{none, some}
use Rattle.std.specs.Option.{unwrap_or}
use Rattle.std.specs.declared.option.Option as code
use Rattle.std.specs.declared.option.Option.TheVariants.{Some, None}
use Rattle.texts.specs.Texts.{Text, same}
use Rattle.paths.specs.Reading.{or_else, behind, attribute_axis, child_axis, element_part, part_of, as_part}
use Rattle.path_pieces.specs.declared.Part.TheVariants.{Attribute, Itself, Child}
use Rattle.path_pieces.specs.Pieces.{standing, PartOf}
use Rattle.path_pieces.proofs.Pieces.{behind-length}

module _ (t : Text) where
  pub part_at : (u : Bor Text) → some u.now ≡ behind (64 ∷ []) t → PartOf t (Attribute u)
  unfolding as_part part_of or_else
  part_at u e = let k = behind-length (64 ∷ []) t u.now e in record { reads = rw (← e); inside = omega arith }

  module _ (a : none ≡ behind (64 ∷ []) t) where
    pub part-attribute : (u : Bor Text) → some u.now ≡ behind attribute_axis t → PartOf t (Attribute u)
    unfolding as_part part_of or_else
    part-attribute u e = let k = behind-length attribute_axis t u.now e in record { reads = rw (← a, ← e); inside = omega arith }

    module _ (b : none ≡ behind attribute_axis t) where
      pub part-self : same t (46 ∷ []) ≡ true → PartOf t Itself
      unfolding as_part part_of or_else
      part-self e = record { reads = rw (← a, ← b, e); inside = omega arith }

      pub part-child : same t (46 ∷ []) ≡ false → (o : code.Option (Bor Text)) (w u : Bor Text) → standing o ≡ behind child_axis t → w.now ≡ t → u ≡ unwrap_or o w → PartOf t (Child u)
      unfolding as_part part_of or_else element_part
      part-child f None w u d g e = record { reads = rw (← a, ← b, f, ← d, e, g); inside = rw (e, g) (omega arith) }
      part-child f (Some v) w u d g e = let k = behind-length child_axis t v.now d in record { reads = rw (← a, ← b, f, ← d, e); inside = rw e (omega arith) }
