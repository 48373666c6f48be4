-- Computed: the first piece of a text, a text that is cut behind it, what stands behind a front, and parts by their name tests.
-- Assumes nothing.
use Prim.Native.String.{String}
use denote.Ref.{Bor}
use Rattle.std.specs.Prelude.{◌≡◌, refl, [], ◌∷◌, map}
use Rattle.std.specs.declared.option.Option.TheVariants.{Some, None}
use Rattle.std.proofs.Math.Option.{none, some}
use Rattle.texts.specs.Texts.{Text}
use Rattle.paths.specs.Reading.{on_front, split_at, attribute_part, self_part, child_part}
use Rattle.paths.specs.Examples.{codes}
use Rattle.path_pieces.specs.declared.Part.TheVariants.{Attribute, Itself, Child}
use Rattle.path_pieces.specs.Pieces.{piece_length, CutAt, standing, part_by, tested}

-- up to the first slash, and all of it where there is none
first_pieces : map (λ (s : String). piece_length 47 (codes s)) ("ab/c/d" ∷ "/a" ∷ "ab" ∷ "" ∷ []) ≡ 2 ∷ 0 ∷ 2 ∷ 0 ∷ []
unfolding piece_length codes
first_pieces = refl

-- at its first slash
cut-first : CutAt 47 (codes "ab/c/d") (codes "ab") (codes "c/d")
unfolding codes on_front split_at
cut-first = record { pieces = refl; sizes = refl }

-- ---- what code answers by a part of a text

abbrev lent : Text → Bor Text
lent t = record { ref_ptr = (0, 0); now = t }

stands : map standing (Some (lent (codes "id")) ∷ None ∷ []) ≡ some (codes "id") ∷ none ∷ []
unfolding codes
stands = refl

attribute-behind : part_by (Attribute (lent (codes "id"))) ≡ attribute_part (codes "id")
unfolding codes
attribute-behind = refl

child-behind : part_by (Child (lent (codes "a"))) ≡ child_part (codes "a")
unfolding codes
child-behind = refl

itself : part_by Itself ≡ self_part
itself = refl

tests : map tested (Attribute (lent (codes "id")) ∷ Itself ∷ Child (lent (codes "a")) ∷ []) ≡ codes "id" ∷ [] ∷ codes "a" ∷ []
unfolding codes
tests = refl
