-- Computed: what code answers of the front of bytes says a record and the bytes behind it, or none; and which records stand in bytes.
-- Assumes nothing.
use Rattle.std.specs.Prelude.{◌≡◌, refl}
use mathlib.Core.List.{[], ◌∷◌, ◌++◌}
use Rattle.std.proofs.Math.Option.{none, some}
use Rattle.std.specs.declared.option.Option.TheVariants.{Some, None}
use denote.Ref.{Bor}
use Rattle.records.specs.Readers.{Bytes, on_read, ◌>>=◌, pass, read_byte, cons_on, read_bytes, on_whole, up_to}
use Rattle.session_spec.specs.Definitions.{frame}
use Rattle.output_stores.specs.Stores.{standing}
use Rattle.frames.specs.Frames.{parts}

-- a record of five bytes; one that states two bytes behind its head and has one
abbrev whole : Bytes
whole = 84 ∷ 85 ∷ 1 ∷ 0 ∷ 7 ∷ []

abbrev short : Bytes
short = 84 ∷ 85 ∷ 2 ∷ 0 ∷ 7 ∷ []

-- ---- what code answers

abbrev lent : Bytes → Bor Bytes
lent xs = record { ref_ptr = (0, 0); now = xs }

some-parts : parts (Some (lent whole, lent (9 ∷ []))) ≡ some (whole, 9 ∷ [])
some-parts = refl

no-parts : parts None ≡ none
no-parts = refl

-- ---- the record at the front

stated-one : frame (whole ++ (9 ∷ [])) ≡ some (whole, 9 ∷ [])
unfolding frame read_byte read_bytes cons_on ◌>>=◌ on_read pass
stated-one = refl

stated-two : frame short ≡ none
unfolding frame read_byte read_bytes cons_on ◌>>=◌ on_read pass
stated-two = refl

-- ---- the records

-- what is cut short at the end does not stand there
they-stand : standing frame (whole ++ (whole ++ short)) ≡ whole ∷ whole ∷ []
unfolding standing up_to on_whole frame read_byte read_bytes cons_on ◌>>=◌ on_read pass
they-stand = refl
