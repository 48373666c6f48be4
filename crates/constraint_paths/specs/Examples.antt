-- Computed: which constraints read, and what a selector takes, from the texts of the paths.
-- Assumes nothing.
use Prim.Native.String.{String}
use Rattle.std.specs.Prelude.{◌≡◌, refl, true, false, List, [], ◌∷◌, map}
use Rattle.std.proofs.Math.Option.{none}
use Rattle.texts.specs.Texts.{same}
use Rattle.paths.specs.Names.{Name}
use Rattle.paths.specs.Matching.{space_fits, local_fits, fits, fit_all, fit_last, matches}
use Rattle.paths.specs.Reading.{on_some, resolved, step_path_of}
use Rattle.paths.specs.Examples.{codes, read}
use Rattle.records.specs.Records.{IdRecord}
use Rattle.session_spec.specs.Definitions.{is_some, or_none}
use Rattle.constraint_paths.specs.Paths.{all_read, taken}

abbrev constraint : String → List String → IdRecord
constraint selector fields = record { kind = 0; name = []; flag = 0; refer = none; selector = codes selector; fields = map codes fields }

-- selector and fields, all of them
all-of-them : map all_read (constraint "a" ("@b" ∷ "c" ∷ []) ∷ constraint "a" ("@b" ∷ "c[" ∷ []) ∷ constraint "a" ("@b[" ∷ "c" ∷ []) ∷ constraint "@a" ("@b" ∷ []) ∷ [])
    ≡ true ∷ false ∷ false ∷ false ∷ []
unfolding read is_some all_read
all-of-them = refl

-- the element `a` below the one that lists the constraint
abbrev below : List Name
below = record { space = []; local = codes "a" } ∷ []

-- one alternative is enough, and one is needed; a selector that does not read takes nothing
one-of-them : map (λ (s : String). taken (λ p. none) (constraint s []) below) ("a" ∷ "b|a" ∷ "b|c" ∷ "a[" ∷ []) ≡ true ∷ true ∷ false ∷ false ∷ []
unfolding read same space_fits local_fits fits fit_all fit_last matches on_some resolved step_path_of or_none taken
one-of-them = refl
