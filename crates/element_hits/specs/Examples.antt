-- Computed: the end of the element b in `r/a/b`, with a selection on each of the three open elements; what a field reaches by its text; where its numbers stand.
-- Assumes nothing.
use Rattle.std.specs.Prelude.{ℕ, length, get_or, replicate, ◌≡◌, refl, Bool, true, false, List, [], ◌∷◌, map}
use Rattle.std.proofs.Common.{arith}
use Rattle.std.proofs.Math.Option.{none, some}
use Rattle.texts.specs.Texts.{Text, same}
use Rattle.paths.specs.Names.{Name}
use Rattle.paths.specs.Matching.{NameTest, FieldAlt, space_fits, local_fits, fits, fit_all, fit_last, matches}
use Rattle.paths.specs.Reading.{on_some, resolved, step_path_of, field_alt_of}
use Rattle.paths.specs.Examples.{codes, read}
use Rattle.tree.specs.Events.{key}
use Rattle.tree.specs.Cells.{ends_at, reaches, reach}
use Rattle.machine.specs.Machine.{OpenScope, Selection}
use Rattle.records.specs.Readers.{Bytes}
use Rattle.session_spec.specs.Definitions.{Definitions, or_none}
use Rattle.session_spec.specs.Layout.{parts}
use Rattle.matching.specs.Matched.{names_below}
use Rattle.open_scopes.specs.declared.Scopes.{Scopes}
use Rattle.element_hits.specs.ElementHits.{hits_of, hits_at, Described, HitsOf}
use Rattle.element_hits.specs.Rows.{reach_of}

-- r, a and b without a namespace, outermost first
abbrev open-names : List Name
open-names = map (λ (c : ℕ). record { space = []; local = c ∷ [] }) (114 ∷ 97 ∷ 98 ∷ [])

abbrev step : ℕ → NameTest
step c = record { ns = none; local = some (c ∷ []) }

-- an alternative that ends at an element, and `@x`
abbrev ending : Bool → List NameTest → FieldAlt
ending d ts = record { path = record { descendant = d; steps = ts }; attr = none }

abbrev at_x : FieldAlt
at_x = record { path = record { descendant = false; steps = [] }; attr = some (some (120 ∷ [])) }

-- on the element at this depth, with these fields
abbrev on : ℕ → List (List FieldAlt) → Selection
on d fs =
    record {
      scope = record { number = 1; constraint = record { number = 0; name = []; kind = key; refer = none; selector = []; fields = fs } };
      depth = d;
      cells = [];
    }

-- on r: `a/b|.//b|b` and `.//a`; on a: `b`, `.` and `a/b`; on b: `@x|.` and `@x`
abbrev selections : List Selection
selections =
    on 1 ((ending false (step 97 ∷ step 98 ∷ []) ∷ ending true (step 98 ∷ []) ∷ ending false (step 98 ∷ []) ∷ []) ∷ (ending true (step 97 ∷ []) ∷ []) ∷ [])
    ∷ on 2 ((ending false (step 98 ∷ []) ∷ []) ∷ (ending false [] ∷ []) ∷ (ending false (step 97 ∷ step 98 ∷ []) ∷ []) ∷ [])
    ∷ on 3 ((at_x ∷ ending false [] ∷ []) ∷ (at_x ∷ []) ∷ [])
    ∷ []

-- An element that several alternatives reach is one hit, the names begin below the selected element, an element is no
-- attribute, and what is not there has no hit.
field-by-field : map (λ (f : ℕ). map (hits_at open-names selections f) (0 ∷ 1 ∷ 2 ∷ 3 ∷ [])) (0 ∷ 1 ∷ 2 ∷ 3 ∷ [])
    ≡ (1 ∷ 1 ∷ 1 ∷ 0 ∷ []) ∷ (0 ∷ 0 ∷ 0 ∷ 0 ∷ []) ∷ (0 ∷ 0 ∷ 0 ∷ 0 ∷ []) ∷ (0 ∷ 0 ∷ 0 ∷ 0 ∷ []) ∷ []
unfolding hits_at hits_of reach reaches ends_at matches fit_all fit_last fits space_fits local_fits same
field-by-field = refl

-- ---- a field by its text

-- the selected element itself: one hit where some alternative is `.`, and no attribute
by-its-text : map (λ (t : Text). reach_of (λ p. none) t [] 0 0) (codes "." ∷ codes ".|./." ∷ codes "@x" ∷ codes "@x|." ∷ codes ".[" ∷ []) ≡ 1 ∷ 1 ∷ 0 ∷ 1 ∷ 0 ∷ []
unfolding read parts names_below hits_of reach reaches ends_at matches fit_all fit_last on_some resolved step_path_of field_alt_of or_none reach_of
by-its-text = refl

-- ---- where the numbers stand, and what there has to be

module _ (cells : Bytes) (n : ℕ) (scopes : Scopes) (names : Bytes) (depth : ℕ) (defs : Bytes) (d : Definitions) (nm : List Name) (os : List OpenScope) (ss : List Selection) where
  -- the numbers of field 1 begin at 32
  second-row : (before r after : Bytes) → HitsOf cells n scopes names depth defs before r after → Described cells n scopes names depth defs before d nm os ss
      → get_or r 32 0 ≡ hits_at nm ss 1 0
  second-row before r after h w = h.says d nm os ss w 1 0 (omega arith) (omega arith)

  -- an area of 1,023 bytes is too short
  short-area : Described cells n scopes names depth defs (replicate 1023 0) d nm os ss → ⊥
  short-area w = let e : length {A = ℕ} (replicate 1023 0) ≡ 1023 = refl in omega (arith, w.room)
