-- What a selection comes to when its element ends.
-- Assumes nothing.
use Rattle.std.specs.Prelude.{ℕ, zero, suc, ◌+◌, ◌*◌, min, get_or, Bool, true, false, cond, List, [], ◌∷◌}
use Rattle.std.proofs.Math.Option.{Option, none, some}
use Rattle.lists.specs.Lists.{foldl, only_if, part}
use Rattle.texts.specs.Texts.{Text}
use Rattle.tree.specs.Events.{Kind, unique, key, keyref, Scope}
use Rattle.tree.specs.Cells.{Hit}
use Rattle.tree.specs.Judge.{Report, Outcome, several_nodes, no_simple_value, missing, on_nillable, complete, against, tuple_of}
use Rattle.records.specs.Readers.{Bytes}
use Rattle.session_spec.specs.Definitions.{frame}
use Rattle.session_spec.specs.Layout.{pad}
use Rattle.cells.specs.Cells.{hit_at}
use Rattle.output_stores.specs.Stores.{standing}
use Rattle.tuple_search.specs.Search.{tail_bytes, first_with}
use Rattle.runs.proofs.TwoPass.{Added}
use Rattle.settlements.specs.declared.Told as code
use Rattle.settlements.specs.declared.ReportKind.{ReportKind}
use Rattle.settlements.specs.declared.ReportKind.TheVariants.{Several, NotSimple, Missing, Duplicate, Nillable}
use Rattle.settlements.specs.declared.ConstraintKind.{ConstraintKind}
use Rattle.settlements.specs.declared.ConstraintKind.TheVariants.{Unique, Key, Keyref}
use Rattle.settlements.specs.declared.Settled.{Settled}
use Rattle.settlements.specs.declared.Settled.TheVariants.{Nothing, Kept, Reported}

-- ---- its bytes

-- field f of selection j is hit as often as number 32 f + j of the counts says
abbrev pub count_for : (counts : Bytes) → (j field : ℕ) → ℕ
count_for counts j f = get_or counts (32 * f + j) 0

-- the bytes of selection j after the hits, one field after the other; where the area is short, zeros stand for what is
-- missing
unfoldable pub fed_bytes : Hit → (counts : Bytes) → (j : ℕ) → (cells : Bytes) → Bytes
fed_bytes h counts j cells = foldl (λ b f. hit_at h (128 * f) (count_for counts j f) b) (pad 512 (part cells (512 * j) 512)) (0 ∷ 1 ∷ 2 ∷ 3 ∷ [])

-- ---- what one comes to

-- a report's kind, field index and tuple number, as document 01 numbers them
pub record Told : Type 0 where
  pub kind : ℕ
  pub field : ℕ
  pub tuple : ℕ

-- the number of a kind
abbrev pub number_of : ReportKind → ℕ
number_of Several = 1
number_of NotSimple = 2
number_of Missing = 3
number_of Duplicate = 4
number_of Nillable = 7

-- what is told, by numbers
abbrev pub told_of : code.Told → Told
told_of t = record { kind = t.kind; field = t.field; tuple = t.tuple }

-- whether its tuple is kept; and the report on it
pub record Settlement : Type 0 where
  pub keeps : Bool
  pub report : Option Told

abbrev pub nothing : Settlement
nothing = record { keeps = false; report = none }

abbrev pub kept : Settlement
kept = record { keeps = true; report = none }

abbrev pub told : (kind field tuple : ℕ) → Settlement
told k f t = record { keeps = false; report = some (record { kind = k; field = f; tuple = t }) }

-- WHAT EACH CASE of the code's answer is
abbrev pub settlement_of : Settled → Settlement
settlement_of Nothing = nothing
settlement_of Kept = kept
settlement_of (Reported t) = told t.kind t.field t.tuple

-- a tuple of its scope with the same keys has this number, or there is none: 0
unfoldable pub found_or : (number : ℕ) → Settlement
found_or zero = kept
found_or (suc n) = told 4 0 (min (suc n) 4294967295)

-- every field is Set: unique and key go by what is found, a keyref's tuple is kept if refer is present
unfoldable pub complete_by : Kind → (referred : Bool) → (number : ℕ) → Settlement
complete_by unique r n = found_or n
complete_by key r n = found_or n
complete_by keyref r n = cond r kept nothing

-- field i is the lowest that is Unset: kind 3 for key only
unfoldable pub missing_by : Kind → (i : ℕ) → Settlement
missing_by unique i = nothing
missing_by key i = told 3 i 0
missing_by keyref i = nothing

-- every field is Set, and field i is the lowest on a nillable element: kind 7 for key only, and no tuple
unfoldable pub nillable_by : Kind → (referred : Bool) → (i number : ℕ) → Settlement
nillable_by unique r i n = complete_by unique r n
nillable_by key r i n = told 7 i 0
nillable_by keyref r i n = complete_by keyref r n

-- by the bytes of a tuple store
unfoldable pub settled_by : Kind → (referred : Bool) → (scope : ℕ) → (used : Bytes) → Outcome → Settlement
settled_by k r s used several_nodes = told 1 0 0
settled_by k r s used no_simple_value = told 2 0 0
settled_by k r s used (missing i) = missing_by k i
settled_by k r s used (on_nillable i ks) = nillable_by k r i (first_with (tail_bytes s ks) (standing frame used))
settled_by k r s used (complete ks) = complete_by k r (first_with (tail_bytes s ks) (standing frame used))

-- the kind of its constraint, as code has it
abbrev pub kind_in : ConstraintKind → Kind
kind_in Unique = unique
kind_in Key = key
kind_in Keyref = keyref

-- ---- what it adds

unfoldable pub reports_of : Option Told → (event : ℕ) → Scope → List Report
reports_of none e s = []
reports_of (some t) e s = against e s t.kind t.field t.tuple ∷ []

-- WHAT IT ADDS: of a selection of this scope with these keys, at the event with this number
unfoldable pub added_of : Settlement → (event : ℕ) → Scope → List Text → Added
added_of r e s ks =
    record {
      tuples = only_if r.keeps (tuple_of s ks ∷ []);
      reports = reports_of r.report e s;
    }
