-- The parts of `decode` behind the definitions: what the areas hold, and what the two output stores hold.
-- Assumes nothing.
use Rattle.std.specs.Prelude.{ℕ, ◌<◌, ltb, length, ◌≡◌, Bool, true, ◌&&◌, List, map}
use Rattle.std.proofs.Math.Option.{some}
use Rattle.lists.specs.Lists.{all}
use Rattle.paths.specs.Reading.{on_some, every}
use Rattle.records.specs.Readers.{Bytes, reads}
use Rattle.session_spec.specs.Definitions.{Definitions, read_definitions, is_some, constraint_at}
use Rattle.session_spec.specs.Layout.{read_tu, read_rp, parts, name_in, ScopeRecord, Counts}
use Rattle.session_spec.specs.Session.{stage_of, depth_of, scopes_in, selections_in, tuples_in, reports_in}
use Rattle.open_scopes.specs.declared.Scope.{Scope}

-- ---- what reads

-- how many elements are open
abbrev pub depth_in : Counts → ℕ
depth_in c = depth_of (stage_of c.stage) c.stage

-- there are open names, open scopes and open selections, as many as are counted
unfoldable pub areas_read : Definitions → Counts → List ScopeRecord → (names cells : Bytes) → Bool
areas_read d c ss names cells =
    is_some (every name_in (parts 514 (depth_in c) names))
    && is_some (on_some (scopes_in d (depth_in c) c.opened ss) (λ os. selections_in os (depth_in c) (parts 512 c.selections cells)))

-- the used bytes are tuples, `most` at most, and reports
unfoldable pub stores_read : Definitions → (opened most : ℕ) → (tuples reports : Bytes) → Bool
stores_read d opened most tuples reports =
    is_some (on_some (reads read_tu tuples) (tuples_in d opened most)) && is_some (on_some (reads read_rp reports) (reports_in d))

-- ---- what an answer says, if there are definitions with so many constraints

abbrev pub AreasAre : (used : Bytes) → (constraints : ℕ) → Counts → List ScopeRecord → (names cells : Bytes) → Bool → Type 0
AreasAre used constraints c ss names cells r =
    (d : Definitions) → read_definitions used ≡ some d → constraints ≡ length d.ids → r ≡ areas_read d c ss names cells

abbrev pub StoresAre : (constraints opened most : ℕ) → (tuples reports : Bytes) → Bool → Type 0
StoresAre constraints opened most tuples reports r = (d : Definitions) → constraints ≡ length d.ids → r ≡ stores_read d opened most tuples reports

-- ---- how many fields, if the used bytes are definitions

-- `n` is how many the constraint with number k has, where one has this number
abbrev pub HasFields : (used : Bytes) → (k n : ℕ) → Type 0
HasFields used k n = (d : Definitions) → read_definitions used ≡ some d → k < length d.ids → n ≡ length (constraint_at d k).fields

-- those of the constraints of open scopes, one after the other
abbrev pub field_counts : Definitions → List Scope → List ℕ
field_counts d l = map (λ s. length (constraint_at d s.constraint).fields) l

abbrev pub all_defined : Definitions → List Scope → Bool
all_defined d l = all (λ s. ltb s.constraint (length d.ids)) l

abbrev pub HaveFields : (used : Bytes) → List Scope → List ℕ → Type 0
HaveFields used l ns = (d : Definitions) → read_definitions used ≡ some d → all_defined d l ≡ true → ns ≡ field_counts d l
