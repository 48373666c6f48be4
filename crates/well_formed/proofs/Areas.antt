-- The areas and the output stores, test after test. The scopes that fit are those that are put back, so that their records rise and the counts of their
-- fields are those of the definitions.
-- Assumes nothing.
use Prim.Native.Nat.{ℕ}
use lib.Dec.{leb, ltb}
use lib.ListN.{length, take}
use mathlib.Core.Path.{◌≡◌, refl, ap, sym, ◌∙◌}
use mathlib.Core.Bool.{Bool, true, false, ◌&&◌}
use mathlib.Core.List.{List, [], ◌∷◌, map}
use mathlib.Core.Option.{some}
use Rattle.std.proofs.lemmas.Bool.{and_parts}
use Rattle.lists.specs.Lists.{all}
use Rattle.lists.proofs.Places.{each_of}
use Rattle.paths.specs.Reading.{on_some, every}
use Rattle.machine.specs.Machine.{OpenScope}
use Rattle.records.specs.Readers.{Bytes, reads}
use Rattle.session_spec.specs.Definitions.{Definitions, read_definitions, is_some, constraint_at}
use Rattle.session_spec.specs.Layout.{read_tu, read_rp, parts, name_in, ScopeRecord, put_scope, scope_in, Counts}
use Rattle.session_spec.specs.Session.{scope_fits, rising, scopes_in, selections_in, tuples_in, reports_in}
use Rattle.open_scopes.specs.declared.Scope.{Scope}
use Rattle.open_scopes.specs.declared.Scopes.{Scopes}
use Rattle.open_scopes.specs.OpenScopes.{record_of, open_of, records_of, scopes_fit}
use Rattle.open_scopes.proofs.Fitting.{scopes-fit, scopes-in}
use Rattle.output_stores.specs.Stores.{reads_as}
use Rattle.reports.specs.Reports as reported
use Rattle.reports.proofs.Sessions.{reports-decode}
use Rattle.selections.specs.Selections.{homes, selections_fit}
use Rattle.selections.proofs.Decoded.{selections-decode}
use Rattle.tuples.specs.Tuples.{tuples_fit}
use Rattle.tuples.proofs.Sessions.{tuples-decode}
use Rattle.runs.proofs.Pieces.{scopes-same}
use Rattle.well_formed.specs.Parts.{depth_in, areas_read, stores_read, AreasAre, StoresAre, HaveFields, field_counts, all_defined}

-- ---- one test behind the other

module _ (d : Definitions) (c : Counts) (ss : List ScopeRecord) (names cells : Bytes) where
  names-unread : false ≡ is_some (every name_in (parts 514 (depth_in c) names)) → false ≡ areas_read d c ss names cells
  unfolding areas_read
  names-unread e = rw (← e)

  fit-or-not : (b : Bool) → b ≡ scopes_fit (length d.ids) (depth_in c) c.opened ss
      → is_some (on_some (scopes_in d (depth_in c) c.opened ss) (λ os. selections_in os (depth_in c) (parts 512 c.selections cells)))
      ≡ (b && is_some (selections_in (map (scope_in d) ss) (depth_in c) (parts 512 c.selections cells)))
  unfolding on_some is_some
  fit-or-not true e = rw (scopes-in d (depth_in c) c.opened ss, ← e)
  fit-or-not false e = rw (scopes-in d (depth_in c) c.opened ss, ← e)

  scopes-unfit : true ≡ is_some (every name_in (parts 514 (depth_in c) names)) → false ≡ scopes_fit (length d.ids) (depth_in c) c.opened ss → false ≡ areas_read d c ss names cells
  unfolding areas_read
  scopes-unfit e f = rw (← e) (sym (fit-or-not false f))

  then-selections : (r : Bool) → true ≡ is_some (every name_in (parts 514 (depth_in c) names)) → true ≡ scopes_fit (length d.ids) (depth_in c) c.opened ss
      → r ≡ is_some (selections_in (map (scope_in d) ss) (depth_in c) (parts 512 c.selections cells)) → r ≡ areas_read d c ss names cells
  unfolding areas_read
  then-selections r e f g = rw (← e) (g ∙ sym (fit-or-not true f))

module _ (d : Definitions) (opened most : ℕ) (tuples reports : Bytes) where
  tuples-unread : false ≡ is_some (on_some (reads read_tu tuples) (tuples_in d opened most)) → false ≡ stores_read d opened most tuples reports
  unfolding stores_read
  tuples-unread e = rw (← e)

  then-reports : (r : Bool) → true ≡ is_some (on_some (reads read_tu tuples) (tuples_in d opened most)) → r ≡ is_some (on_some (reads read_rp reports) (reports_in d))
      → r ≡ stores_read d opened most tuples reports
  unfolding stores_read
  then-reports r e f = rw (← e) f

-- ---- scopes that fit

abbrev fields_in : OpenScope → ℕ
fields_in o = length o.scope.constraint.fields

module _ (d : Definitions) where
  -- their constraints are defined
  among : (depth opened : ℕ) (l : List Scope) → all (scope_fits d depth opened) (map record_of l) ≡ true → all_defined d l ≡ true
  unfolding scope_fits
  among depth opened [] h = refl
  among depth opened (s ∷ l) h =
      let p = and_parts (scope_fits d depth opened (record_of s)) (all (scope_fits d depth opened) (map record_of l)) h in
      let q = and_parts (ltb s.constraint (length d.ids)) (leb s.depth depth && leb s.number opened) p.0 in
      rw q.0 (among depth opened l p.1)

  -- the counts of their fields
  counted : (l : List Scope) → field_counts d l ≡ map fields_in (map (scope_in d) (map record_of l))
  unfolding scope_in
  counted [] = refl
  counted (s ∷ l) = ap (λ (z : List ℕ). length (constraint_at d s.constraint).fields ∷ z) (counted l)

module _ (d : Definitions) (depth opened : ℕ) (l : List Scope) (fit : true ≡ scopes_fit (length d.ids) depth opened (map record_of l)) where
  each-and-rising : (all (scope_fits d depth opened) (map record_of l) ≡ true) × (rising 0 1 (map record_of l) ≡ true)
  each-and-rising = and_parts (all (scope_fits d depth opened) (map record_of l)) (rising 0 1 (map record_of l)) (sym (scopes-fit d depth opened (map record_of l)) ∙ sym fit)

  -- their records, read and put back
  put_back : map put_scope (map (scope_in d) (map record_of l)) ≡ map record_of l
  put_back = scopes-same d depth opened (map record_of l) (each_of (scope_fits d depth opened) (map record_of l) each-and-rising.0)

  -- the test of the selections by these records and counts
  selections-said : (used : Bytes) (fields : List ℕ) → read_definitions used ≡ some d → HaveFields used l fields → (n : ℕ) (cells : Bytes)
      → selections_fit (homes (map record_of l) fields) depth (parts 512 n cells) ≡ is_some (selections_in (map (scope_in d) (map record_of l)) depth (parts 512 n cells))
  selections-said used fields e h n cells =
      let f : fields ≡ map fields_in (map (scope_in d) (map record_of l)) = h d e (among d depth opened l each-and-rising.0) ∙ counted d l in
      let rise : rising 0 1 (map put_scope (map (scope_in d) (map record_of l))) ≡ true = ap (rising 0 1) put_back ∙ each-and-rising.1 in
      sym (selections-decode (map (scope_in d) (map record_of l)) fields depth n cells rise f
      ∙ ap (λ (z : List ScopeRecord). selections_fit (homes z fields) depth (parts 512 n cells)) put_back)

-- ---- what `areas_read` answers

module _ (c : Counts) (depth : ℕ) (p : depth ≡ depth_in c) (constraints : ℕ) (scopes : Scopes) (used names cells : Bytes) where
  pub no_names : false ≡ is_some (every name_in (parts 514 depth names)) → AreasAre used constraints c (records_of scopes) names cells false
  no_names f d e q = names-unread d c (records_of scopes) names cells (rw p at f)

  module _ (f : true ≡ is_some (every name_in (parts 514 depth names))) where
    pub no-scopes : false ≡ scopes_fit constraints depth c.opened (records_of scopes) → AreasAre used constraints c (records_of scopes) names cells false
    no-scopes g d e q = scopes-unfit d c (records_of scopes) names cells (rw p at f) (rw (p, q) at g)

    pub all-selections : (r : Bool) (counts : List ℕ) (end : ℕ) → end ≡ length (open_of scopes) → true ≡ scopes_fit constraints depth c.opened (records_of scopes)
        → HaveFields used (open_of scopes) (take (length (open_of scopes)) counts)
        → r ≡ selections_fit (homes (records_of scopes) (take end counts)) depth (parts 512 c.selections cells) → AreasAre used constraints c (records_of scopes) names cells r
    unfolding records_of
    all-selections r counts end n g h k d e q =
        then-selections d c (records_of scopes) names cells r (rw p at f) (rw (p, q) at g)
        (rw (← p)
        (k ∙ ap (λ (z : ℕ). selections_fit (homes (records_of scopes) (take z counts)) depth (parts 512 c.selections cells)) n
        ∙ selections-said d depth c.opened (open_of scopes) (rw q at g) used (take (length (open_of scopes)) counts) e h c.selections cells))

-- ---- what `stores_read` answers

module _ (tuples reports : Bytes) (constraints opened most : ℕ) where
  pub no-tuples : false ≡ reads_as read_tu (tuples_fit constraints opened most) tuples → StoresAre constraints opened most tuples reports false
  no-tuples f d q = tuples-unread d opened most tuples reports (rw q at f ∙ sym (tuples-decode d opened most tuples))

  pub all-reports : true ≡ reads_as read_tu (tuples_fit constraints opened most) tuples → (r : Bool) → r ≡ reads_as read_rp (reported.all_defined constraints) reports → StoresAre constraints opened most tuples reports r
  all-reports f r g d q =
      then-reports d opened most tuples reports r (rw q at f ∙ sym (tuples-decode d opened most tuples)) (rw q at g ∙ sym (reports-decode d reports))
