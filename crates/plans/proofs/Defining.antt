-- `step` on an ID or NS: before the first ES nothing is open and nothing put out, so of the rows only those about the record itself can hold, and
-- only the definition store and the count of events change.
-- Assumes nothing.
use Prim.Native.Nat.{ℕ, suc, ◌+◌, ◌≤◌}
use native.Mathlib.Nat.{add-zero}
use native.Mathlib.Omega.{arith}
use borrow.Author.Tests.{le-ltb}
use lib.Dec.{leb, ltb}
use lib.ListN.{length, drop}
use lib.Seq.{drop-length}
use mathlib.Core.Path.{◌≡◌, refl, ap, sym, ◌∙◌}
use mathlib.Core.Bool.{Bool, true, false, ◌&&◌, ◌||◌}
use mathlib.Core.List.{List, [], ◌∷◌, flat_map}
use mathlib.Core.Option.{Option, none, some}
use Rattle.lists.specs.Lists.{only_if, over}
use Rattle.lists.proofs.Places.{over_nothing}
use Rattle.records.specs.Readers.{Bytes}
use Rattle.records.specs.Refusals.{Refusal, first_of, out_of_place, too_many_events, undefined, unbalanced, bound_twice, definitions_full, too_deep, too_many_scopes, too_many_selections, tuples_full, reports_full}
use Rattle.records.specs.Records.{IdRecord, NsRecord, Rec, ID, NS}
use Rattle.session_spec.specs.Definitions.{is_definition, is_undefined, is_bound, too_many_defined}
use Rattle.session_spec.specs.Layout.{pack, put_name}
use Rattle.session_spec.specs.Session.{World, Session, misplaced, is_unbalanced, tick, next, new_tuples, new_reports, tuple_bytes, report_bytes, rows, counts_of, behind_old, one_scope, patch, settled}
use Rattle.session_laws.proofs.Holds.{Holds}
use Rattle.plans.specs.Plans.{answered, definition_rows, defined}
use Rattle.plans.proofs.Rows.{skip, under, row_is}
use Rattle.plans.proofs.Unchanged.{none-behind, cells-again}
use Rattle.session_laws.proofs.Follows.{with_def}

module _ (w : World) (s : Session) (r : Rec) (bs : Bytes) (h : Holds w s) where
  abbrev t : Session
  t = with_def s r

  no-tuples : tuple_bytes s t ≡ []
  unfolding tuple_bytes new_tuples tick flat_map
  no-tuples = rw (drop-length s.state.out.tuples)

  no-reports : report_bytes s t ≡ []
  unfolding report_bytes new_reports tick flat_map
  no-reports = rw (drop-length s.state.out.reports)

  tuples-fit : ltb (length w.tuple_store) (w.tuples + length (tuple_bytes s t)) ≡ false
  tuples-fit = rw no-tuples (le-ltb (length w.tuple_store) (w.tuples + 0) (omega (arith, h.tuples.room)))

  reports-fit : ltb (length w.report_store) (w.reports + length (report_bytes s t)) ≡ false
  reports-fit = rw no-reports (le-ltb (length w.report_store) (w.reports + 0) (omega (arith, h.reports.room)))

  nothing-against : first_of
      ((ltb 64 (length t.state.names), too_deep)
      ∷ (ltb 16 (length t.state.scopes), too_many_scopes)
      ∷ (ltb 32 (length t.state.selections), too_many_selections)
      ∷ (ltb (length w.tuple_store) (w.tuples + length (tuple_bytes s t)), tuples_full)
      ∷ (ltb (length w.report_store) (w.reports + length (report_bytes s t)), reports_full)
      ∷ []) ≡ none
  unfolding tick
  nothing-against =
      skip _ too_deep _ (le-ltb 64 (length s.state.names) h.fine.deep)
      ∙ skip _ too_many_scopes _ (le-ltb 16 (length s.state.scopes) h.fine.scopes_few)
      ∙ skip _ too_many_selections _ (le-ltb 32 (length s.state.selections) h.fine.selections_few)
      ∙ skip _ tuples_full _ tuples-fit
      ∙ skip _ reports_full _ reports-fit
      ∙ unfold first_of in refl

  rows_are : is_definition r ≡ true → is_unbalanced (length s.state.names) r ≡ false → first_of (rows w s r t bs) ≡ first_of (definition_rows w s r bs)
  unfolding rows definition_rows
  rows_are i b =
      under (misplaced s.stage r) out_of_place _ _
      (row_is (leb 1000000 s.state.events) (leb 1000000 w.events) too_many_events _ (ap (leb 1000000) (sym h.events))
      ∙ under (leb 1000000 w.events) too_many_events _ _
      (under (is_undefined r s.defs) undefined _ _
      (skip (is_unbalanced (length s.state.names) r) unbalanced _ b
      ∙ under (is_bound r s.defs) bound_twice _ _
      (row_is (too_many_defined r s.defs || (is_definition r && ltb (length w.definition_store) (w.definitions + length bs)))
      (too_many_defined r s.defs || ltb (length w.definition_store) (w.definitions + length bs)) definitions_full _
      (ap (λ (x : Bool). too_many_defined r s.defs || (x && ltb (length w.definition_store) (w.definitions + length bs))) i)
      ∙ under (too_many_defined r s.defs || ltb (length w.definition_store) (w.definitions + length bs)) definitions_full _ [] (nothing-against ∙ unfold first_of in refl)))))

  left-as-is : is_definition r ≡ true → patch w s r t bs ≡ defined w bs
  unfolding patch defined tick counts_of
  left-as-is i = λ j.
      record {
        events = ap suc (sym h.events) j;
        running = sym h.packed j;
        definitions = w.definitions + length (kept j);
        tuples = (ap (λ (l : Bytes). w.tuples + length l) no-tuples ∙ add-zero w.tuples) j;
        reports = (ap (λ (l : Bytes). w.reports + length l) no-reports ∙ add-zero w.reports) j;
        definition_store = over w.definition_store w.definitions (kept j);
        tuple_store = (ap (over w.tuple_store w.tuples) no-tuples ∙ over_nothing w.tuple_store w.tuples) j;
        report_store = (ap (over w.report_store w.reports) no-reports ∙ over_nothing w.report_store w.reports) j;
        names = none-behind 514 put_name s.state.names s.state.names w.names (omega arith) j;
        scopes = none-behind 1 one_scope s.state.scopes s.state.scopes w.scopes (omega arith) j;
        cells = cells-again s.state.scopes s.state.selections w.cells h.cells j;
        path_area = w.path_area;
      }
    where
      kept : only_if (is_definition r) bs ≡ bs
      kept = unfold only_if in rw i

  settles : (o : Option Refusal) → is_definition r ≡ true → settled w s r t bs o ≡ answered w (defined w bs) o
  unfolding settled answered
  settles none i = rw (left-as-is i)
  settles (some c) i = refl

-- ID AND NS
pub id-settled : (w : World) (s : Session) (i : IdRecord) (bs : Bytes) → Holds w s
    → settled w s (ID i) (next s (ID i)) bs (first_of (rows w s (ID i) (next s (ID i)) bs)) ≡ answered w (defined w bs) (first_of (definition_rows w s (ID i) bs))
unfolding next is_definition is_unbalanced
id-settled w s i bs h = rw (rows_are w s (ID i) bs h refl refl) (settles w s (ID i) bs h (first_of (definition_rows w s (ID i) bs)) refl)

pub ns-settled : (w : World) (s : Session) (b : NsRecord) (bs : Bytes) → Holds w s
    → settled w s (NS b) (next s (NS b)) bs (first_of (rows w s (NS b) (next s (NS b)) bs)) ≡ answered w (defined w bs) (first_of (definition_rows w s (NS b) bs))
unfolding next is_definition is_unbalanced
ns-settled w s b bs h = rw (rows_are w s (NS b) bs h refl refl) (settles w s (NS b) bs h (first_of (definition_rows w s (NS b) bs)) refl)
