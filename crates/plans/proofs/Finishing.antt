-- `step` on an FI: it puts out reports of kind 5 and nothing else, so of the rows only those about its place and the room for them can hold.
-- Assumes nothing.
use Prim.Native.Nat.{ℕ, suc, ◌+◌, ◌*◌, ◌≤◌}
use native.Mathlib.Nat.{add-zero}
use native.Mathlib.Omega.{arith}
use borrow.Author.Tests.{le-ltb}
use lib.Dec.{leb, ltb}
use lib.ListN.{length, drop}
use lib.Seq.{drop-length, drop-append_seam}
use mathlib.Core.Path.{◌≡◌, refl, ap, sym, ◌∙◌}
use mathlib.Core.Bool.{Bool, true, false, ◌&&◌, ◌||◌}
use mathlib.Core.List.{List, [], ◌∷◌, flat_map}
use mathlib.Core.Option.{Option, none, some}
use Rattle.lists.specs.Lists.{only_if, over}
use Rattle.lists.proofs.Places.{over_nothing}
use Rattle.tree.specs.Judge.{finish_out}
use Rattle.machine.specs.Machine.{finish_a}
use Rattle.records.specs.Readers.{Bytes}
use Rattle.records.specs.Refusals.{Refusal, first_of, out_of_place, too_many_events, undefined, unbalanced, bound_twice, definitions_full, too_deep, too_many_scopes, too_many_selections, tuples_full, reports_full}
use Rattle.records.specs.Records.{FI}
use Rattle.session_spec.specs.Definitions.{is_definition, is_undefined, is_bound, too_many_defined}
use Rattle.session_spec.specs.Layout.{pack, put_name, put_rp}
use Rattle.session_spec.specs.Session.{World, Session, done, stage_number, misplaced, is_unbalanced, next, new_tuples, new_reports, tuple_bytes, report_bytes, rows, counts_of, behind_old, one_scope, patch, settled}
use Rattle.session_laws.proofs.Holds.{Holds}
use Rattle.plans.specs.Plans.{answered, fives, finish_rows, finish_counts, finished_by}
use Rattle.plans.proofs.Rows.{skip, under, row_is}
use Rattle.plans.proofs.Unchanged.{none-behind, cells-again}
use Rattle.session_laws.proofs.Stores.{reports-size}

module _ (w : World) (s : Session) (bs : Bytes) (h : Holds w s) where
  abbrev t : Session
  t = record { defs = s.defs; stage = done; state = finish_a s.state }

  no-tuples : tuple_bytes s t ≡ []
  unfolding tuple_bytes new_tuples finish_a finish_out flat_map
  no-tuples = rw (drop-length s.state.out.tuples)

  fives-out : report_bytes s t ≡ flat_map put_rp (fives s)
  unfolding report_bytes new_reports finish_a finish_out fives
  fives-out = rw (drop-append_seam s.state.out.reports (fives s))

  fives-size : length (report_bytes s t) ≡ 18 * length (fives s)
  fives-size = ap length fives-out ∙ reports-size (fives s)

  rows_are : first_of (rows w s FI t bs) ≡ first_of (finish_rows w s)
  unfolding rows finish_rows is_undefined is_unbalanced is_bound too_many_defined is_definition
  rows_are =
      under (misplaced s.stage FI) out_of_place _ _
      (row_is (leb 1000000 s.state.events) (leb 1000000 w.events) too_many_events _ (ap (leb 1000000) (sym h.events))
      ∙ under (leb 1000000 w.events) too_many_events _ _
      (skip false undefined _ refl
      ∙ under (ltb 0 (length s.state.names)) unbalanced _ _
      (skip false bound_twice _ refl
      ∙ skip false definitions_full _ refl
      ∙ skip (ltb 64 (length t.state.names)) too_deep _ (unfold finish_a in le-ltb 64 (length s.state.names) h.fine.deep)
      ∙ skip (ltb 16 (length t.state.scopes)) too_many_scopes _ (unfold finish_a in le-ltb 16 (length s.state.scopes) h.fine.scopes_few)
      ∙ skip (ltb 32 (length t.state.selections)) too_many_selections _ (unfold finish_a in le-ltb 32 (length s.state.selections) h.fine.selections_few)
      ∙ skip (ltb (length w.tuple_store) (w.tuples + length (tuple_bytes s t))) tuples_full _
      (rw no-tuples (le-ltb (length w.tuple_store) (w.tuples + 0) (omega (arith, h.tuples.room))))
      ∙ row_is (ltb (length w.report_store) (w.reports + length (report_bytes s t))) (ltb (length w.report_store) (w.reports + 18 * length (fives s))) reports_full []
      (ap (λ (n : ℕ). ltb (length w.report_store) (w.reports + n)) fives-size))))

  left : patch w s FI t bs ≡ finished_by w s
  unfolding patch finished_by is_definition only_if counts_of finish_counts stage_number finish_a
  left = λ j.
      record {
        events = ap suc (sym h.events) j;
        running = pack (finish_counts s);
        definitions = add-zero w.definitions j;
        tuples = (ap (λ (l : Bytes). w.tuples + length l) no-tuples ∙ add-zero w.tuples) j;
        reports = ap (λ (n : ℕ). w.reports + n) fives-size j;
        definition_store = over_nothing w.definition_store w.definitions j;
        tuple_store = (ap (over w.tuple_store w.tuples) no-tuples ∙ over_nothing w.tuple_store w.tuples) j;
        report_store = ap (over w.report_store w.reports) fives-out j;
        names = none-behind 514 put_name s.state.names s.state.names w.names (omega arith) j;
        scopes = none-behind 1 one_scope s.state.scopes s.state.scopes w.scopes (omega arith) j;
        cells = cells-again s.state.scopes s.state.selections w.cells h.cells j;
        path_area = w.path_area;
      }

  settles : (o : Option Refusal) → settled w s FI t bs o ≡ answered w (finished_by w s) o
  unfolding settled answered
  settles none = rw left
  settles (some c) = refl

-- FI
pub fi-settled : (w : World) (s : Session) (bs : Bytes) → Holds w s
    → settled w s FI (next s FI) bs (first_of (rows w s FI (next s FI) bs)) ≡ answered w (finished_by w s) (first_of (finish_rows w s))
unfolding next
fi-settled w s bs h = rw (rows_are w s bs h) (settles w s bs h (first_of (finish_rows w s)))
