-- `step` on an ES: kind 6 once a name, by induction on what the listed numbers come to; no tuple; the lists of names, scopes and selections grow at the end.
-- Assumes nothing.
use Prim.Native.Nat.{ℕ, zero, suc, ◌+◌, ◌-◌, ◌*◌, ◌≤◌, ◌<◌}
use native.Mathlib.Nat.{add-zero, one-mul}
use native.Mathlib.Omega.{arith}
use borrow.Author.Tests.{le-ltb}
use lib.Dec.{eqb, leb, ltb}
use lib.ListN.{length, take, drop, length-map}
use lib.Seq.{drop-length, drop-append_seam}
use mathlib.Core.Path.{◌≡◌, refl, ap, sym, ◌∙◌, subst}
use mathlib.Core.Bool.{Bool, true, false, cond}
use mathlib.Core.List.{List, [], ◌∷◌, ◌++◌, map, flat_map, append-nil, append_assoc}
use mathlib.Core.Option.{Option, none, some}
use Rattle.lists.specs.Lists.{any, only_if, over, foldl}
use Rattle.lists.proofs.Places.{over_nothing}
use Rattle.texts.specs.Texts.{Text, same}
use Rattle.tree.specs.Events.{Opening, opens, fails, openings, opened, scopes_of}
use Rattle.tree.specs.Tree.{Item, failed, failed_item, failures}
use Rattle.tree.specs.Judge.{Tuple, Report, Out, kind_six, tell, judge, judge_all}
use Rattle.machine.specs.Machine.{OpenScope, Selection, State, at, pick_up, start_gives, feed, start_a}
use Rattle.records.specs.Readers.{Bytes}
use Rattle.records.specs.Refusals.{Refusal, first_of, out_of_place, too_many_events, undefined, unbalanced, bound_twice, definitions_full, too_deep, too_many_scopes, too_many_selections, tuples_full, reports_full}
use Rattle.records.specs.Records.{ES, EsRecord}
use Rattle.session_spec.specs.Definitions.{is_definition, is_undefined, is_bound, too_many_defined, defined_at}
use Rattle.session_spec.specs.Layout.{pack, put_name, put_tu, put_rp, put_scope, put_selection}
use Rattle.session_spec.specs.Session.{World, during, Session, stage_number, start_of, misplaced, is_unbalanced, next, new_tuples, new_reports, tuple_bytes, report_bytes, rows, counts_of, behind_old, one_scope, patch, settled}
use Rattle.session_laws.proofs.Holds.{Holds}
use Rattle.session_laws.proofs.Patched.{records-are}
use Rattle.plans.specs.Plans.{answered, listed, names_then, new_scopes, scopes_then, picked, selections_then, start_fed, six_from, sixes, start_rows, start_counts, started_by}
use Rattle.plans.proofs.Rows.{skip, under, row_is}
use Rattle.session_laws.proofs.Stores.{reports-size}

-- ---- kind 6 once a name

record Told (o p : Out) (more : List Report) : Type 0 where
  tuples : p.tuples ≡ o.tuples
  reports : p.reports ≡ o.reports ++ more

sixes-told : (e : ℕ) (os : List Opening) (o : Out) → Told o (judge_all o (flat_map (failed_item e) os)) (six_from e o.told os)
unfolding judge_all flat_map failed_item six_from judge tell
sixes-told e [] o = record { tuples = refl; reports = sym (append-nil o.reports) }
sixes-told e (opens sc ∷ os) o = sixes-told e os o
sixes-told e (fails c t ∷ os) o = by (any (same t) o.told) (sixes-told e os)
  where
    more : Out
    more = record { tuples = o.tuples; reports = o.reports ++ (kind_six e c ∷ []); told = o.told ++ (t ∷ []) }

    by : (b : Bool) → ((p : Out) → Told p (judge_all p (flat_map (failed_item e) os)) (six_from e p.told os))
        → Told o (judge_all (cond b o more) (flat_map (failed_item e) os)) (cond b (six_from e o.told os) (kind_six e c ∷ six_from e (o.told ++ (t ∷ [])) os))
    by true ih = ih o
    by false ih =
        let i = ih more in
        record { tuples = i.tuples; reports = i.reports ∙ append_assoc o.reports (kind_six e c ∷ []) (six_from e (o.told ++ (t ∷ [])) os) }

module _ (w : World) (s : Session) (r : EsRecord) (bs : Bytes) (h : Holds w s) where
  abbrev st : State
  st = s.state

  abbrev t : Session
  t = record { defs = s.defs; stage = during; state = start_a (defined_at s.defs) st (start_of r) }

  told : Told st.out t.state.out (sixes s r)
  unfolding start_a failures sixes listed start_of
  told = sixes-told (suc st.events) (listed s r) st.out

  no-tuples : tuple_bytes s t ≡ []
  unfolding tuple_bytes new_tuples
  no-tuples = ap (λ (l : List Tuple). flat_map put_tu (drop (length st.out.tuples) l)) told.tuples ∙ rw (drop-length st.out.tuples) (unfold flat_map in refl)

  sixes-out : report_bytes s t ≡ flat_map put_rp (sixes s r)
  unfolding report_bytes new_reports
  sixes-out =
      ap (λ (l : List Report). flat_map put_rp (drop (length st.out.reports) l)) told.reports
      ∙ ap (flat_map put_rp) (drop-append_seam st.out.reports (sixes s r))

  sixes-size : length (report_bytes s t) ≡ 18 * length (sixes s r)
  sixes-size = ap length sixes-out ∙ reports-size (sixes s r)

  selections-many : length t.state.selections ≡ length (selections_then s r)
  unfolding start_a selections_then picked scopes_then new_scopes names_then listed start_of
  selections-many = length-map (selections_then s r) (feed (names_then s r) (start_gives (start_of r)))

  rows_are : first_of (rows w s (ES r) t bs) ≡ first_of (start_rows w s r)
  unfolding rows start_rows is_unbalanced is_bound too_many_defined is_definition names_then scopes_then new_scopes listed start_a start_of
  rows_are =
      under (misplaced s.stage (ES r)) out_of_place _ _
      (row_is (leb 1000000 st.events) (leb 1000000 w.events) too_many_events _ (ap (leb 1000000) (sym h.events))
      ∙ under (leb 1000000 w.events) too_many_events _ _
      (under (is_undefined (ES r) s.defs) undefined _ _
      (skip false unbalanced _ refl
      ∙ skip false bound_twice _ refl
      ∙ skip false definitions_full _ refl
      ∙ under (ltb 64 (length (names_then s r))) too_deep _ _
      (under (ltb 16 (length (scopes_then s r))) too_many_scopes _ _
      (row_is (ltb 32 (length t.state.selections)) (ltb 32 (length (selections_then s r))) too_many_selections _ (ap (ltb 32) selections-many)
      ∙ under (ltb 32 (length (selections_then s r))) too_many_selections _ _
      (skip (ltb (length w.tuple_store) (w.tuples + length (tuple_bytes s t))) tuples_full _
      (rw no-tuples (le-ltb (length w.tuple_store) (w.tuples + 0) (omega (arith, h.tuples.room))))
      ∙ row_is (ltb (length w.report_store) (w.reports + length (report_bytes s t))) (ltb (length w.report_store) (w.reports + 18 * length (sixes s r))) reports_full []
      (ap (λ (n : ℕ). ltb (length w.report_store) (w.reports + n)) sixes-size)))))))

  -- ---- what it leaves

  name-written : behind_old 514 put_name st.names t.state.names w.names ≡ over w.names (514 * length st.names) (put_name (start_of r).name)
  unfolding behind_old start_a flat_map
  name-written = rw (drop-append_seam st.names ((start_of r).name ∷ []), append-nil (put_name (start_of r).name))

  scopes-written : behind_old 1 one_scope st.scopes t.state.scopes w.scopes ≡ over w.scopes (length st.scopes) (map put_scope (new_scopes s r))
  unfolding behind_old start_a new_scopes names_then listed start_of
  scopes-written =
      ap (λ (l : List OpenScope). over w.scopes (1 * length st.scopes) (flat_map one_scope l)) (drop-append_seam st.scopes (new_scopes s r))
      ∙ ap (over w.scopes (1 * length st.scopes)) (records-are (new_scopes s r))
      ∙ ap (λ (n : ℕ). over w.scopes n (map put_scope (new_scopes s r))) (one-mul (length st.scopes))

  left : patch w s (ES r) t bs ≡ started_by w s r
  unfolding patch started_by is_definition only_if counts_of start_counts stage_number start_a start_fed selections_then picked scopes_then new_scopes names_then listed start_of
  left = λ j.
      record {
        events = ap suc (sym h.events) j;
        running = pack (record { stage = suc (length (names_then s r)); scopes = length (scopes_then s r); selections = selections-many j; opened = opened (defined_at s.defs) st.count r.numbers });
        definitions = add-zero w.definitions j;
        tuples = (ap (λ (l : Bytes). w.tuples + length l) no-tuples ∙ add-zero w.tuples) j;
        reports = ap (λ (n : ℕ). w.reports + n) sixes-size j;
        definition_store = over_nothing w.definition_store w.definitions j;
        tuple_store = (ap (over w.tuple_store w.tuples) no-tuples ∙ over_nothing w.tuple_store w.tuples) j;
        report_store = ap (over w.report_store w.reports) sixes-out j;
        names = name-written j;
        scopes = scopes-written j;
        cells = over w.cells 0 (flat_map (put_selection (scopes_then s r)) (start_fed s r));
        path_area = w.path_area;
      }

  settles : (o : Option Refusal) → settled w s (ES r) t bs o ≡ answered w (started_by w s r) o
  unfolding settled answered
  settles none = rw left
  settles (some c) = refl

-- ES
pub es-settled : (w : World) (s : Session) (r : EsRecord) (bs : Bytes) → Holds w s
    → settled w s (ES r) (next s (ES r)) bs (first_of (rows w s (ES r) (next s (ES r)) bs)) ≡ answered w (started_by w s r) (first_of (start_rows w s r))
unfolding next
es-settled w s r bs h = rw (rows_are w s r bs h) (settles w s r bs h (first_of (start_rows w s r)))
