-- What each kind of record comes to, in what code can count and write: the rows of refusals that can hold of it, and the world after it where none does.
-- That this is `step` is proved in proofs/.
-- Assumes nothing.
use Rattle.std.specs.Prelude.{ℕ, suc, ◌+◌, ◌*◌, ◌-◌, eqb, leb, ltb, length, cond, ◌||◌, not}
use mathlib.Core.List.{List, [], ◌∷◌, ◌++◌, map, flat_map}
use Rattle.std.proofs.Math.Option.{Option, none, some}
use Rattle.lists.specs.Lists.{any, over, passing}
use Rattle.texts.specs.Texts.{Text, same}
use Rattle.paths.specs.Names.{Name}
use Rattle.tree.specs.Events.{Opening, opens, fails, openings, opened, scopes_of}
use Rattle.tree.specs.Judge.{Report, kind_six, kind_fives}
use Rattle.machine.specs.Machine.{OpenScope, Selection, at, pick_up, start_gives, end_gives, feed}
use Rattle.records.specs.Readers.{Bytes}
use Rattle.records.specs.Refusals.{Refusal, out_of_place, too_many_events, undefined, unbalanced, bound_twice, definitions_full, too_deep, too_many_scopes, too_many_selections, tuples_full, reports_full, Row, first_of}
use Rattle.records.specs.Records.{Rec, ES, EE, FI, EsRecord, EeRecord}
use Rattle.session_spec.specs.Definitions.{is_undefined, is_bound, too_many_defined, defined_at}
use Rattle.session_spec.specs.Layout.{Counts, pack, put_tu, put_rp, put_name, put_scope, put_selection}
use Rattle.session_spec.specs.Session.{World, Session, start_of, end_of, misplaced, Reply, taken, refused}
use Rattle.runs.proofs.TwoPass.{Added, adds_all}

-- a refusal changes nothing
unfoldable pub answered : World → World → Option Refusal → Reply × World
answered w after none = (taken, after)
answered w after (some c) = (refused c, w)

-- ---- ID and NS

unfoldable pub definition_rows : World → Session → Rec → Bytes → List Row
definition_rows w s r bs =
    (misplaced s.stage r, out_of_place)
    ∷ (leb 1000000 w.events, too_many_events)
    ∷ (is_undefined r s.defs, undefined)
    ∷ (is_bound r s.defs, bound_twice)
    ∷ (too_many_defined r s.defs || ltb (length w.definition_store) (w.definitions + length bs), definitions_full)
    ∷ []

-- the record is kept whole
unfoldable pub defined : World → Bytes → World
defined w bs =
    record {
      events = suc w.events;
      running = w.running;
      definitions = w.definitions + length bs;
      tuples = w.tuples;
      reports = w.reports;
      definition_store = over w.definition_store w.definitions bs;
      tuple_store = w.tuple_store;
      report_store = w.report_store;
      names = w.names;
      scopes = w.scopes;
      cells = w.cells;
      path_area = w.path_area;
    }

-- ---- ES

-- what the listed numbers come to
unfoldable pub listed : Session → EsRecord → List Opening
listed s r = openings (defined_at s.defs) s.state.count r.numbers

unfoldable pub names_then : Session → EsRecord → List Name
names_then s r = s.state.names ++ ((start_of r).name ∷ [])

unfoldable pub new_scopes : Session → EsRecord → List OpenScope
new_scopes s r = map (at (length (names_then s r))) (scopes_of (listed s r))

unfoldable pub scopes_then : Session → EsRecord → List OpenScope
scopes_then s r = s.state.scopes ++ new_scopes s r

-- the element's new selections, of every open scope
unfoldable pub picked : Session → EsRecord → List Selection
picked s r = flat_map (pick_up (names_then s r)) (scopes_then s r)

-- all selections, before and after the attributes' hits
unfoldable pub selections_then : Session → EsRecord → List Selection
selections_then s r = s.state.selections ++ picked s r

unfoldable pub start_fed : Session → EsRecord → List Selection
start_fed s r = map (feed (names_then s r) (start_gives (start_of r))) (selections_then s r)

-- kind 6 for those that do not read, once a name
unfoldable pub six_from : (event : ℕ) → (told : List Text) → List Opening → List Report
six_from e told [] = []
six_from e told (opens sc ∷ os) = six_from e told os
six_from e told (fails c t ∷ os) = cond (any (same t) told) (six_from e told os) (kind_six e c ∷ six_from e (told ++ (t ∷ [])) os)

unfoldable pub sixes : Session → EsRecord → List Report
sixes s r = six_from (suc s.state.events) s.state.out.told (listed s r)

unfoldable pub start_rows : World → Session → EsRecord → List Row
start_rows w s r =
    (misplaced s.stage (ES r), out_of_place)
    ∷ (leb 1000000 w.events, too_many_events)
    ∷ (is_undefined (ES r) s.defs, undefined)
    ∷ (ltb 64 (length (names_then s r)), too_deep)
    ∷ (ltb 16 (length (scopes_then s r)), too_many_scopes)
    ∷ (ltb 32 (length (selections_then s r)), too_many_selections)
    ∷ (ltb (length w.report_store) (w.reports + 18 * length (sixes s r)), reports_full)
    ∷ []

unfoldable pub start_counts : Session → EsRecord → Counts
start_counts s r =
    record {
      stage = suc (length (names_then s r));
      scopes = length (scopes_then s r);
      selections = length (selections_then s r);
      opened = opened (defined_at s.defs) s.state.count r.numbers;
    }

unfoldable pub started_by : World → Session → EsRecord → World
started_by w s r =
    record {
      events = suc w.events;
      running = pack (start_counts s r);
      definitions = w.definitions;
      tuples = w.tuples;
      reports = w.reports + 18 * length (sixes s r);
      definition_store = w.definition_store;
      tuple_store = w.tuple_store;
      report_store = over w.report_store w.reports (flat_map put_rp (sixes s r));
      names = over w.names (514 * length s.state.names) (put_name (start_of r).name);
      scopes = over w.scopes (length s.state.scopes) (map put_scope (new_scopes s r));
      cells = over w.cells 0 (flat_map (put_selection (scopes_then s r)) (start_fed s r));
      path_area = w.path_area;
    }

-- ---- EE

-- the selections after the element's hits: those that stay open, and those of the element, which finish
unfoldable pub fed : Session → EeRecord → List Selection
fed s r = map (feed s.state.names (end_gives (end_of r))) s.state.selections

unfoldable pub staying : Session → EeRecord → List Selection
staying s r = passing (λ x. not (eqb x.depth (length s.state.names))) (fed s r)

unfoldable pub ending : Session → EeRecord → List Selection
ending s r = passing (λ x. eqb x.depth (length s.state.names)) (fed s r)

-- what these put out, each judged against the tuples as they stand
unfoldable pub end_adds : Session → EeRecord → Added
end_adds s r = adds_all s.state.out.tuples (suc s.state.events) (ending s r)

unfoldable pub end_rows : World → Session → EeRecord → List Row
end_rows w s r =
    (misplaced s.stage (EE r), out_of_place)
    ∷ (leb 1000000 w.events, too_many_events)
    ∷ (eqb (length s.state.names) 0, unbalanced)
    ∷ (ltb (length w.tuple_store) (w.tuples + length (flat_map put_tu (end_adds s r).tuples)), tuples_full)
    ∷ (ltb (length w.report_store) (w.reports + 18 * length (end_adds s r).reports), reports_full)
    ∷ []

-- the scopes of the element close
unfoldable pub scopes_left : Session → List OpenScope
scopes_left s = passing (λ o. not (eqb o.depth (length s.state.names))) s.state.scopes

-- a stage is one more than the open elements
unfoldable pub end_counts : Session → EeRecord → Counts
end_counts s r =
    record { stage = length s.state.names; scopes = length (scopes_left s); selections = length (staying s r); opened = s.state.count }

unfoldable pub ended_by : World → Session → EeRecord → World
ended_by w s r =
    record {
      events = suc w.events;
      running = pack (end_counts s r);
      definitions = w.definitions;
      tuples = w.tuples + length (flat_map put_tu (end_adds s r).tuples);
      reports = w.reports + 18 * length (end_adds s r).reports;
      definition_store = w.definition_store;
      tuple_store = over w.tuple_store w.tuples (flat_map put_tu (end_adds s r).tuples);
      report_store = over w.report_store w.reports (flat_map put_rp (end_adds s r).reports);
      names = w.names;
      scopes = w.scopes;
      cells = over w.cells 0 (flat_map (put_selection s.state.scopes) (staying s r));
      path_area = w.path_area;
    }

-- ---- FI

-- the reports of kind 5
unfoldable pub fives : Session → List Report
fives s = kind_fives (suc s.state.events) s.state.out.tuples 0 s.state.out.tuples

unfoldable pub finish_rows : World → Session → List Row
finish_rows w s =
    (misplaced s.stage FI, out_of_place)
    ∷ (leb 1000000 w.events, too_many_events)
    ∷ (ltb 0 (length s.state.names), unbalanced)
    ∷ (ltb (length w.report_store) (w.reports + 18 * length (fives s)), reports_full)
    ∷ []

unfoldable pub finish_counts : Session → Counts
finish_counts s = record { stage = 66; scopes = length s.state.scopes; selections = length s.state.selections; opened = s.state.count }

unfoldable pub finished_by : World → Session → World
finished_by w s =
    record {
      events = suc w.events;
      running = pack (finish_counts s);
      definitions = w.definitions;
      tuples = w.tuples;
      reports = w.reports + 18 * length (fives s);
      definition_store = w.definition_store;
      tuple_store = w.tuple_store;
      report_store = over w.report_store w.reports (flat_map put_rp (fives s));
      names = w.names;
      scopes = w.scopes;
      cells = w.cells;
      path_area = w.path_area;
    }
