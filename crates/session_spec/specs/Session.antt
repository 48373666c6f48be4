-- THE SESSION: the world that is lent to a call, what it decodes to, the refusals because of the session, and what a call answers and leaves.
-- The contract of the record call cites `step`.
-- Assumes nothing.
use Rattle.std.specs.Prelude.{ℕ, suc, ◌+◌, ◌-◌, ◌*◌, eqb, leb, ltb, length, take, drop, Bool, true, false, cond, ◌&&◌, ◌||◌, not}
use mathlib.Core.List.{List, [], ◌∷◌, map, flat_map}
use Rattle.std.proofs.Math.Option.{Option, none, some}
use Rattle.lists.specs.Lists.{all, only_if, over}
use Rattle.texts.specs.Texts.{Text}
use Rattle.paths.specs.Names.{name_of}
use Rattle.paths.specs.Reading.{on_some, every}
use Rattle.tree.specs.Events.{Start, End}
use Rattle.tree.specs.Judge.{Tuple, Report}
use Rattle.machine.specs.Machine.{OpenScope, Selection, State, start_a, end_a, finish_a}
use Rattle.records.specs.Readers.{Bytes, reads}
use Rattle.records.specs.Refusals.{Refusal, unfit, out_of_place, too_many_events, undefined, unbalanced, bound_twice, definitions_full, too_deep, too_many_scopes, too_many_selections, tuples_full, reports_full, refusal_number, Row, first_of}
use Rattle.records.specs.Records.{Rec, ID, NS, ES, EE, FI, EsRecord, EeRecord, Parsed, unparsed, parsed, parse}
use Rattle.session_spec.specs.Definitions.{Definitions, define, is_undefined, is_bound, too_many_defined, is_definition, read_definitions, constraint_at, defined_at}
use Rattle.session_spec.specs.Layout.{TuRecord, read_tu, put_tu, as_tuple, read_rp, put_rp, parts, put_name, name_in, ScopeRecord, put_scope, scope_in, put_selection, selection_in, Counts, pack, unpack}

-- All that is lent: the five numbers, the three stores, the areas. Of the path area only the length counts.
pub record World : Type 0 where
  pub events : ℕ
  pub running : ℕ
  pub definitions : ℕ
  pub tuples : ℕ
  pub reports : ℕ
  pub definition_store : Bytes
  pub tuple_store : Bytes
  pub report_store : Bytes
  pub names : Bytes
  pub scopes : List ScopeRecord
  pub cells : Bytes
  pub path_area : ℕ

-- before the first ES; from then on; after FI
pub data Stage : Type 0 where
  before during done : Stage

-- What a world decodes to.
pub record Session : Type 0 where
  pub defs : Definitions
  pub stage : Stage
  pub state : State

-- ---- the stage is 0 before the first ES, 1 + d with d elements open, 66 after FI

unfoldable pub stage_of : ℕ → Stage
stage_of n = cond (eqb n 0) before (cond (eqb n 66) done during)

unfoldable pub depth_of : Stage → ℕ → ℕ
depth_of before n = 0
depth_of during n = n - 1
depth_of done n = 0

unfoldable pub stage_number : Stage → ℕ → ℕ
stage_number before d = 0
stage_number during d = suc d
stage_number done d = 66

-- ---- well formed: the counts

-- the areas are long enough: the path area as request U11 has it, the others as document 01 does
unfoldable pub areas_fit : World → Bool
areas_fit w = leb 1024 w.path_area && (leb 16 (length w.scopes) && (leb 32896 (length w.names) && leb 16384 (length w.cells)))

-- before the first ES no scope was opened and nothing put out
unfoldable pub begun_fit : World → Counts → Bool
begun_fit w c = not (eqb c.stage 0) || (eqb w.running 0 && (eqb w.tuples 0 && eqb w.reports 0))

-- no count is above its limit, no used length past its store
unfoldable pub counts_fit : World → Counts → Bool
counts_fit w c =
    (areas_fit w && begun_fit w c)
    && ((leb w.events 1000000 && (leb c.stage 66 && (leb c.scopes 16 && (leb c.selections 32 && leb c.opened (8 * w.events)))))
    && (leb w.definitions (length w.definition_store) && (leb w.tuples (length w.tuple_store) && leb w.reports (length w.report_store))))

-- ---- well formed: the records there

-- an open scope's constraint is defined, it lies on an open element, and its number was given
unfoldable pub scope_fits : Definitions → (depth opened : ℕ) → ScopeRecord → Bool
scope_fits d depth opened s = ltb s.constraint (length d.ids) && (leb s.depth depth && leb s.number opened)

-- numbers rise from `n`, depths do not fall from `depth`
unfoldable pub rising : (n depth : ℕ) → List ScopeRecord → Bool
rising n depth [] = true
rising n depth (s ∷ ss) = (ltb n s.number && leb depth s.depth) && rising s.number s.depth ss

unfoldable pub scopes_in : Definitions → (depth opened : ℕ) → List ScopeRecord → Option (List OpenScope)
scopes_in d depth opened ss = cond (all (scope_fits d depth opened) ss && rising 0 1 ss) (some (map (scope_in d) ss)) none

-- each selection is deeper than the one before it or, on the same element, of a later scope
unfoldable pub comes_after : (depth number : ℕ) → Selection → Bool
comes_after depth n s = ltb depth s.depth || (eqb depth s.depth && ltb n s.scope.number)

unfoldable pub climbing : (depth number : ℕ) → List Selection → Bool
climbing depth n [] = true
climbing depth n (s ∷ ss) = comes_after depth n s && climbing s.depth s.scope.number ss

-- a selection is of an open element
unfoldable pub on_open : (depth : ℕ) → Selection → Bool
on_open depth s = leb s.depth depth

unfoldable pub fitting : (depth : ℕ) → List Selection → Option (List Selection)
fitting depth ss = cond (all (on_open depth) ss && climbing 0 0 ss) (some ss) none

unfoldable pub selections_in : List OpenScope → (depth : ℕ) → List Bytes → Option (List Selection)
selections_in os depth xs = on_some (every (selection_in os) xs) (λ ss. fitting depth ss)

-- a TU's constraint is defined and its scope was opened
unfoldable pub tu_fits : Definitions → (opened : ℕ) → TuRecord → Bool
tu_fits d opened t = ltb t.constraint (length d.ids) && leb t.scope opened

unfoldable pub tuples_in : Definitions → (opened most : ℕ) → List TuRecord → Option (List Tuple)
tuples_in d opened most ts = cond (all (tu_fits d opened) ts && leb (length ts) most) (some (map (as_tuple d) ts)) none

unfoldable pub rp_fits : Definitions → Report → Bool
rp_fits d r = ltb r.constraint (length d.ids)

unfoldable pub reports_in : Definitions → List Report → Option (List Report)
reports_in d rs = cond (all (rp_fits d) rs) (some rs) none

-- the names of the constraints that kind 6 was reported for
unfoldable pub told_by : Definitions → List Report → List Text
told_by d rs = flat_map (λ r. only_if (eqb r.kind 6) ((constraint_at d r.constraint).name ∷ [])) rs

-- ---- WHAT THE WORLD DECODES TO; refusal 10 exactly where this is none

unfoldable pub decode_with : World → Counts → Option Session
decode_with w c =
    let st : Stage = stage_of c.stage in
    let depth : ℕ = depth_of st c.stage in
    on_some (read_definitions (take w.definitions w.definition_store)) (λ d.
    on_some (every name_in (parts 514 depth w.names)) (λ names.
    on_some (scopes_in d depth c.opened (take c.scopes w.scopes)) (λ scopes.
    on_some (selections_in scopes depth (parts 512 c.selections w.cells)) (λ selections.
    on_some (reads read_tu (take w.tuples w.tuple_store)) (λ tus.
    on_some (tuples_in d c.opened (32 * w.events) tus) (λ tuples.
    on_some (reads read_rp (take w.reports w.report_store)) (λ rps.
    on_some (reports_in d rps) (λ reports.
    some (record {
      defs = d;
      stage = st;
      state = record {
        names = names;
        scopes = scopes;
        selections = selections;
        count = c.opened;
        events = w.events;
        out = record { tuples = tuples; reports = reports; told = told_by d reports };
      };
    })))))))))

unfoldable pub decode_if : Bool → World → Counts → Option Session
decode_if true w c = decode_with w c
decode_if false w c = none

unfoldable pub decode : World → Option Session
decode w = decode_if (counts_fit w (unpack w.running)) w (unpack w.running)

-- ---- one record more, where nothing stands against it

unfoldable pub start_of : EsRecord → Start
start_of r = record { name = name_of r.space r.name; numbers = r.numbers; attributes = r.attributes }

unfoldable pub end_of : EeRecord → End
end_of r = record { simple = r.simple; key = r.key }

-- an accepted record is counted
unfoldable pub tick : State → State
tick st =
    record {
      names = st.names;
      scopes = st.scopes;
      selections = st.selections;
      count = st.count;
      events = suc st.events;
      out = st.out;
    }

unfoldable pub next : Session → Rec → Session
next s (ID r) = record { defs = define (ID r) s.defs; stage = s.stage; state = tick s.state }
next s (NS r) = record { defs = define (NS r) s.defs; stage = s.stage; state = tick s.state }
next s (ES r) = record { defs = s.defs; stage = during; state = start_a (defined_at s.defs) s.state (start_of r) }
next s (EE r) = record { defs = s.defs; stage = s.stage; state = end_a s.state (end_of r) }
next s FI = record { defs = s.defs; stage = done; state = finish_a s.state }

-- what this record puts out
unfoldable pub new_tuples : Session → Session → List Tuple
new_tuples s t = drop (length s.state.out.tuples) t.state.out.tuples

unfoldable pub new_reports : Session → Session → List Report
new_reports s t = drop (length s.state.out.reports) t.state.out.reports

unfoldable pub tuple_bytes : Session → Session → Bytes
tuple_bytes s t = flat_map put_tu (new_tuples s t)

unfoldable pub report_bytes : Session → Session → Bytes
report_bytes s t = flat_map put_rp (new_reports s t)

-- ---- the refusals because of the session, in document 01's order

-- 11: ID or NS after the first ES; any record after FI
unfoldable pub misplaced : Stage → Rec → Bool
misplaced before r = false
misplaced during r = is_definition r
misplaced done r = true

-- 13: EE with no element open; FI with one open
unfoldable pub is_unbalanced : (depth : ℕ) → Rec → Bool
is_unbalanced depth (ID r) = false
is_unbalanced depth (NS r) = false
is_unbalanced depth (ES r) = false
is_unbalanced depth (EE r) = eqb depth 0
is_unbalanced depth FI = ltb 0 depth

-- `bs` are the record's bytes, `t` the session after it
unfoldable pub rows : World → Session → Rec → Session → Bytes → List Row
rows w s r t bs =
    (misplaced s.stage r, out_of_place)
    ∷ (leb 1000000 s.state.events, too_many_events)
    ∷ (is_undefined r s.defs, undefined)
    ∷ (is_unbalanced (length s.state.names) r, unbalanced)
    ∷ (is_bound r s.defs, bound_twice)
    ∷ (too_many_defined r s.defs || (is_definition r && ltb (length w.definition_store) (w.definitions + length bs)), definitions_full)
    ∷ (ltb 64 (length t.state.names), too_deep)
    ∷ (ltb 16 (length t.state.scopes), too_many_scopes)
    ∷ (ltb 32 (length t.state.selections), too_many_selections)
    ∷ (ltb (length w.tuple_store) (w.tuples + length (tuple_bytes s t)), tuples_full)
    ∷ (ltb (length w.report_store) (w.reports + length (report_bytes s t)), reports_full)
    ∷ []

-- ---- back to the bytes: what is new is written behind what is used

unfoldable pub counts_of : Session → Counts
counts_of s =
    record {
      stage = stage_number s.stage (length s.state.names);
      scopes = length s.state.scopes;
      selections = length s.state.selections;
      opened = s.state.count;
    }

-- what was appended to a list is written behind the old part, in places of width `w`
unfoldable pub behind_old : {A C : Type 0} → ℕ → (A → List C) → List A → List A → List C → List C
behind_old w put old new area = over area (w * length old) (flat_map put (drop (length old) new))

unfoldable pub one_scope : OpenScope → List ScopeRecord
one_scope o = put_scope o ∷ []

unfoldable pub patch : World → Session → Rec → Session → Bytes → World
patch w s r t bs =
    let kept : Bytes = only_if (is_definition r) bs in
    record {
      events = t.state.events;
      running = pack (counts_of t);
      definitions = w.definitions + length kept;
      tuples = w.tuples + length (tuple_bytes s t);
      reports = w.reports + length (report_bytes s t);
      definition_store = over w.definition_store w.definitions kept;
      tuple_store = over w.tuple_store w.tuples (tuple_bytes s t);
      report_store = over w.report_store w.reports (report_bytes s t);
      names = behind_old 514 put_name s.state.names t.state.names w.names;
      scopes = behind_old 1 one_scope s.state.scopes t.state.scopes w.scopes;
      cells = over w.cells 0 (flat_map (put_selection t.state.scopes) t.state.selections);
      path_area = w.path_area;
    }

-- ---- THE RECORD CALL

pub data Reply : Type 0 where
  taken : Reply
  refused : Refusal → Reply

-- the number that document 01 gives it; a record that is taken is answered by 0
unfoldable pub reply_number : Reply → ℕ
reply_number taken = 0
reply_number (refused c) = refusal_number c

unfoldable pub settled : World → Session → Rec → Session → Bytes → Option Refusal → Reply × World
settled w s r t bs none = (taken, patch w s r t bs)
settled w s r t bs (some c) = (refused c, w)

unfoldable pub considered : World → Session → Bytes → Parsed → Reply × World
considered w s bs (unparsed c) = (refused c, w)
considered w s bs (parsed r) = settled w s r (next s r) bs (first_of (rows w s r (next s r) bs))

unfoldable pub attempt : World → Bytes → Option Session → Reply × World
attempt w bs none = (refused unfit, w)
attempt w bs (some s) = considered w s bs (parse bs)

unfoldable pub step : World → Bytes → Reply × World
step w bs = attempt w bs (decode w)

-- ---- set-up: five zeros; stores and areas are whatever is lent

unfoldable pub set_up : (definition_store tuple_store report_store names : Bytes) → (scopes : List ScopeRecord) → (cells : Bytes) → (path_area : ℕ) → World
set_up ds ts rs na ss cs ps =
    record {
      events = 0;
      running = 0;
      definitions = 0;
      tuples = 0;
      reports = 0;
      definition_store = ds;
      tuple_store = ts;
      report_store = rs;
      names = na;
      scopes = ss;
      cells = cs;
      path_area = ps;
    }
