-- Lists of calls: what they leave, the records among them that are accepted, the tree of these, and how the same calls are answered on the tree.
-- Assumes nothing.
use Rattle.std.specs.Prelude.{ℕ, ◌+◌, ◌*◌, leb, ltb, length, take, Bool, true, false, cond, ◌&&◌, ◌||◌}
use mathlib.Core.List.{List, [], ◌∷◌, ◌++◌, flat_map}
use Rattle.std.proofs.Math.Option.{Option, none, some}
use Rattle.lists.specs.Lists.{any, only_if, foldl}
use Rattle.tree.specs.Events.{Event, es, ee}
use Rattle.tree.specs.Tree.{Forest, items}
use Rattle.tree.specs.Judge.{Report, Out, blank, judge_all, finish_out}
use Rattle.tree.specs.Build.{tree}
use Rattle.tree.specs.Open.{open_elements, open_scopes, open_selections}
use Rattle.machine.specs.Machine.{initial}
use Rattle.records.specs.Readers.{Bytes, reads}
use Rattle.records.specs.Refusals.{Refusal, out_of_place, too_many_events, undefined, unbalanced, bound_twice, definitions_full, too_deep, too_many_scopes, too_many_selections, tuples_full, reports_full, Row, first_of}
use Rattle.records.specs.Records.{Rec, ID, NS, ES, EE, FI, Parsed, unparsed, parsed, parse}
use Rattle.session_spec.specs.Definitions.{Definitions, no_definitions, define, is_undefined, is_bound, too_many_defined, is_definition, defined_at, or_none}
use Rattle.session_spec.specs.Layout.{put_tu, read_rp}
use Rattle.session_spec.specs.Session.{World, Stage, before, during, done, Session, next, start_of, end_of, misplaced, is_unbalanced, Reply, taken, refused, step}

-- ---- calls one after another

-- each gets the world as the last one left it
unfoldable pub run_calls : World → List Bytes → World
run_calls w [] = w
run_calls w (x ∷ xs) = run_calls (step w x).1 xs

unfoldable pub taken_of : Reply → Parsed → List Rec
taken_of (refused c) p = []
taken_of taken (unparsed c) = []
taken_of taken (parsed r) = r ∷ []

-- the records that no refusal meets
unfoldable pub accepted : World → List Bytes → List Rec
accepted w [] = []
accepted w (x ∷ xs) = taken_of (step w x).0 (parse x) ++ accepted (step w x).1 xs

-- the bytes of those among them that define, as the definition store keeps them
unfoldable pub defining_bytes : Reply → Parsed → Bytes → Bytes
defining_bytes (refused c) p x = []
defining_bytes taken (unparsed c) x = []
defining_bytes taken (parsed r) x = only_if (is_definition r) x

unfoldable pub definition_bytes : World → List Bytes → Bytes
definition_bytes w [] = []
definition_bytes w (x ∷ xs) = defining_bytes (step w x).0 (parse x) x ++ definition_bytes (step w x).1 xs

-- the reports in the used part of the report store
unfoldable pub stored_reports : World → List Report
stored_reports w = or_none (reads read_rp (take w.reports w.report_store))

-- ---- the session and the tree of the accepted records

abbrev pub new_session : Session
new_session = record { defs = no_definitions; stage = before; state = initial 0 }

unfoldable pub session_of : List Rec → Session
session_of rs = foldl next new_session rs

unfoldable pub definitions_of : List Rec → Definitions
definitions_of rs = foldl (λ d r. define r d) no_definitions rs

-- how many of them define
unfoldable pub defined_in : List Rec → ℕ
defined_in rs = length (flat_map (λ r. only_if (is_definition r) (r ∷ [])) rs)

unfoldable pub event_of : Rec → List Event
event_of (ID r) = []
event_of (NS r) = []
event_of (ES r) = es (start_of r) ∷ []
event_of (EE r) = ee (end_of r) ∷ []
event_of FI = []

unfoldable pub events_of : List Rec → List Event
events_of rs = flat_map event_of rs

unfoldable pub is_start : Rec → Bool
is_start (ID r) = false
is_start (NS r) = false
is_start (ES r) = true
is_start (EE r) = false
is_start FI = false

unfoldable pub is_finish : Rec → Bool
is_finish (ID r) = false
is_finish (NS r) = false
is_finish (ES r) = false
is_finish (EE r) = false
is_finish FI = true

-- THE TREE has an element for each ES among them.
unfoldable pub tree_of : List Rec → Forest
tree_of rs = tree (defined_at (definitions_of rs)) (defined_in rs) (events_of rs)

-- WHAT THE TREE DEFINITION GIVES on it; kind 5 once FI is among them.
unfoldable pub tree_out : List Rec → Out
tree_out rs =
    let o : Out = judge_all blank (items [] (tree_of rs)) in
    cond (any is_finish rs) (finish_out (length rs) o) o

-- ---- the calls on the tree

-- How long the three stores are.
pub record Room : Type 0 where
  pub definitions : ℕ
  pub tuples : ℕ
  pub reports : ℕ

unfoldable pub room_of : World → Room
room_of w = record { definitions = length w.definition_store; tuples = length w.tuple_store; reports = length w.report_store }

unfoldable pub stage_in : List Rec → Stage
stage_in rs = cond (any is_finish rs) done (cond (any is_start rs) during before)

-- The refusals because of the session, by the accepted records and their tree; `kept` bytes of the definition store are used.
unfoldable pub tree_rows : Room → (kept : ℕ) → List Rec → Rec → Bytes → List Row
tree_rows room kept rs r bs =
    let after : List Rec = rs ++ (r ∷ []) in
    (misplaced (stage_in rs) r, out_of_place)
    ∷ (leb 1000000 (length rs), too_many_events)
    ∷ (is_undefined r (definitions_of rs), undefined)
    ∷ (is_unbalanced (open_elements (tree_of rs)) r, unbalanced)
    ∷ (is_bound r (definitions_of rs), bound_twice)
    ∷ (too_many_defined r (definitions_of rs) || (is_definition r && ltb room.definitions (kept + length bs)), definitions_full)
    ∷ (ltb 64 (open_elements (tree_of after)), too_deep)
    ∷ (ltb 16 (open_scopes (tree_of after)), too_many_scopes)
    ∷ (ltb 32 (open_selections [] (tree_of after)), too_many_selections)
    ∷ (ltb room.tuples (length (flat_map put_tu (tree_out after).tuples)), tuples_full)
    ∷ (ltb room.reports (18 * length (tree_out after).reports), reports_full)
    ∷ []

unfoldable pub answered : Option Refusal → Reply
answered none = taken
answered (some c) = refused c

unfoldable pub tree_answer : Room → (kept : ℕ) → List Rec → Bytes → Parsed → Reply
tree_answer room kept rs bs (unparsed c) = refused c
tree_answer room kept rs bs (parsed r) = answered (first_of (tree_rows room kept rs r bs))

-- HOW A CALL IS ANSWERED ON THE TREE, with areas that are long enough.
unfoldable pub tree_reply : Room → (kept : ℕ) → List Rec → Bytes → Reply
tree_reply room kept rs bs = tree_answer room kept rs bs (parse bs)

-- WHICH OF SOME RECORDS ARE TAKEN ON THE TREE: each is answered by `rs` and what was taken before it, and by the bytes of definitions kept till then.
unfoldable pub tree_taken : Room → (kept : ℕ) → List Rec → List Bytes → List Rec
tree_taken room kept rs [] = []
tree_taken room kept rs (x ∷ xs) =
    let reply : Reply = tree_reply room kept rs x in
    taken_of reply (parse x) ++ tree_taken room (kept + length (defining_bytes reply (parse x) x)) (rs ++ taken_of reply (parse x)) xs
